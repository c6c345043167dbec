use Prim.Native.Nat.{ℕ, ◌≤◌}
use mathlib.Core.Path.{◌≡◌, refl, sym, ap, ◌∙◌}
use native.Mathlib.Omega.{arith}
use lib.ListN.{length}
use lib.Seq.{length-take-le}
use lib.IntN.{ℤ}
use Rattle.std.specs.Prelude.{Result, Ok}
use Rattle.integer.proofs.Operand.{Bytes, bytes_of}
use Rattle.integer.proofs.Sizes.{back}
use Rattle.tape.specs.declared.refusal.Refusal.{Refusal}
use Rattle.solver.specs.declared.Duties.{Duties}
use Rattle.solver.specs.declared.Solved.{Solved}
use Rattle.solver.specs.declared.Solved.TheVariants.{Proved}
use Rattle.records.specs.Held.{Fitting}
use Rattle.recorder.specs.Held.{KeptFits}
use Rattle.records.specs.Readers.{plan_count, multiplier_count}
use Rattle.recorder.specs.Recording.{Recording, recording}
use Rattle.records.proofs.Bytes.{counts_room}
use Rattle.recorder.proofs.Fits.{fitting}
use Rattle.recorder.proofs.Solved.{arrays_room, made, recorded, recorded_fits, gap_back}
use Rattle.recorder.proofs.write_solved.Goals as goal
use Rattle.recorder.proofs.write_solved.Goals.{After-solve_tape-solution}

-- ---- What the solution gives

module _ (c : After-solve_tape-solution) where
  tape_bytes : Bytes c.args.tape.now
  tape_bytes = bytes_of c.type_inv.tape

  sizes_fit : Fitting c.args.sizes
  sizes_fit = rw c.requires.0 (fitting c.args.tape.now tape_bytes)

  abbrev made_of : Result Solved Refusal → Recording
  made_of = made c.args.tape.now tape_bytes c.solve_tape-solution.result c.solve_tape-solution.ensures.value c.args.sizes c.requires.0

  is_made : {a : Result Solved Refusal} → c.solve_tape-solution.result.answer ≡ a → recording c.args.tape.now ≡ made_of a
  is_made = recorded c.args.tape.now tape_bytes c.solve_tape-solution.result c.solve_tape-solution.ensures.value c.args.sizes c.requires.0

  made_fits : {a : Result Solved Refusal} → c.solve_tape-solution.result.answer ≡ a → KeptFits (made_of a)
  made_fits = recorded_fits c.args.tape.now tape_bytes c.solve_tape-solution.result c.solve_tape-solution.ensures.value c.args.sizes c.requires.0

  room_of : let r = c.solve_tape-solution.result in (plan_count c.args.sizes ≤ length r.plan) × (multiplier_count c.args.sizes ≤ length r.multipliers)
  room_of = arrays_room c.args.tape.now tape_bytes c.solve_tape-solution.result c.solve_tape-solution.ensures.value c.args.sizes c.requires.0

  gap_of : {rounds : ℕ} {gap : ℤ} {first : Duties} → c.solve_tape-solution.result.answer ≡ Ok (Proved rounds gap first) → back gap ≡ gap
  gap_of = gap_back c.args.tape.now tape_bytes c.solve_tape-solution.result c.solve_tape-solution.ensures.value c.args.sizes c.requires.0

pub overflow_add-p : goal.overflow_add-p
overflow_add-p c = let f = sizes_fit (goal.at.overflow_add-p c).After-solve_tape-solution in omega (arith, f.states, f.inputs)

pub overflow_mul-p : goal.overflow_mul-p
overflow_mul-p c = omega (arith, (counts_room c.args.sizes (sizes_fit (goal.at.overflow_mul-p c).After-solve_tape-solution)).0)

pub overflow_mul-q : goal.overflow_mul-q
overflow_mul-q c = omega (arith, (counts_room c.args.sizes (sizes_fit (goal.at.overflow_mul-q c).After-solve_tape-solution)).1)

pub shared_ref_as_front-write_proved : goal.shared_ref_as_front-write_proved
shared_ref_as_front-write_proved c = (counts_room c.args.sizes (sizes_fit (goal.at.shared_ref_as_front-write_proved c).After-solve_tape-solution)).0

pub shared_ref_as_front-write_proved-in-Ok-Proved : goal.shared_ref_as_front-write_proved-in-Ok-Proved
shared_ref_as_front-write_proved-in-Ok-Proved c = (counts_room c.args.sizes (sizes_fit (goal.at.shared_ref_as_front-write_proved-in-Ok-Proved c).After-solve_tape-solution)).1

pub shared_ref_as_front-write_impossible : goal.shared_ref_as_front-write_impossible
shared_ref_as_front-write_impossible c = (counts_room c.args.sizes (sizes_fit (goal.at.shared_ref_as_front-write_impossible c).After-solve_tape-solution)).1

pub slice_bounds-write_proved-end : goal.slice_bounds-write_proved-end
slice_bounds-write_proved-end c = sym (length-take-le _ _ (room_of (goal.at.slice_bounds-write_proved-end c).After-solve_tape-solution).0)

pub slice_bounds-write_proved-end-in-Ok-Proved : goal.slice_bounds-write_proved-end-in-Ok-Proved
slice_bounds-write_proved-end-in-Ok-Proved c = sym (length-take-le _ _ (room_of (goal.at.slice_bounds-write_proved-end-in-Ok-Proved c).After-solve_tape-solution).1)

pub slice_bounds-write_impossible-end : goal.slice_bounds-write_impossible-end
slice_bounds-write_impossible-end c = sym (length-take-le _ _ (room_of (goal.at.slice_bounds-write_impossible-end c).After-solve_tape-solution).1)

pub write_proved-requires : goal.write_proved-requires
write_proved-requires c =
    let d = (goal.at.write_proved-requires c).After-solve_tape-solution in
    let h = c.in-Ok-Proved.is ∙ ap Ok (rw c.in-Ok-Proved.is at c.in-Ok-Proved.field-0-is) in
    (c.requires.1, c.requires.2, rw (gap_of d h) (made_fits d h))

pub write_impossible-requires : goal.write_impossible-requires
write_impossible-requires c = (c.requires.1, c.requires.2, made_fits (goal.at.write_impossible-requires c).After-solve_tape-solution (c.in-Ok-Impossible.is ∙ ap Ok (rw c.in-Ok-Impossible.is at c.in-Ok-Impossible.field-0-is)))

pub write_unanswered-requires : goal.write_unanswered-requires
write_unanswered-requires c = (made_fits (goal.at.write_unanswered-requires c).After-solve_tape-solution c.in-Err.is, c.requires.1, c.requires.2)

pub returns-in-Ok-Proved : goal.returns-in-Ok-Proved
returns-in-Ok-Proved c =
    let d = (goal.at.returns-in-Ok-Proved c).After-solve_tape-solution in
    let h = c.in-Ok-Proved.is ∙ ap Ok (rw c.in-Ok-Proved.is at c.in-Ok-Proved.field-0-is) in
    let w = rw (gap_of d h) at c.write_proved.ensures in
    rw (is_made d h) (record { value = refl; laboratory_after = w.laboratory_after; service_after = w.service_after })

pub returns-in-Ok-Impossible : goal.returns-in-Ok-Impossible
returns-in-Ok-Impossible c =
    let w = c.write_impossible.ensures in
    rw (is_made (goal.at.returns-in-Ok-Impossible c).After-solve_tape-solution (c.in-Ok-Impossible.is ∙ ap Ok (rw c.in-Ok-Impossible.is at c.in-Ok-Impossible.field-0-is)))
    (record { value = refl; laboratory_after = w.laboratory_after; service_after = w.service_after })

pub returns-in-Err : goal.returns-in-Err
returns-in-Err c = rw (is_made (goal.at.returns-in-Err c).After-solve_tape-solution c.in-Err.is) c.write_unanswered.ensures
