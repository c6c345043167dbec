use Prim.Native.Nat.{ℕ, ◌≤◌}
use mathlib.Core.Path.{◌≡◌, sym, ◌∙◌, ap}
use mathlib.Core.List.{List}
use native.Mathlib.Omega.{arith}
use borrow.Author.Rules.{rules}
use lib.ListN.{length, take}
use lib.IntN.{ℤ, pos}
use Rattle.std.specs.Prelude.{Result, Ok}
use Rattle.integer.specs.Order.{◌≼◌}
use Rattle.integer.proofs.Operand.{Bytes, bytes_of}
use Rattle.integer.proofs.Order.{le_trans}
use Rattle.integer.proofs.Sizes.{back}
use Rattle.tape.specs.declared.refusal.Refusal.{Refusal}
use Rattle.primal.proofs.Lengths.{count_fits}
use Rattle.judge.proofs.Granted.{Granted}
use Rattle.solver.specs.declared.Solved.{Solved}
use Rattle.solver.specs.declared.Solved.TheVariants.{Proved}
use Rattle.solution.specs.declared.Solution.{Solution}
use Rattle.solution.specs.Solution.{multiplier_numbers, solution_of}
use Rattle.solution.proofs.Proved.{proved_nonneg, proved_granted, proved_room}
use Rattle.slip_text.specs.Slip.{slip, tape_slip, text_of}
use Rattle.slip_text.proofs.tape_slip.Goals as goal
use Rattle.slip_text.proofs.tape_slip.Goals.{In-Ok-Proved}

-- ---- The solution, and what 'proved' says of it

module _ (c : In-Ok-Proved) where
  abbrev r : Solution
  r = c.solve_tape-solution.result

  abbrev gap : ℤ
  gap = c.in-Ok-Proved.gap

  bytes : Bytes c.args.tape.now
  bytes = bytes_of c.type_inv.tape

  is_proved : r.answer ≡ Ok (Proved c.in-Ok-Proved.rounds gap c.in-Ok-Proved.first)
  is_proved = c.in-Ok-Proved.is ∙ ap Ok (rw c.in-Ok-Proved.is at c.in-Ok-Proved.field-0-is)

  gap_back : back gap ≡ gap
  gap_back = search rules

  gap_nonneg : pos 0 ≼ gap
  gap_nonneg = proved_nonneg _ bytes r c.solve_tape-solution.ensures.value is_proved

  inside : multiplier_numbers r.tape ≤ length r.multipliers
  inside = proved_room _ bytes r c.solve_tape-solution.ensures.value is_proved

  granted : Granted r.tape (take (multiplier_numbers r.tape) r.multipliers) gap
  granted = proved_granted _ bytes r c.solve_tape-solution.ensures.value is_proved

-- the slip of the solution's answer, a, is the tape's
slip_is : (s : List ℕ) (r : Solution) {a : Result Solved Refusal} → r ≡ solution_of s → r.answer ≡ a →
    text_of (slip a r.tape (take (multiplier_numbers r.tape) r.multipliers)) ≡ text_of (tape_slip s)
slip_is s r is e = rw (← e, is)

pub overflow_mul-q : goal.overflow_mul-q
overflow_mul-q c = let l = (granted (goal.at.overflow_mul-q c).In-Ok-Proved).lawful in count_fits _ _ l.steps.1 (omega (arith, l.states.1))

pub shared_ref_as_front-first_ranges : goal.shared_ref_as_front-first_ranges
shared_ref_as_front-first_ranges c = omega (arith, inside (goal.at.shared_ref_as_front-first_ranges c).In-Ok-Proved)

pub slice_bounds-first_ranges-end : goal.slice_bounds-first_ranges-end
slice_bounds-first_ranges-end c = sym (granted (goal.at.slice_bounds-first_ranges-end c).In-Ok-Proved).long

pub first_ranges-ranges-requires : goal.first_ranges-ranges-requires
first_ranges-ranges-requires c =
    let k = (goal.at.first_ranges-ranges-requires c).In-Ok-Proved in
    let g = granted k in
    rw (gap_back k) (record { legal = (g.lawful, g.long, g.ranged); pos = (gap_nonneg k, le_trans g.wanted g.lawful.wanted.1) })

pub returns-in-Ok-Proved : goal.returns-in-Ok-Proved
returns-in-Ok-Proved c =
    let k = (goal.at.returns-in-Ok-Proved c).In-Ok-Proved in
    let ranges = rw (gap_back k) at c.first_ranges-ranges.ensures in
    (rw (gap_back k, ranges) at c.proved.ensures).is ∙ slip_is c.args.tape.now (r k) c.solve_tape-solution.ensures.value (is_proved k)

pub returns-in-Ok-Impossible : goal.returns-in-Ok-Impossible
returns-in-Ok-Impossible c =
    let i = c.in-Ok-Impossible in
    let is = i.is ∙ ap Ok (rw i.is at i.field-0-is) in
    c.kind_and_rounds.ensures.holds.is ∙ slip_is c.args.tape.now c.solve_tape-solution.result c.solve_tape-solution.ensures.value is

pub returns-in-Err : goal.returns-in-Err
returns-in-Err c =
    c.refused.ensures.is ∙ slip_is c.args.tape.now c.solve_tape-solution.result c.solve_tape-solution.ensures.value c.in-Err.is
