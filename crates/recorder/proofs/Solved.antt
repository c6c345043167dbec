-- The record of a tape, from the solution that `solve_tape` gives.
use Prim.Native.Nat.{ℕ, ◌-◌, ◌≤◌}
use mathlib.Core.Path.{◌≡◌, refl, sym, ◌∙◌}
use mathlib.Core.List.{List}
use native.Mathlib.Omega.{arith}
use lib.ListN.{length, take, length-append, length-replicate}
use lib.Seq.{take_at}
use lib.IntN.{ℤ, pos}
use Rattle.integer.proofs.Operand.{Bytes}
use Rattle.integer.proofs.Order.{order}
use Rattle.integer.proofs.Parts.{negated}
use Rattle.integer.proofs.Sizes.{size_by, back, back_is}
use Rattle.commands.specs.Ranges.{most_wanted}
use Rattle.std.specs.Prelude.{Result, Ok}
use Rattle.tape.specs.declared.Tape.{Tape}
use Rattle.tape.specs.declared.refusal.Refusal.{Refusal}
use Rattle.tape.specs.Reading.{reading}
use Rattle.tape.specs.Tape.{zeros}
use Rattle.rounds.specs.Running.{Ending, proved, impossible, refused}
use Rattle.solver.specs.declared.Duties.{Duties}
use Rattle.solver.specs.declared.Solved.{Solved}
use Rattle.solver.specs.declared.Solved.TheVariants.{Proved}
use Rattle.solver.specs.Solving.{answer_of, plan_left, multipliers_left}
use Rattle.solution.specs.declared.Solution.{Solution}
use Rattle.solution.specs.Solution.{plan_numbers, multiplier_numbers, ending_on, solution_of}
use Rattle.records.specs.declared.Sizes.{Sizes}
use Rattle.recorder.specs.Held.{KeptFits}
use Rattle.records.specs.Readers.{plan_count, multiplier_count}
use Rattle.recorder.specs.Recording.{sizes_of, Recording, record_of, recording}
use Rattle.recorder.proofs.Fits.{recording_fits}

-- what a solve leaves is as long as what it was lent
left_lengths : (t : Tape) (p q : ℕ) (e : Ending) → p ≡ plan_numbers t → q ≡ multiplier_numbers t →
    KeptFits (record_of (sizes_of t) (answer_of t e) (plan_left e (zeros p)) (multipliers_left e (zeros q))) →
    (length (plan_left e (zeros p)) ≡ p) × (length (multipliers_left e (zeros q)) ≡ q)
left_lengths t p q (proved rounds gap plan y) h k f = (f.outcome.3.long ∙ sym h, f.outcome.4.long ∙ sym k)
left_lengths t p q (impossible rounds y) h k f = (length-replicate p (pos 0), f.outcome.long ∙ sym k)
left_lengths t p q (refused why) h k f = (length-replicate p (pos 0), length-replicate q (pos 0))

module _ (s : List ℕ) (b : Bytes s) where
  abbrev t : Tape
  t = (reading s).tape

  abbrev e : Ending
  e = ending_on s t

  fits_ending : KeptFits (record_of (sizes_of t) (answer_of t e) (plan_left e (zeros (plan_numbers t))) (multipliers_left e (zeros (multiplier_numbers t))))
  unfolding recording
  fits_ending = recording_fits s b

  lengths : (length (plan_left e (zeros (plan_numbers t))) ≡ plan_numbers t) × (length (multipliers_left e (zeros (multiplier_numbers t))) ≡ multiplier_numbers t)
  lengths = left_lengths t (plan_numbers t) (multiplier_numbers t) e refl refl fits_ending

  solution_room : (plan_numbers t ≤ length (solution_of s).plan) × (multiplier_numbers t ≤ length (solution_of s).multipliers)
  unfolding solution_of
  solution_room = (
    omega (arith, lengths.0, length-append (plan_left e (zeros (plan_numbers t))) (zeros (120 - plan_numbers t))),
    omega (arith, lengths.1, length-append (multipliers_left e (zeros (multiplier_numbers t))) (zeros (72 - multiplier_numbers t))),
  )

  -- the first numbers of its arrays are what the solve left
  solution_record : recording s ≡ record_of (sizes_of t) (solution_of s).answer (take (plan_numbers t) (solution_of s).plan) (take (multiplier_numbers t) (solution_of s).multipliers)
  unfolding recording solution_of
  solution_record =
      rw (
        take_at (plan_left e (zeros (plan_numbers t))) (zeros (120 - plan_numbers t)) (plan_numbers t) lengths.0,
        take_at (multipliers_left e (zeros (multiplier_numbers t))) (zeros (72 - multiplier_numbers t)) (multiplier_numbers t) lengths.1,
      )

  module _ (solution : Solution) (is : solution ≡ solution_of s) (z : Sizes) (same : z ≡ sizes_of t) where
    pub arrays_room : (plan_count z ≤ length solution.plan) × (multiplier_count z ≤ length solution.multipliers)
    arrays_room = rw (is, same) solution_room

    abbrev pub made : Result Solved Refusal → Recording
    made a = record_of z a (take (plan_count z) solution.plan) (take (multiplier_count z) solution.multipliers)

    pub recorded : {a : Result Solved Refusal} → solution.answer ≡ a → recording s ≡ made a
    recorded h = rw (sym h, is, same) solution_record

    pub recorded_fits : {a : Result Solved Refusal} → solution.answer ≡ a → KeptFits (made a)
    recorded_fits h = rw (recorded h) at (recording_fits s b)

    -- the gap is as it is read back
    pub gap_back : {rounds : ℕ} {gap : ℤ} {first : Duties} → solution.answer ≡ Ok (Proved rounds gap first) → back gap ≡ gap
    gap_back {gap = gap} h = let f = (recorded_fits h).outcome in back_is gap (size_by {z = gap} (omega (arith, order, f.1, negated (pos most_wanted))) f.2) (omega arith)
