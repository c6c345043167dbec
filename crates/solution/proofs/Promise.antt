-- The promise of a solution, from what the solve ensures of the slices that were lent to it.
use Prim.Native.Nat.{ℕ, ◌≤◌}
use mathlib.Core.Path.{◌≡◌, ◌∙◌, ap}
use mathlib.Core.List.{List, ◌++◌}
use lib.ListN.{length, take, drop, length-replicate}
use lib.Seq.{take_at}
use lib.IntN.{ℤ, pos}
use Rattle.std.specs.Prelude.{Result}
use Rattle.tape.specs.declared.Tape.{Tape}
use Rattle.tape.specs.declared.refusal.Refusal.{Refusal}
use Rattle.tape.specs.Reading.{reading}
use Rattle.tape.specs.Tape.{zeros}
use Rattle.rounds.specs.Running.{Ending}
use Rattle.solver.specs.declared.Solved.{Solved}
use Rattle.solver.specs.Demand.{Upheld}
use Rattle.solver.specs.Solving.{solving, answer_of, plan_left, multipliers_left}
use Rattle.solution.specs.declared.Solution.{Solution}
use Rattle.solution.specs.Solution.{plan_numbers, multiplier_numbers, solution_of}
use Rattle.solution.proofs.TapeSizes.{Room, take-zeros, drop-zeros}

-- the first k of n places, once a call has left its numbers there
left_in_front : (k n : ℕ) (left : List ℤ) → k ≤ n → length left ≡ length (take k (zeros n)) → take k (left ++ drop k (zeros n)) ≡ left
left_in_front k n left h l = take_at left (drop k (zeros n)) k (l ∙ ap length (take-zeros k n h) ∙ length-replicate k (pos 0))

module _ (s : List ℕ) where
  abbrev t : Tape
  t = (reading s).tape

  abbrev lent_plan : List ℤ
  lent_plan = take (plan_numbers t) (zeros 120)

  abbrev lent_multipliers : List ℤ
  lent_multipliers = take (multiplier_numbers t) (zeros 72)

  abbrev ending : Ending
  ending = solving s lent_plan lent_multipliers

  -- the result: each array has what the call left, then the zeros that were not lent
  abbrev made : Result Solved Refusal → List ℤ → List ℤ → Solution
  made answer plan y =
      record { answer = answer; tape = t; plan = plan ++ drop (plan_numbers t) (zeros 120); multipliers = y ++ drop (multiplier_numbers t) (zeros 72) }

  pub solution_promise : {answer : Result Solved Refusal} (plan y : List ℤ) → Room t → length plan ≡ length lent_plan → length y ≡ length lent_multipliers →
      answer ≡ answer_of t ending → plan ≡ plan_left ending lent_plan → y ≡ multipliers_left ending lent_multipliers → Upheld answer t plan y →
      (made answer plan y ≡ solution_of s)
      × Upheld answer t (take (plan_numbers t) (made answer plan y).plan) (take (multiplier_numbers t) (made answer plan y).multipliers)
  unfolding solution_of
  solution_promise plan y r l k a p q u =
      let v = take-zeros (plan_numbers t) 120 r.plan in
      let w = take-zeros (multiplier_numbers t) 72 r.multipliers in
      let behind-plan = drop-zeros (plan_numbers t) 120 r.plan in
      let behind-multipliers = drop-zeros (multiplier_numbers t) 72 r.multipliers in (
        rw (behind-plan, behind-multipliers, rw (v, w) at a, rw (v, w) at p, rw (v, w) at q),
        rw (left_in_front (plan_numbers t) 120 plan r.plan l, left_in_front (multiplier_numbers t) 72 y r.multipliers k) u,
      )
