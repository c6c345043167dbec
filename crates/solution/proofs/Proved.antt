-- What a 'proved' says of the solution: judged again, its multipliers grant the gap.
use Prim.Native.Nat.{ℕ, ◌-◌, ◌≤◌}
use mathlib.Core.Path.{◌≡◌}
use mathlib.Core.List.{List}
use native.Mathlib.Omega.{arith}
use lib.ListN.{length, length-append, take}
use lib.Seq.{take_at}
use lib.IntN.{ℤ, pos}
use Rattle.std.specs.Prelude.{Ok}
use Rattle.integer.specs.Order.{◌≼◌}
use Rattle.integer.proofs.Operand.{Bytes}
use Rattle.tape.specs.declared.Tape.{Tape}
use Rattle.tape.specs.Reading.{reading}
use Rattle.tape.specs.Tape.{zeros}
use Rattle.judge.specs.Demand.{NoneCheaper}
use Rattle.judge.specs.Judging.{judged}
use Rattle.judge.proofs.Granted.{Granted, granted, accepted, gap_nonneg}
use Rattle.solver.specs.declared.Duties.{Duties}
use Rattle.solver.specs.declared.Solved.TheVariants.{Proved}
use Rattle.solver.specs.Solving.{plan_left, multipliers_left}
use Rattle.solver.proofs.Again.{judged_again}
use Rattle.solution.specs.declared.Solution.{Solution}
use Rattle.solution.specs.Solution.{plan_numbers, multiplier_numbers, ending_on, solution_of}

module _ (s : List ℕ) (bytes : Bytes s) where
  abbrev t : Tape
  t = (reading s).tape

  -- what the solve left
  abbrev plan : List ℤ
  plan = plan_left (ending_on s t) (zeros (plan_numbers t))

  abbrev y : List ℤ
  y = multipliers_left (ending_on s t) (zeros (multiplier_numbers t))

  module _ {rounds : ℕ} {gap : ℤ} {first : Duties} (r : Solution) (is : r ≡ solution_of s) (proved : r.answer ≡ Ok (Proved rounds gap first)) where
    again : judged s plan y ≡ Ok gap
    unfolding solution_of
    again = rw (rw is at proved) at (judged_again s (zeros (plan_numbers t)) (zeros (multiplier_numbers t)))

    pub proved_nonneg : pos 0 ≼ gap
    proved_nonneg = gap_nonneg s plan y bytes gap again

    pub proved_granted : Granted r.tape (take (multiplier_numbers r.tape) r.multipliers) gap
    unfolding solution_of
    proved_granted =
        let g = granted s plan y bytes gap again in
        rw (is, take_at y (zeros (72 - multiplier_numbers t)) (multiplier_numbers t) g.long) g

    pub proved_room : multiplier_numbers r.tape ≤ length r.multipliers
    unfolding solution_of
    proved_room = rw is (omega (arith, (granted s plan y bytes gap again).long, length-append y (zeros (72 - multiplier_numbers t))))

    -- and the plan is accepted
    pub proved_accepted : NoneCheaper r.tape (take (plan_numbers r.tape) r.plan) (take (multiplier_numbers r.tape) r.multipliers) gap
    unfolding solution_of
    proved_accepted =
        let a = accepted s plan y bytes gap again in
        rw (
          is,
          take_at plan (zeros (120 - plan_numbers t)) (plan_numbers t) a.itself.long,
          take_at y (zeros (72 - multiplier_numbers t)) (multiplier_numbers t) (granted s plan y bytes gap again).long,
        ) a
