-- The ranges on a slip hold every rival that costs no more than the plan of which the slip has the first duties.
use Prim.Native.Nat.{ℕ}
use mathlib.Core.Path.{◌≡◌, refl}
use mathlib.Core.List.{List}
use lib.ListN.{take}
use lib.IntN.{ℤ}
use Rattle.std.specs.Prelude.{Ok}
use Rattle.integer.proofs.Operand.{Bytes}
use Rattle.ranges.specs.Ranges.{first_ranges, NearPlan}
use Rattle.ranges.proofs.Duties.{near_plan}
use Rattle.solver.specs.declared.Duties.{Duties}
use Rattle.solver.specs.declared.Solved.TheVariants.{Proved}
use Rattle.solution.specs.declared.Solution.{Solution}
use Rattle.solution.specs.Solution.{plan_numbers, multiplier_numbers, solution_of}
use Rattle.solution.proofs.Proved.{proved_nonneg, proved_granted, proved_accepted}

module _ (s : List ℕ) (bytes : Bytes s) where
  abbrev r : Solution
  r = solution_of s

  abbrev plan : List ℤ
  plan = take (plan_numbers r.tape) r.plan

  abbrev y : List ℤ
  y = take (multiplier_numbers r.tape) r.multipliers

  pub slip-near : {rounds : ℕ} {gap : ℤ} {first : Duties} → r.answer ≡ Ok (Proved rounds gap first) → NearPlan r.tape plan y (first_ranges r.tape y gap)
  slip-near proved =
      let gap_is = (proved_accepted s bytes r refl proved).reported in
      rw gap_is (near_plan r.tape (proved_granted s bytes r refl proved).lawful plan y (rw gap_is at (proved_nonneg s bytes r refl proved)))
