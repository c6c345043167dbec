-- Sums over a plan's places, term by term: what the loops of `plan_cost`, `ceiling_of` and `pieces` have in common.
use Prim.Native.Nat.{ℕ, ◌+◌, ◌*◌, ◌^◌, ◌<◌, ◌≤◌}
use mathlib.Core.Path.{◌≡◌, ap, ◌∙◌}
use mathlib.Core.List.{List, []}
use native.Mathlib.Omega.{arith}
use native.Mathlib.Nat.{mul-le-mul_right}
use lib.IntN.{ℤ, nat_abs, ◌+ℤ◌}
use lib.Signed.{mag}
use Rattle.integer.specs.Places.{at, Bounded}
use Rattle.integer.specs.Sum.{sum}
use Rattle.integer.proofs.Sizes.{called, back, back_is, Formed}
use Rattle.integer.proofs.Sum.{added}
use Rattle.commands.specs.Ranges.{most_number}
use Rattle.problem.specs.declared.Term.{Term}
use Rattle.problem.specs.Cost.{cost, plan_cost}
use Rattle.primal.specs.Padded.{padded_plan, term_of, term_at, padded_problem}
use Rattle.primal.specs.Ranges.{Ranged, Tables}
use Rattle.primal.proofs.Places.{size-total}
use Rattle.primal.proofs.TermSizes.{most_cost, near, size-cost}

-- the numbers of a term as the code reads them make up the term
pub term_back : {t : Term} → Ranged t → term_of (back t.penalty) (back t.low) (back t.high) (back t.reference) ≡ t
term_back {t} g =
    let p = g.penalty in
    rw (
      back_is t.penalty p (omega arith),
      back_is t.low g.low (omega arith),
      back_is t.high g.high (omega arith),
      back_is t.reference g.reference (omega arith),
    )

module _ {terms : List Term} (tables : Tables terms) where
  pub size_plan_cost : (N : ℕ) → N ≤ 12 → {v : List ℤ} → Bounded most_number v →
      nat_abs (plan_cost (padded_problem N [] [] [] [] terms) (padded_plan v)) ≤ 120 * most_cost
  unfolding plan_cost cost
  size_plan_cost N l {v} b =
      size-total N _ _ l (λ k j h m. one (10 * k + j) (omega arith)) (λ k i h m. one (10 * k + (4 + i)) (omega arith))
    where
      one : (p : ℕ) → p < 120 → nat_abs (cost (term_at terms p) (at v p)) ≤ most_cost
      one p h = size-cost (near (tables.each p h) (at v p) (b.each p))
