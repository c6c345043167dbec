-- The states that a step of the model gives, from the states before it and what is forced: what the loop of a step
-- tests, stores and adds up.
use Prim.Native.Nat.{ℕ, ◌+◌, ◌*◌, ◌<◌, ◌≤◌}
use mathlib.Core.Path.{◌≡◌, ap, subst}
use mathlib.Core.Bool.{Bool, false}
use mathlib.Core.List.{List}
use mathlib.Core.Logic.{inl}
use native.Mathlib.Omega.{arith}
use lib.ListN.{length, set}
use lib.IntN.{ℤ, nat_abs, ◌+ℤ◌, ◌*ℤ◌}
use Rattle.integer.specs.Places.{at, Bounded, Stretch}
use Rattle.integer.specs.Sum.{sum}
use Rattle.integer.specs.Tests.{any}
use Rattle.integer.proofs.Sum.{sum_cong, size-sum}
use Rattle.integer.proofs.Places.{stretch_store, stretch_bounded}
use Rattle.integer.proofs.Tests.{any_none, range_size}
use Rattle.commands.specs.Ranges.{most_number}
use Rattle.problem.specs.Model.{rounded}
use Rattle.problem.specs.Cost.{cost}
use Rattle.primal.specs.Padded.{state_matrix, padded}
use Rattle.primal.proofs.HeldSteps.{states_before}
use Rattle.primal.proofs.TermSizes.{most_cost, near, size-cost}
use Rattle.steps.specs.Steps.{exceeds}
use Rattle.lookup.specs.Table.{term_in, Rows}
use Rattle.passes.specs.Sums.{sum_by}

-- S of step k reads the states before the step: it stays as it is while the step's states are stored
pub sum_by_kept : {f : ℕ → ℤ} {old new : List ℤ} (a forced start : List ℤ) (k i w : ℕ) → Stretch (10 * k + 4) w f old new →
    sum_by a forced start new k i ≡ sum_by a forced start old k i
sum_by_kept a forced start k i w s =
    ap (λ (z : ℤ). z +ℤ padded forced k i)
    (sum_cong 6 _ _
    (λ j h. ap (λ (z : ℤ). state_matrix a i j *ℤ z)
    (states_before (at start) k 6 (λ q c l m. s.outside (10 * q + (4 + c)) (inl (omega arith))) j h)))

-- ---- What the loop of a step tests, stores and adds up

abbrev pub next_state : List ℤ → List ℤ → List ℤ → List ℤ → ℕ → ℕ → ℤ
next_state a forced start v k i = rounded (sum_by a forced start v k i)

abbrev pub is_over : List ℤ → List ℤ → List ℤ → List ℤ → List ℤ → ℕ → ℕ → Bool
is_over table a forced start v k i = exceeds (term_in table (10 * k + (4 + i))) (next_state a forced start v k i)

abbrev pub state_cost : List ℤ → List ℤ → List ℤ → List ℤ → List ℤ → ℕ → ℕ → ℤ
state_cost table a forced start v k i = cost (term_in table (10 * k + (4 + i))) (next_state a forced start v k i)

-- the next place of step k, as the code counts it
pub state_store : {f : ℕ → ℤ} {old new : List ℤ} {v : ℤ} (k w : ℕ) → 10 * k + 4 + w < length old → Stretch (10 * k + 4) w f old new → v ≡ f w →
    Stretch (10 * k + 4) (w + 1) f old (set new (10 * k + (4 + w)) v)
state_store {f} {old} {new} {v} k w room s e =
    let place : 10 * k + 4 + w ≡ 10 * k + (4 + w) = omega arith in
    subst (λ (p : ℕ). Stretch (10 * k + 4) (w + 1) f old (set new p v)) place (stretch_store (10 * k + 4) w f old new v room s e)

module _ {table : List ℤ} (rows : Rows table) (a forced start v : List ℤ) (k : ℕ) (early : k < 12) where
  -- a state within its limits is no larger than these, and neither is its cost
  pub size-state : (i : ℕ) → i < 6 → is_over table a forced start v k i ≡ false → nat_abs (next_state a forced start v k i) ≤ most_number
  size-state i h e =
      let p = 10 * k + (4 + i) in
      let g = rows.ranged p (omega arith) in
      range_size (at table (7 * p + 1)) (at table (7 * p + 2)) (next_state a forced start v k i) g.low g.high e

  pub size-state-cost : (i : ℕ) → i < 6 → is_over table a forced start v k i ≡ false → nat_abs (state_cost table a forced start v k i) ≤ most_cost
  unfolding cost
  size-state-cost i h e = size-cost (near (rows.ranged (10 * k + (4 + i)) (omega arith)) (next_state a forced start v k i) (size-state i h e))

  module _ (n : ℕ) (few : n ≤ 6) (none : any n (is_over table a forced start v k) ≡ false) where
    pub step-bounded : {z : List ℤ} → Bounded most_number v → Stretch (10 * k + 4) n (next_state a forced start v k) v z → Bounded most_number z
    step-bounded hv filled = stretch_bounded hv (λ i h. size-state i (omega arith) (any_none n i _ h none)) filled

    pub size_step : nat_abs (sum n (state_cost table a forced start v k)) ≤ n * most_cost
    size_step = size-sum n most_cost _ (λ i h. size-state-cost i (omega arith) (any_none n i _ h none))
