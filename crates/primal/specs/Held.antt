-- Padded arrays that hold a plan or multipliers.
use Rattle.std.specs.Prelude.{ℕ, ◌<◌, ◌≤◌, ◌≡◌, List, length, ℤ, pos}
use Rattle.integer.specs.Places.{Bounded}
use Rattle.commands.specs.Ranges.{most_number, most_multiplier}
use Rattle.problem.specs.Model.{Plan}
use Rattle.primal.specs.Padded.{padded, padded_plan}

-- places beyond the sizes hold 0
pub record BlankMultipliers (n : ℕ) (y : List ℤ) : Type 0 where
  pub each : (k i : ℕ) → n ≤ i → i < 6 → padded y k i ≡ pos 0

pub record BlankPlan (n m : ℕ) (v : List ℤ) : Type 0 where
  pub input : (k j : ℕ) → k < 12 → m ≤ j → j < 4 → (padded_plan v).u k j ≡ pos 0
  pub state : (k i : ℕ) → k < 12 → n ≤ i → i < 6 → (padded_plan v).x k i ≡ pos 0

-- l holds the multipliers y of n states and N steps
pub record HeldMultipliers (n N : ℕ) (y : ℕ → ℕ → ℤ) (l : List ℤ) : Type 0 where
  pub same : (k i : ℕ) → k < N → i < n → padded l k i ≡ y k i
  pub blank : BlankMultipliers n l
  pub bounded : Bounded most_multiplier l

-- l holds the first k steps of the plan v of n states and m inputs
pub record HeldPlan (n m k : ℕ) (v : Plan) (l : List ℤ) : Type 0 where
  pub input : (q j : ℕ) → q < k → j < m → (padded_plan l).u q j ≡ v.u q j
  pub state : (q i : ℕ) → q < k → i < n → (padded_plan l).x q i ≡ v.x q i
  pub blank : BlankPlan n m l
  pub bounded : Bounded most_number l
  pub long : length l ≡ 120
