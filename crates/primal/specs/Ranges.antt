-- The ranges that follow from document 01's for the numbers that are formed, and the places that a sum of products reaches.
use Rattle.std.specs.Prelude.{ℕ, ◌+◌, ◌*◌, ◌<◌, ◌≤◌, List, length, ℤ, pos, nat_abs}
use Rattle.integer.specs.Order.{◌≼◌}
use Rattle.commands.specs.Ranges.{most_number, most_entry, most_drift, most_weight}
use Rattle.problem.specs.declared.Term.{Term}
use Rattle.primal.specs.Padded.{term_at}

-- P = 4096 h
abbrev pub most_penalty : ℕ
most_penalty = 4096 * most_weight

-- what S has besides its products: w(i), and room for a draught of w's range that is added to it
abbrev pub most_forcing : ℕ
most_forcing = most_drift + most_drift

-- S, of ten products; and a residual
abbrev pub most_sum : ℕ
most_sum = 10 * (most_entry * most_number) + most_forcing

abbrev pub most_residual : ℕ
most_residual = most_sum + 4096 * most_number

-- P is 4096 h, so from 4096 on where it is not 0; lo, hi and r in their ranges, lo ≤ hi.
pub record Ranged (t : Term) : Type 0 where
  pub weighed : pos 1 ≼ t.penalty → pos 4096 ≼ t.penalty
  pub penalty : nat_abs t.penalty ≤ most_penalty
  pub low : nat_abs t.low ≤ most_number
  pub high : nat_abs t.high ≤ most_number
  pub reference : nat_abs t.reference ≤ most_number
  pub ordered : t.low ≼ t.high

-- Every place of a plan.
pub record Tables (terms : List Term) : Type 0 where
  pub each : (p : ℕ) → p < 120 → Ranged (term_at terms p)

-- A list has the places i, i + stride, .. of count numbers.
pub record Reaches (l : List ℤ) (i stride count : ℕ) : Type 0 where
  pub each : (q : ℕ) → q < count → i + stride * q < length l
