-- What the functions that write a record ask of it.
use Rattle.std.specs.Prelude.{ℕ, ◌≤◌, ◌≡◌, List, length, ℤ, pos}
use Rattle.integer.specs.Order.{◌≼◌}
use Rattle.integer.specs.Places.{Bounded}
use Rattle.commands.specs.Ranges.{most_number, most_multiplier, most_rounds, most_wanted}
use Rattle.records.specs.declared.Sizes.{Sizes}
use Rattle.records.specs.Readers.{plan_count, multiplier_count}
use Rattle.records.specs.Records.{Outcome, Proved, Impossible, Open, Record}

-- so many numbers, each within a range
pub record Numbers (count most : ℕ) (l : List ℤ) : Type 0 where
  pub long : length l ≡ count
  pub within : Bounded most l

pub record Fitting (z : Sizes) : Type 0 where
  pub states : z.n ≤ 6
  pub inputs : z.m ≤ 4
  pub steps : z.horizon ≤ 12

abbrev pub FittingOutcome : Sizes → Outcome → Type 0
FittingOutcome z (Proved gap plan y) =
    (1 ≤ z.horizon) × (pos 0 ≼ gap) × (gap ≼ pos most_wanted) × Numbers (plan_count z) most_number plan × Numbers (multiplier_count z) most_multiplier y
FittingOutcome z (Impossible y) = Numbers (multiplier_count z) most_multiplier y
FittingOutcome z Open = Unit {0}

-- what a record holds fits the places of its bytes
pub record Fits (r : Record) : Type 0 where
  pub sizes : Fitting r.sizes
  pub rounds : r.rounds ≤ most_rounds
  pub outcome : FittingOutcome r.sizes r.outcome
