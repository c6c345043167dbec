-- What every accepted tape has: document 01's ranges, and 0 beyond the sizes.
use Rattle.std.specs.Prelude.{ℕ, ◌+◌, ◌*◌, ◌<◌, ◌≤◌, ◌≡◌, true, ◌⊎◌, pos}
use Rattle.integer.specs.Order.{◌≼◌}
use Rattle.integer.specs.Places.{at, Bounded}
use Rattle.commands.specs.Ranges.{most_entry, most_drift, most_number, most_weight, most_gain, most_rounds, most_wanted}
use Rattle.tape.specs.declared.Tape.{Tape}

pub record Legal (t : Tape) : Type 0 where
  pub states : (1 ≤ t.n) × (t.n ≤ 6)
  pub inputs : (1 ≤ t.m) × (t.m ≤ 4)
  pub steps : (1 ≤ t.horizon) × (t.horizon ≤ 12)
  pub a : Bounded most_entry t.a
  pub b : Bounded most_entry t.b
  pub drift : Bounded most_drift t.drift
  pub low : Bounded most_number t.low
  pub high : Bounded most_number t.high
  pub reference : Bounded most_number t.reference
  pub weight : Bounded most_weight t.weight
  pub curves : Bounded most_number t.curves.reference
  pub start : Bounded most_number t.start
  pub ordered : (column : ℕ) → at t.low column ≼ at t.high column
  pub weighed : (column : ℕ) → pos 0 ≼ at t.weight column
  pub banded_weighed : t.banded ≡ true → (column : ℕ) → column < t.n + t.m → pos 1 ≼ at t.weight column
  pub gain : (pos 1 ≼ t.gain) × (t.gain ≼ pos most_gain)
  pub rounds : (1 ≤ t.rounds) × (t.rounds ≤ most_rounds)
  pub wanted : (pos 0 ≼ t.wanted) × (t.wanted ≼ pos most_wanted)
  pub blank_a : (i j : ℕ) → j < 6 → (t.n ≤ i) ⊎ (t.n ≤ j) → at t.a (6 * i + j) ≡ pos 0
  pub blank_b : (i j : ℕ) → j < 4 → (t.n ≤ i) ⊎ (t.m ≤ j) → at t.b (4 * i + j) ≡ pos 0
  pub blank_drift : (i : ℕ) → t.n ≤ i → at t.drift i ≡ pos 0
  pub blank_start : (i : ℕ) → t.n ≤ i → at t.start i ≡ pos 0
  pub blank_low : (column : ℕ) → t.n + t.m ≤ column → at t.low column ≡ pos 0
  pub blank_high : (column : ℕ) → t.n + t.m ≤ column → at t.high column ≡ pos 0
  pub blank_reference : (column : ℕ) → t.n + t.m ≤ column → at t.reference column ≡ pos 0
  pub blank_weight : (column : ℕ) → t.n + t.m ≤ column → at t.weight column ≡ pos 0
  pub blank_curves : (column k : ℕ) → k < 12 → (t.n + t.m ≤ column) ⊎ (t.horizon ≤ k) → at t.curves.reference (12 * column + k) ≡ pos 0
