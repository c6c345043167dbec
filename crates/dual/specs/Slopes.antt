-- Slopes at padded places.
use Rattle.std.specs.Prelude.{ℕ, ◌+◌, ◌*◌, ◌-◌, cond, ltb, ℤ}
use Rattle.commands.specs.Ranges.{most_entry, most_multiplier}

-- of a step's ten places the first four hold f, the others g
unfoldable pub by_place : (ℕ → ℕ → ℤ) → (ℕ → ℕ → ℤ) → ℕ → ℕ → ℤ
by_place f g k c = cond (ltb c 4) (f k c) (g k (c - 4))

-- the largest: −4096 y(k−1,i), and six products of multipliers and entries
abbrev pub most_slope : ℕ
most_slope = 4096 * most_multiplier + 6 * (most_multiplier * most_entry)
