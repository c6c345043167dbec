-- What is made of the terms once a solve, so that no round divides by a weight: a row of seven numbers for each place p of a padded plan,
-- from place 7p on. First P, lo, hi and r.
use Rattle.std.specs.Prelude.{ℕ, ◌+◌, ◌*◌, ◌<◌, ◌≡◌, cond, List, [], ◌∷◌, ℤ, pos, ◌+ℤ◌, ◌-ℤ◌, ◌*ℤ◌}
use Rattle.integer.specs.Places.{at, Bounded}
use Rattle.integer.specs.Quotient.{◌÷◌}
use Rattle.problem.specs.declared.Term.{Term}
use Rattle.problem.specs.Dual.{weightless}
use Rattle.primal.specs.Padded.{term_of, term_at}
use Rattle.primal.specs.Ranges.{Ranged}

-- the term of place p
abbrev pub term_in : List ℤ → ℕ → Term
term_in table p = term_of (at table (7 * p)) (at table (7 * p + 1)) (at table (7 * p + 2)) (at table (7 * p + 3))

-- The minimiser is lo plus the quotient by 2P of `centre` less the slope, limited to 0 to `span`. With P = 4096 h it is a quotient by
-- 8192 and one by h, and the latter a product with `inverse` over 2^36. At P = 0 the three give lo, or hi below a slope of 0.

-- 2P (r − lo) + P
unfoldable pub centre : Term → ℤ
centre t = cond (weightless t.penalty) (pos 8191) (pos 2 *ℤ t.penalty *ℤ (t.reference -ℤ t.low) +ℤ t.penalty)

-- 2P (hi − lo)
unfoldable pub span : Term → ℤ
span t = cond (weightless t.penalty) (pos 8192) (pos 2 *ℤ t.penalty *ℤ (t.high -ℤ t.low))

-- 2^36 / h + 1
unfoldable pub inverse : Term → ℤ
inverse t =
    cond (weightless t.penalty) (pos 68719476736 *ℤ (t.high -ℤ t.low)) (pos 68719476736 ÷ (t.penalty ÷ pos 4096) +ℤ pos 1)

-- the seven numbers
abbrev pub row : Term → List ℤ
row t = t.penalty ∷ t.low ∷ t.high ∷ t.reference ∷ centre t ∷ span t ∷ inverse t ∷ []

-- P is 4096 h
pub record Whole (p : ℤ) : Type 0 where
  pub weight : ℤ
  pub is : p ≡ pos 4096 *ℤ weight

-- the table has the row of every place; the largest number in it is 2^36 (hi − lo)
pub record Rows (table : List ℤ) : Type 0 where
  pub ranged : (p : ℕ) → p < 120 → Ranged (term_in table p)
  pub whole : (p : ℕ) → p < 120 → Whole (at table (7 * p))
  pub centred : (p : ℕ) → p < 120 → at table (7 * p + 4) ≡ centre (term_in table p)
  pub spanned : (p : ℕ) → p < 120 → at table (7 * p + 5) ≡ span (term_in table p)
  pub inverted : (p : ℕ) → p < 120 → at table (7 * p + 6) ≡ inverse (term_in table p)
  pub bounded : Bounded 2748779069440000 table

-- and its terms are these
pub record RowsOf (terms : List Term) (table : List ℤ) : Type 0 where
  pub rows : Rows table
  pub same : (p : ℕ) → p < 120 → term_in table p ≡ term_at terms p
