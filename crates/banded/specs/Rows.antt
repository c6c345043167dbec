-- What the functions of the elimination tell each other: eliminated rows as the code holds them.
use Rattle.std.specs.Prelude.{ℕ, ◌+◌, ◌<◌, ◌≤◌, ◌≡◌, ◌⊎◌, true, false, List, get_or, Float, Option, Some, None}
use Rattle.tape.specs.declared.Tape.{Tape}
use Rattle.problem.specs.Model.{problem_of}
use Rattle.banded.specs.Floats.{float_at, ◌⊖◌, ◌⊗◌}
use Rattle.banded.specs.Elimination.{Matrix, eliminated, factor, pivot, coupling}
use Rattle.banded.specs.Correction.{solved}
use Rattle.banded.specs.Weights.{weights}
use Rattle.banded.specs.Step.{row_count, band_width, uses_band}
use Rattle.banded.specs.declared.rows.Row.{Row}

-- The first `count` places hold f 0, f 1, ..
pub record Holds (count : ℕ) (f : ℕ → Float) (l : List Float) : Type 0 where
  pub each : (p : ℕ) → p < count → float_at l p ≡ f p

-- A working row a: slot s holds the entry in column c = a + s − 11, when the rows before row p are taken.
pub record Working (band : ℕ) (w : Matrix) (p a : ℕ) (x : List Float) : Type 0 where
  pub each : (c s : ℕ) → c + 11 ≡ a + s → c ≤ a + band → a ≤ c + band → float_at x s ≡ eliminated band w p a c

-- Slot q holds the factor of row a under row r = a + q − 11, for the rows r before row p.
pub record Factors (band : ℕ) (w : Matrix) (p a : ℕ) (l : List Float) : Type 0 where
  pub each : (r q : ℕ) → r + 11 ≡ a + q → r < p → r < a → a ≤ r + band → float_at l q ≡ factor (eliminated band w r) r a

-- Row a as it is kept.
pub record Kept (band : ℕ) (w : Matrix) (a : ℕ) (r : Row) : Type 0 where
  pub pivots : r.pivot ≡ pivot band w a
  pub couplings : Holds band (λ j. coupling band w a (a + 1 + j)) r.couplings
  pub factors : Factors band w a a r.factors

-- The first `count` rows are kept. They are there, so it is the same whatever stands past the end.
pub record KeptRows (band : ℕ) (w : Matrix) (count : ℕ) (rows : List Row) : Type 0 where
  pub each : (p : ℕ) (end : Row) → p < count → Kept band w p (get_or rows p end)

-- All rows of a tape are kept.
abbrev pub TapeRows : Tape → List Row → Type 0
TapeRows t rows = KeptRows (band_width (problem_of t)) (weights (problem_of t)) (row_count (problem_of t)) rows

-- They are there where the tape is solved by them.
abbrev pub Factored : Tape → Option (List Row) → Type 0
Factored t (Some rows) = (uses_band t ≡ true) × TapeRows t rows
Factored t None = uses_band t ≡ false

-- `new` is `old` less f times the couplings, in the `band` slots after slot q.
pub record Reduced (band q : ℕ) (f : Float) (couplings old new : List Float) : Type 0 where
  pub inside : (j : ℕ) → j < band → float_at new (q + 1 + j) ≡ float_at old (q + 1 + j) ⊖ (f ⊗ float_at couplings j)
  pub outside : (s : ℕ) → (s ≤ q) ⊎ (q + band < s) → float_at new s ≡ float_at old s

-- d of the last `count` of `size` rows.
pub record Solved (size band : ℕ) (w : Matrix) (e : ℕ → Float) (count : ℕ) (d : List Float) : Type 0 where
  pub each : (c : ℕ) → size ≤ c + count → c < size → float_at d c ≡ solved size band w e count c
