-- Document 02, request 9: the elimination of W × d = e. Rows and columns are counted from 0; `band` is 2n − 1. No place of a row or a
-- column that does not exist is asked for: the first rows and columns depend on themselves alone.
use Rattle.std.specs.Prelude.{ℕ, zero, suc, ◌+◌, Bool, true, cond, ◌&&◌, ltb, leb, Float}
use Rattle.banded.specs.Floats.{◌⊖◌, ◌⊗◌, ◌⊘◌, usable}

abbrev pub Matrix : Type 0
Matrix = ℕ → ℕ → Float

-- a is one of p + 1 to p + band
unfoldable pub follows : ℕ → ℕ → ℕ → Bool
follows band p a = ltb p a && leb a (p + band)

-- f of row a where row p is taken
abbrev pub factor : Matrix → ℕ → ℕ → Float
factor w p a = w a p ⊘ w p p

-- Row p is taken: each row a that follows it loses f times row p, in the columns that follow p.
unfoldable pub taken : ℕ → ℕ → Matrix → Matrix
taken band p w a c = cond (follows band p a && follows band p c) (w a c ⊖ (factor w p a ⊗ w p c)) (w a c)

-- The rows before row p are taken in order.
unfoldable pub eliminated : ℕ → Matrix → ℕ → Matrix
eliminated band w zero = w
eliminated band w (suc p) = taken band p (eliminated band w p)

-- The right sides when the rows before row p are taken; at first they are e.
unfoldable pub sides : ℕ → Matrix → (ℕ → Float) → ℕ → ℕ → Float
sides band w e zero a = e a
sides band w e (suc p) a =
    cond (follows band p a) (sides band w e p a ⊖ (factor (eliminated band w p) p a ⊗ sides band w e p p)) (sides band w e p a)

-- A row as it is when it is taken: its pivot, the entry in column c, and its right side.
abbrev pub pivot : ℕ → Matrix → ℕ → Float
pivot band w p = eliminated band w p p p

abbrev pub coupling : ℕ → Matrix → ℕ → ℕ → Float
coupling band w p c = eliminated band w p p c

abbrev pub side : ℕ → Matrix → (ℕ → Float) → ℕ → Float
side band w e p = sides band w e p p

-- All pivots of the first rows are finite and above 0.
unfoldable pub usable_pivots : ℕ → Matrix → ℕ → Bool
usable_pivots band w zero = true
usable_pivots band w (suc p) = usable_pivots band w p && usable (pivot band w p)
