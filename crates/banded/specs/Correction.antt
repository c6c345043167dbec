-- Document 02, request 9: d, from the last row up.
use Rattle.std.specs.Prelude.{ℕ, zero, suc, ◌+◌, ◌-◌, min, cond, eqb, Float}
use Rattle.banded.specs.Floats.{◌⊖◌, ◌⊗◌, ◌⊘◌, zero_float, sum_from}
use Rattle.banded.specs.Elimination.{Matrix, pivot, coupling, side}

-- d of row p, where `count` rows come after it and d has theirs: the sum goes over the up to `band` columns after the pivot.
unfoldable pub solved_row : ℕ → Matrix → (ℕ → Float) → ℕ → ℕ → (ℕ → Float) → Float
solved_row band w e p count d =
    (side band w e p ⊖ sum_from zero_float (min band count) (λ j. coupling band w p (p + 1 + j) ⊗ d (p + 1 + j))) ⊘ pivot band w p

-- d of the last `count` of the rows, by row.
unfoldable pub solved : ℕ → ℕ → Matrix → (ℕ → Float) → ℕ → ℕ → Float
solved rows band w e zero c = zero_float
solved rows band w e (suc count) c =
    let p = rows - suc count in
    cond (eqb c p) (solved_row band w e p count (solved rows band w e count)) (solved rows band w e count c)
