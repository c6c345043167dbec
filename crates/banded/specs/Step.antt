-- Document 02, request 9: when a tape is solved by the banded step, and d.
use Rattle.std.specs.Prelude.{ℕ, ◌-◌, ◌*◌, Bool, ◌&&◌, List, ℤ, Float}
use Rattle.integer.specs.Places.{at}
use Rattle.tape.specs.declared.Tape.{Tape}
use Rattle.problem.specs.Model.{Problem, problem_of}
use Rattle.banded.specs.Floats.{float}
use Rattle.banded.specs.Elimination.{pivot, usable_pivots}
use Rattle.banded.specs.Correction.{solved}
use Rattle.banded.specs.Weights.{weights}

-- N × n rows; 2n − 1 rows and columns after a row that it reaches.
abbrev pub row_count : Problem → ℕ
row_count q = q.horizon * q.n

abbrev pub band_width : Problem → ℕ
band_width q = 2 * q.n - 1

-- The pivot of row a.
abbrev pub banded_pivot : Problem → ℕ → Float
banded_pivot q a = pivot (band_width q) (weights q) a

-- All pivots are finite and above 0.
abbrev pub band_usable : Problem → Bool
band_usable q = usable_pivots (band_width q) (weights q) (row_count q)

-- Command 51 stands, and the pivots can be used; else the tape is solved with g.
abbrev pub uses_band : Tape → Bool
uses_band t = t.banded && band_usable (problem_of t)

-- d of row a, from the residuals e by rows.
abbrev pub banded_correction : Problem → List ℤ → ℕ → Float
banded_correction q e a = solved (row_count q) (band_width q) (weights q) (λ p. float (at e p)) (row_count q) a
