-- What FF asks for: every column, every start value and command 50 or 51; and of a column with a curve the reference of every step.
use Rattle.std.specs.Prelude.{ℕ, ◌+◌, ◌-◌, ◌*◌, Bool, ◌&&◌, ◌||◌, List, ltb, leb}
use Rattle.integer.specs.Tests.{any}
use Rattle.commands.specs.Marks.{column_place, start_place, rounds_place, reference_place, marked}

-- one of the count places from p on
unfoldable pub among : ℕ → ℕ → ℕ → Bool
among p count place = leb p place && ltb (place - p) count

-- a column has a curve where one of its steps has a reference
unfoldable pub curved : ℕ → List Bool → ℕ → Bool
curved horizon given column = any horizon (λ k. marked given (reference_place + (12 * column + k)))

-- a step of a column with a curve
unfoldable pub on_curve : ℕ → ℕ → ℕ → List Bool → ℕ → Bool
on_curve n m horizon given place = any (n + m) (λ column. among (reference_place + 12 * column) horizon place && curved horizon given column)

unfoldable pub required : ℕ → ℕ → ℕ → List Bool → ℕ → Bool
required n m horizon given place =
    among column_place (n + m) place || among start_place n place || among rounds_place 1 place || on_curve n m horizon given place
