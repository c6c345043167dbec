use Prim.Native.Nat.{ℕ, ◌+◌, ◌*◌}
use mathlib.Core.Bool.{Bool, ◌&&◌, ◌||◌}
use mathlib.Core.List.{List}
use Rattle.integer.specs.Tests.{any}
use Rattle.words.specs.Words.{HoldAll}
use Rattle.commands.specs.Marks.{column_place, start_place, rounds_place, reference_place}
use Rattle.commands.specs.Required.{among, curved}
use Rattle.marks.proofs.required_words.Given as goal

-- required for itself
abbrev pub asked : ℕ → ℕ → ℕ → Bool
asked n m p = among column_place (n + m) p || among start_place n p || among rounds_place 1 p

-- a step of this column, which has a curve
abbrev pub on : ℕ → List Bool → ℕ → ℕ → Bool
on horizon given p column = among (reference_place + 12 * column) horizon p && curved horizon given column

abbrev pub invariant-loop-column : goal.invariant-loop-column
invariant-loop-column l = HoldAll l.words (λ i. asked l.n l.m (column_place + i) || any l.column (on l.horizon l.given (column_place + i)))
