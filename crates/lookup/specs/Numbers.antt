-- The numbers of step 2 at padded places, by the table.
use Rattle.std.specs.Prelude.{ℕ, ◌+◌, ◌*◌, List, ℤ}
use Rattle.problem.specs.Dual.{input_slope, state_slope}
use Rattle.primal.specs.Padded.{state_matrix, input_matrix, padded}
use Rattle.steps.specs.Steps.{minimiser}
use Rattle.lookup.specs.Table.{term_in}

abbrev pub input_number : List ℤ → List ℤ → List ℤ → ℕ → ℕ → ℤ
input_number table b y k j = minimiser (term_in table (10 * k + j)) (input_slope 6 (input_matrix b) (padded y) k j)

abbrev pub state_number : ℕ → List ℤ → List ℤ → List ℤ → ℕ → ℕ → ℤ
state_number horizon table a y k i = minimiser (term_in table (10 * k + (4 + i))) (state_slope 6 horizon (state_matrix a) (padded y) k i)
