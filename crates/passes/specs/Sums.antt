-- S of x(k+1,i) in two parts: the part of the states before it, and what the inputs and the drift force, which residuals and candidate share.
use Rattle.std.specs.Prelude.{ℕ, ◌+◌, ◌*◌, List, ℤ, pos, nat_abs, ◌+ℤ◌, ◌-ℤ◌, ◌*ℤ◌}
use Rattle.integer.specs.Places.{at}
use Rattle.integer.specs.Sum.{sum}
use Rattle.commands.specs.Ranges.{most_entry, most_number}
use Rattle.problem.specs.Model.{state_at}
use Rattle.primal.specs.Padded.{state_matrix, input_matrix, padded, padded_plan}
use Rattle.primal.specs.Ranges.{most_forcing}

-- four products, and w(i)
abbrev pub most_forced : ℕ
most_forced = 4 * (most_entry * most_number) + most_forcing

abbrev pub forcing : List ℤ → List ℤ → List ℤ → ℕ → ℕ → ℤ
forcing b drift v k i = sum 4 (λ j. input_matrix b i j *ℤ (padded_plan v).u k j) +ℤ at drift i

abbrev pub sum_by : List ℤ → List ℤ → List ℤ → List ℤ → ℕ → ℕ → ℤ
sum_by a forced start v k i = sum 6 (λ j. state_matrix a i j *ℤ state_at (at start) (padded_plan v).x k j) +ℤ padded forced k i

abbrev pub residual_by : List ℤ → List ℤ → List ℤ → List ℤ → ℕ → ℕ → ℤ
residual_by a forced start v k i = sum_by a forced start v k i -ℤ pos 4096 *ℤ (padded_plan v).x k i

-- y e − 2048 |y|, which with the cost of v is no less than the floor
abbrev pub pull : ℤ → ℤ → ℤ
pull y e = y *ℤ e -ℤ pos 2048 *ℤ pos (nat_abs y)
