-- Step 4 of a round: the correction of a multiplier by command 50, and by command 51 of document 02, request 9.
use Rattle.std.specs.Prelude.{ℕ, cond, List, ℤ, Float}
use Rattle.integer.specs.Places.{at}
use Rattle.float.specs.Value.{numerator, denominator}
use Rattle.float.specs.Nearest.{nearest_whole}
use Rattle.tape.specs.declared.Tape.{Tape}
use Rattle.problem.specs.Model.{problem_of}
use Rattle.steps.specs.Steps.{gain_correction}
use Rattle.banded.specs.Step.{banded_correction, uses_band}

-- The whole number nearest to d, halves upward. A d that is not finite counts as 0: its numerator is 0.
unfoldable pub whole_nearest : Float → ℤ
whole_nearest d = nearest_whole (numerator d) (denominator d)

-- The correction of the multiplier of row a, from the residuals e by rows.
unfoldable pub correction : Tape → List ℤ → ℕ → ℤ
correction t e a = cond (uses_band t) (whole_nearest (banded_correction (problem_of t) e a)) (gain_correction t.gain (at e a))
