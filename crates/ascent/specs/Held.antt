-- What the functions of step 4 tell each other and the round.
use Rattle.std.specs.Prelude.{ℕ, ◌+◌, ◌*◌, ◌/◌, ◌%◌, cond, List, ltb, ℤ, pos, Float}
use Rattle.integer.specs.Places.{at, Bounded}
use Rattle.commands.specs.Ranges.{most_multiplier}
use Rattle.tape.specs.declared.Tape.{Tape}
use Rattle.primal.specs.Padded.{padded}
use Rattle.primal.specs.Ranges.{most_residual}
use Rattle.primal.specs.Lent.{lent_of}
use Rattle.primal.specs.Held.{BlankMultipliers, HeldMultipliers}
use Rattle.steps.specs.Steps.{ascended}
use Rattle.banded.specs.Floats.{float_at}
use Rattle.ascent.specs.Correction.{whole_nearest, correction}

-- y~ and the residuals e, at padded places: within their ranges, and 0 beyond the sizes
pub record HeldStep (t : Tape) (ahead e : List ℤ) : Type 0 where
  pub blank : BlankMultipliers t.n ahead
  pub bounded : Bounded most_multiplier ahead
  pub blank_residuals : BlankMultipliers t.n e
  pub bounded_residuals : Bounded most_residual e

-- the next y at padded places
abbrev pub Ascended : Tape → List ℤ → List ℤ → List ℤ → Type 0
Ascended t ahead e next =
    HeldMultipliers t.n t.horizon (λ k i. ascended (padded ahead k i) (correction t (lent_of t e) (k * t.n + i))) next

-- the next multiplier at a padded place, from y and d, which is by rows; 0 beyond the states
abbrev pub banded_next : ℕ → List ℤ → List Float → ℕ → ℤ
banded_next n y d p = cond (ltb (p % 6) n) (ascended (at y p) (whole_nearest (float_at d (p / 6 * n + p % 6)))) (pos 0)
