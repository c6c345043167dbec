-- What the private functions tell each other.
use Rattle.std.specs.Prelude.{◌+◌, ◌*◌, Bool, ◌||◌, false, Option, List, ℤ}
use Rattle.std.specs.Option.{option_map_or}
use Rattle.std.specs.Int.Signed.{le_z, lt_z}
use Rattle.integer.specs.Places.{Bounded}
use Rattle.commands.specs.Ranges.{most_multiplier}
use Rattle.tape.specs.declared.Tape.{Tape}
use Rattle.tape.specs.declared.refusal.Refusal.TheVariants.{Open}
use Rattle.problem.specs.Model.{problem_of, residual}
use Rattle.primal.specs.Padded.{padded, padded_plan}
use Rattle.primal.specs.Held.{BlankMultipliers, HeldMultipliers}
use Rattle.primal.specs.Lent.{lent_multipliers, lent_of, lent_plan}
use Rattle.steps.specs.Steps.{ascended}
use Rattle.ascent.specs.Correction.{correction}
use Rattle.rounds.specs.declared.Ended.{Ended}
use Rattle.rounds.specs.declared.Ended.TheVariants as ends
use Rattle.rounds.specs.Running.{Ending, proved, impossible, refused}

-- y and the y before it, at padded places: within the range, and 0 beyond the sizes
pub record HeldState (t : Tape) (y previous : List ℤ) : Type 0 where
  pub blank : BlankMultipliers t.n y
  pub bounded : Bounded most_multiplier y
  pub blank_previous : BlankMultipliers t.n previous
  pub bounded_previous : Bounded most_multiplier previous

-- the next y, from y~ and the numbers v of step 2
abbrev pub NextHeld : Tape → List ℤ → List ℤ → List ℤ → Type 0
NextHeld t y v next =
    HeldMultipliers t.n t.horizon
    (λ k i. ascended (padded y k i) (correction t (lent_multipliers t.n t.horizon (residual (problem_of t) (padded_plan v))) (k * t.n + i))) next

-- a floor of at most `upper` may be above the ceiling, or leave a gap of at most T
unfoldable pub may_answer : Option ℤ → ℤ → ℤ → ℤ → Bool
may_answer gap wanted highest upper = lt_z highest upper || option_map_or (λ g. le_z g wanted) gap false

-- the end of the rounds, with the plan and the multipliers that padded arrays hold
abbrev pub ending_of : Tape → Ended → List ℤ → List ℤ → Ending
ending_of t (ends.Proved rounds gap) v y =
    proved rounds gap (lent_plan t.n t.m t.horizon (padded_plan v)) (lent_of t y)
ending_of t (ends.Impossible rounds) v y = impossible rounds (lent_of t y)
ending_of t ends.Open v y = refused (Open t.rounds)
