-- What the functions of the steps tell each other and the round.
use Rattle.std.specs.Prelude.{ℕ, ◌<◌, cond, Option, Some, None, List, ℤ}
use Rattle.std.specs.Int.Signed.{le_z, lt_z}
use Rattle.integer.specs.Places.{Stretch}
use Rattle.tape.specs.declared.Tape.{Tape}
use Rattle.problem.specs.Model.{Problem, Plan}
use Rattle.problem.specs.Cost.{Within}
use Rattle.primal.specs.Held.{HeldPlan}
use Rattle.steps.specs.declared.verdict.Verdict.{Verdict}
use Rattle.steps.specs.declared.verdict.Verdict.TheVariants.{Proved, Impossible}

-- the inputs of a plan lie within their limits
pub record InputsWithin (q : Problem) (u : ℕ → ℕ → ℤ) : Type 0 where
  pub each : (k j : ℕ) → k < q.horizon → j < q.m → Within (q.input_term k j) (u k j)

-- unless the step is dropped, its places have been filled
abbrev pub FilledUnless : Option ℤ → ℕ → ℕ → (ℕ → ℤ) → List ℤ → List ℤ → Type 0
FilledUnless None o w f old new = Unit {0}
FilledUnless (Some cost) o w f old new = Stretch o w f old new

-- unless the candidate is dropped, the array holds it
abbrev pub HeldUnless : Option ℤ → Tape → Plan → List ℤ → Type 0
HeldUnless None t v l = Unit {0}
HeldUnless (Some cost) t v l = HeldPlan t.n t.m t.horizon v l

-- where the verdict is 'proved', the array holds the candidate
abbrev pub HeldWhenProved : Option Verdict → Tape → Plan → List ℤ → Type 0
HeldWhenProved (Some (Proved gap)) t v l = HeldPlan t.n t.m t.horizon v l
HeldWhenProved (Some Impossible) t v l = Unit {0}
HeldWhenProved None t v l = Unit {0}

-- the verdict where no plan is accepted: a floor above the ceiling
abbrev pub impossible_by : ℤ → ℤ → Option Verdict
impossible_by highest lowest = cond (lt_z highest lowest) (Some Impossible) None

-- the verdict by its tests: a gap of at most T, else a floor above the ceiling
unfoldable pub verdict_by : Option ℤ → ℤ → ℤ → ℤ → Option Verdict
verdict_by None wanted highest lowest = impossible_by highest lowest
verdict_by (Some gap) wanted highest lowest = cond (le_z gap wanted) (Some (Proved gap)) (impossible_by highest lowest)
