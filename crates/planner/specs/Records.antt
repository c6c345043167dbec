-- The exported call of a record: the number that it returns, what it leaves in `out`, and what that says.
use Rattle.std.specs.Prelude.{ℕ, List, [], ◌∷◌, ℤ, pos, Result, Ok, Err}
use Rattle.tape.specs.declared.Tape.{Tape}
use Rattle.tape.specs.declared.refusal.Refusal.{Refusal}
use Rattle.numbers.specs.Numbers.{code_of}
use Rattle.recorder.specs.declared.Recorded.{Recorded}
use Rattle.recorder.specs.declared.Recorded.TheVariants.{Proved, Impossible, Open}
use Rattle.recorder.specs.Demand.{UpheldIn}
use Rattle.planner.specs.Demand.{Says}

abbrev pub recorded_code : Result Recorded Refusal → ℕ
recorded_code (Ok kind) = 0
recorded_code (Err why) = code_of why

-- kind: 1 proved, 2 impossible, 3 open
abbrev pub recorded_numbers : Recorded → List ℤ
recorded_numbers Proved = pos 1 ∷ []
recorded_numbers Impossible = pos 2 ∷ []
recorded_numbers Open = pos 3 ∷ []

abbrev pub recorded_left : Result Recorded Refusal → List ℤ → List ℤ
recorded_left (Ok kind) before = recorded_numbers kind
recorded_left (Err why) before = before

-- Kind 1: demand 3 holds of the plan and the multipliers in the service's bytes and of the gap in the laboratory's, whose duties are
-- that plan's u(0). Kind 2: there is no rival.
abbrev pub UpheldInBy : ℕ → List ℤ → Tape → List ℕ → List ℕ → Type 0
UpheldInBy number out t laboratory service = Says number out (UpheldIn (Ok Proved) t laboratory service) (UpheldIn (Ok Impossible) t laboratory service)
