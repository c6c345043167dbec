-- Demand 3, over the bytes that the two readers get.
use Rattle.std.specs.Prelude.{◌≡◌, List, ℕ, take, Result, Ok, Err}
use Rattle.tape.specs.declared.Tape.{Tape}
use Rattle.tape.specs.declared.refusal.Refusal.{Refusal}
use Rattle.judge.specs.Demand.{NoneCheaper, NoRival}
use Rattle.records.specs.Readers.{gap_in, duties_in, plan_in, multipliers_in}
use Rattle.recorder.specs.declared.Recorded.{Recorded}
use Rattle.recorder.specs.declared.Recorded.TheVariants.{Proved, Impossible, Open}
use Rattle.recorder.specs.Recording.{sizes_of}

-- 'Proved': what demand 3 says of the plan and the multipliers in the service's bytes and of the gap in the laboratory's, and the
-- laboratory's duties are that plan's u(0). 'Impossible': there is no rival.
abbrev pub UpheldIn : Result Recorded Refusal → Tape → List ℕ → List ℕ → Type 0
UpheldIn (Ok Proved) t laboratory service =
    NoneCheaper t (plan_in (sizes_of t) service) (multipliers_in (sizes_of t) service) (gap_in laboratory)
    × (duties_in t.m laboratory ≡ take t.m (plan_in (sizes_of t) service))
UpheldIn (Ok Impossible) t laboratory service = NoRival t
UpheldIn (Ok Open) t laboratory service = Unit {0}
UpheldIn (Err why) t laboratory service = Unit {0}
