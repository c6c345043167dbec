-- Document 02, request 5: the call that writes a record for both readers.
use Rattle.std.specs.Prelude.{ℕ, Bool, cond, not, ◌||◌, List, eqb, Result, Ok, Err}
use Rattle.tape.specs.Answer.{Answer}
use Rattle.tape.specs.Answer as answer
use Rattle.tape.specs.declared.refusal.Refusal.{Refusal}
use Rattle.tape.specs.declared.refusal.Refusal.TheVariants.{Length}
use Rattle.tape.specs.Reading.{reading}
use Rattle.recorder.specs.declared.Recorded.{Recorded}
use Rattle.recorder.specs.declared.Recorded.TheVariants as recorded
use Rattle.records.specs.declared.Sizes.{Sizes}
use Rattle.records.specs.Records.{Outcome, Proved, Impossible, Open}
use Rattle.recorder.specs.Recording.{Recording, Kept, Refused, sizes_of, recording}
use Rattle.records.specs.Readers.{seen, laboratory_bytes, service_length, service_bytes}

-- 9: the laboratory has 16 bytes
abbrev pub wrong_lengths : Sizes → ℕ → ℕ → Bool
wrong_lengths z laboratory service = not (eqb laboratory 16) || not (eqb service (service_length z))

abbrev pub after_read : Answer → Recording → Recording
after_read answer.Accepted accepted = accepted
after_read (answer.Refused why) accepted = Refused why

-- The tape's refusals, then 9, then the record of the solve, for slices of these lengths.
unfoldable pub recorded_at : List ℕ → ℕ → ℕ → Recording
recorded_at s laboratory service =
    after_read (reading s).answer (cond (wrong_lengths (sizes_of (reading s).tape) laboratory service) (Refused Length) (recording s))

-- The answer is the kind, or the refusal.
abbrev pub kind_of : Outcome → Recorded
kind_of (Proved gap plan y) = recorded.Proved
kind_of (Impossible y) = recorded.Impossible
kind_of Open = recorded.Open

abbrev pub answer_of : Recording → Result Recorded Refusal
answer_of (Kept r) = Ok (kind_of r.outcome)
answer_of (Refused why) = Err why

-- What the lent slices hold at exit, given what they held at entry.
abbrev pub laboratory_left : Recording → List ℕ → List ℕ
laboratory_left (Kept r) before = laboratory_bytes (seen r)
laboratory_left (Refused why) before = before

abbrev pub service_left : Recording → List ℕ → List ℕ
service_left (Kept r) before = service_bytes r
service_left (Refused why) before = before
