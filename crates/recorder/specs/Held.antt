-- What the private functions tell each other.
use Rattle.std.specs.Prelude.{Result, Ok, Err}
use Rattle.tape.specs.declared.Tape.{Tape}
use Rattle.tape.specs.declared.refusal.Refusal.{Refusal}
use Rattle.records.specs.declared.Sizes.{Sizes}
use Rattle.records.specs.Held.{Fits}
use Rattle.recorder.specs.Recording.{sizes_of, Recording, Kept, Refused}

-- the sizes of a tape that was read, or its refusal
abbrev pub sizes_told : Result Tape Refusal → Result Sizes Refusal
sizes_told (Ok t) = Ok (sizes_of t)
sizes_told (Err why) = Err why

-- where there is a record, it fits its bytes
abbrev pub KeptFits : Recording → Type 0
KeptFits (Kept r) = Fits r
KeptFits (Refused why) = Unit {0}
