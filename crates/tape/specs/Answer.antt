-- What document 01's reading of a tape gives, and what `read` hands on of it.
use Rattle.std.specs.Prelude.{Result, Ok, Err}
use Rattle.tape.specs.declared.Tape.{Tape}
use Rattle.tape.specs.declared.refusal.Refusal.{Refusal}

pub data Answer : Type 0 where
  Accepted : Answer
  Refused : Refusal → Answer

-- a refused tape's numbers are all 0
pub record Reading : Type 0 where
  pub answer : Answer
  pub tape : Tape

-- the numbers of an accepted tape, or the refusal
abbrev pub told : Answer → Tape → Result Tape Refusal
told Accepted t = Ok t
told (Refused why) t = Err why

abbrev pub told_of : Reading → Result Tape Refusal
told_of r = told r.answer r.tape
