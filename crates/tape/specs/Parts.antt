-- What the reader's functions tell each other, and no promise cites: the reading so far is document 01's reader.
use Rattle.std.specs.Prelude.{Result, Ok, Err}
use Rattle.tape.specs.declared.reader.Progress.{Progress}
use Rattle.tape.specs.declared.refusal.Refusal.{Refusal}
use Rattle.tape.specs.Reading.{Verdict, Reader, Going, refuse}

abbrev pub reader_of : Verdict → Progress → Reader
reader_of v p = record { at = p.at; verdict = v; tape = p.tape; given = p.given }

-- a command that is not refused leads to the verdict v
abbrev pub after : Verdict → Result (Unit {0}) Refusal → Progress → Reader
after v (Ok u) p = reader_of v p
after v (Err why) p = refuse why (reader_of Going p)
