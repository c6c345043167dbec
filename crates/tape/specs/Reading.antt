-- Reading a tape: commands from the front, the tests of each in the order 2, 1, 3, 4, 5, 6, and at FF 7, 18, then 8.
use Rattle.std.specs.Prelude.{ℕ, zero, suc, ◌+◌, Bool, true, false, not, cond, ◌&&◌, List, ltb, length, set, replicate, pos}
use Rattle.std.specs.Int.Signed.{le_z}
use Rattle.integer.specs.Places.{at}
use Rattle.integer.specs.Tests.{any}
use Rattle.commands.specs.declared.Command.{Command}
use Rattle.commands.specs.declared.Command.TheVariants as command
use Rattle.commands.specs.declared.Entry.{Entry}
use Rattle.commands.specs.Format.{decoded, size_bytes, bytes_of, wrong_size, beyond, wrong, place_of}
use Rattle.commands.specs.Marks.{place_count, marked}
use Rattle.commands.specs.Required.{required}
use Rattle.tape.specs.Answer as answer
use Rattle.tape.specs.Answer.{Reading}
use Rattle.tape.specs.declared.Tape.{Tape}
use Rattle.tape.specs.declared.refusal.Refusal.{Refusal}
use Rattle.tape.specs.declared.refusal.Refusal.TheVariants.{Cut, Unknown, Misplaced, NoSuchPlace, OutOfRange, Twice, Absent, Overrun, Weightless}
use Rattle.tape.specs.Tape.{blank, with_size, with}

pub data Verdict : Type 0 where
  Going : Verdict
  Ended : Verdict
  Refused : Refusal → Verdict

-- The reading so far: the next command's offset, the numbers, and a mark for each place that has been given.
pub record Reader : Type 0 where
  pub at : ℕ
  pub verdict : Verdict
  pub tape : Tape
  pub given : List Bool

abbrev pub refuse : Refusal → Reader → Reader
refuse why q = record { at = q.at; verdict = Refused why; tape = q.tape; given = q.given }

abbrev pub refuse_when : Bool → Refusal → Reader → Reader → Reader
refuse_when test why q passed = cond test (refuse why q) passed

-- command 10 has been given
abbrev pub sized : Tape → Bool
sized t = ltb 0 t.n

-- 10: 3 where it is the second one, 5
unfoldable pub obey_size : ℕ → ℕ → ℕ → Reader → Reader
obey_size n m horizon q =
    refuse_when (sized q.tape) (Misplaced q.at) q
    (refuse_when (wrong_size n m horizon) (OutOfRange q.at) q
    (record { at = q.at + size_bytes; verdict = Going; tape = with_size q.tape n m horizon; given = q.given }))

-- 20 to 51: 3 where the first command was not 10, 4, 5, 6
unfoldable pub obey_entry : Entry → Reader → Reader
obey_entry e q =
    refuse_when (not (sized q.tape)) (Misplaced q.at) q
    (refuse_when (beyond q.tape.n q.tape.m q.tape.horizon e) (NoSuchPlace q.at) q
    (refuse_when (wrong e) (OutOfRange q.at) q
    (refuse_when (marked q.given (place_of e)) (Twice q.at) q
    (record { at = q.at + bytes_of e; verdict = Going; tape = with q.tape e; given = set q.given (place_of e) true }))))

-- a required place has no mark
unfoldable pub absent : ℕ → ℕ → ℕ → List Bool → Bool
absent n m horizon given = any place_count (λ p. required n m horizon given p && not (marked given p))

-- command 51 stands on a tape with a weight of 0, which none is below (document 02, request 9)
unfoldable pub lacks_weight : Tape → Bool
lacks_weight t = t.banded && any (t.n + t.m) (λ column. le_z (at t.weight column) (pos 0))

-- FF: 3, 7, 18, and 8 at the offset after FF
unfoldable pub obey_end : List ℕ → Reader → Reader
obey_end s q =
    refuse_when (not (sized q.tape)) (Misplaced q.at) q
    (refuse_when (absent q.tape.n q.tape.m q.tape.horizon q.given) (Absent q.at) q
    (refuse_when (lacks_weight q.tape) (Weightless q.at) q
    (refuse_when (ltb (q.at + 1) (length s)) (Overrun (q.at + 1)) q
    (record { at = q.at; verdict = Ended; tape = q.tape; given = q.given }))))

unfoldable pub obey : Command → List ℕ → Reader → Reader
obey command.Unknown s q = refuse (Unknown q.at) q
obey command.Cut s q = refuse (Cut q.at) q
obey (command.Size n m horizon) s q = obey_size n m horizon q
obey (command.Give e) s q = obey_entry e q
obey command.End s q = obey_end s q

-- the next command; 1 at the tape's length where there is none
unfoldable pub next : List ℕ → Reader → Reader
next s q = cond (ltb q.at (length s)) (obey (decoded s q.at) s q) (refuse (Cut (length s)) q)

-- a refused tape's numbers are all 0
abbrev pub refused_tape : Refusal → Reading
refused_tape why = record { answer = answer.Refused why; tape = blank }

abbrev pub outcome : Verdict → Tape → Reading → Reading
outcome Going t again = again
outcome Ended t again = record { answer = answer.Accepted; tape = t }
outcome (Refused why) t again = refused_tape why

-- The tape from a command on, in at most `left` commands. Each has a byte at least, so as many commands as bytes are enough:
-- the law `enough` says that more change nothing.
unfoldable pub read_from : List ℕ → ℕ → Reader → Reading
read_from s zero q = refused_tape (Cut (length s))
read_from s (suc left) q = let r = next s q in outcome r.verdict r.tape (read_from s left r)

abbrev pub opened : Reader
opened = record { at = 0; verdict = Going; tape = blank; given = replicate place_count false }

unfoldable pub reading : List ℕ → Reading
reading s = read_from s (length s) opened
