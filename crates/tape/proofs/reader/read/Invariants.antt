use Prim.Native.Nat.{◌-◌}
use mathlib.Core.Path.{◌≡◌}
use lib.ListN.{length}
use Rattle.tape.specs.Reading.{Going, read_from, reading}
use Rattle.tape.specs.Parts.{reader_of}
use Rattle.tape.proofs.Steps.{SmallTape}
use Rattle.tape.proofs.reader.read.Given as goal

abbrev pub invariant-loop-progress : goal.invariant-loop-progress
invariant-loop-progress l =
    SmallTape l.progress.tape × (read_from l.tape (length l.tape - l.progress.at) (reader_of Going l.progress) ≡ reading l.tape)

abbrev pub decreases-loop-progress : goal.decreases-loop-progress
decreases-loop-progress l = length l.tape - l.progress.at
