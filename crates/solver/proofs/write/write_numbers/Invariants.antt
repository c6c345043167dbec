use Prim.Native.Nat.{◌+◌}
use Rattle.integer.specs.Places.{at, Stretch}
use Rattle.solver.proofs.write.write_numbers.Given as goal

abbrev pub invariant-loop-j : goal.invariant-loop-j
invariant-loop-j l = Stretch 0 l.j (λ j. at l.from (l.first + j)) l.initial.part l.part
