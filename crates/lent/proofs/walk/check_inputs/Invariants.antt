use Prim.Native.Nat.{◌+◌, ◌*◌}
use mathlib.Core.Path.{◌≡◌}
use Rattle.std.specs.Prelude.{Ok}
use Rattle.integer.specs.Places.{at, Stretch}
use Rattle.lent.specs.Checks.{first}
use Rattle.lent.proofs.Steps.{input_check_at}
use Rattle.lent.proofs.walk.check_inputs.Given as goal

abbrev pub invariant-loop-j : goal.invariant-loop-j
invariant-loop-j l =
    (first l.j (input_check_at l.terms l.plan l.from l.t.n l.k) ≡ Ok tt) × Stretch (10 * l.k) l.j (λ j. at l.plan (l.from + j)) l.initial.v l.v
