use Prim.Native.Nat.{◌+◌, ◌*◌}
use mathlib.Core.Path.{◌≡◌}
use Rattle.std.specs.Prelude.{Ok}
use Rattle.integer.specs.Places.{at, Stretch}
use Rattle.lent.specs.Checks.{first}
use Rattle.lent.proofs.Steps.{state_check_at}
use Rattle.lent.proofs.walk.check_states.Given as goal

abbrev pub invariant-loop-i : goal.invariant-loop-i
invariant-loop-i l =
    (first l.i (state_check_at l.t.a l.t.b l.t.drift l.t.start l.terms l.plan l.initial.v l.from l.k) ≡ Ok tt)
    × Stretch (10 * l.k + 4) l.i (λ i. at l.plan (l.from + i)) l.initial.v l.v
