use Prim.Native.Nat.{◌+◌}
use mathlib.Core.Path.{◌≡◌}
use Rattle.banded.specs.Floats.{sum_from, float_at, zero_float, ◌⊗◌}
use Rattle.banded.proofs.solve.sum_after.Given as goal

abbrev pub invariant-loop-j : goal.invariant-loop-j
invariant-loop-j l =
    l.sum ≡ sum_from zero_float l.j (λ i. float_at l.couplings i ⊗ float_at l.d (l.p + 1 + i))
