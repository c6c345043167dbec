use Prim.Native.Nat.{ℕ, ◌+◌, ◌*◌}
use mathlib.Core.Path.{◌≡◌}
use mathlib.Core.List.{List}
use lib.IntN.{ℤ, ◌*ℤ◌}
use Rattle.integer.specs.Places.{at}
use Rattle.integer.specs.Sum.{sum}
use Rattle.primal.proofs.dot.dot.Given as goal

abbrev pub term : List ℤ → ℕ → List ℤ → ℕ → ℕ → ℕ → ℤ
term x i y j stride q = at x (i + q) *ℤ at y (j + stride * q)

abbrev pub invariant-loop-q : goal.invariant-loop-q
invariant-loop-q l = l.total ≡ sum l.q (term l.x l.i l.y l.j l.stride)
