use Rattle.std.proofs.Common.{ℕ, ℤ, ◌^◌, ◌*◌, ◌<◌, ◌≤◌, ◌≡◌, nat_abs}
use Rattle.integer.specs.Sum.{sum}
use Rattle.primal.proofs.total.total.Given as goal

abbrev pub invariant-loop-p : goal.invariant-loop-p
invariant-loop-p g l =
    (nat_abs l.total ≤ l.p * 2 ^ 56)
    × ((h : ℕ → ℤ) → ((p : ℕ) (r : ℤ) → p < l.count → goal.F-post g l.f p r → r ≡ h p) → l.total ≡ sum l.p h)
