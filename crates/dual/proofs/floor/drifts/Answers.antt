use Prim.Native.Nat.{ℕ, ◌+◌, ◌*◌}
use mathlib.Core.Path.{◌≡◌, ap, ◌∙◌}
use mathlib.Core.List.{List}
use native.Mathlib.Omega.{arith}
use lib.IntN.{ℤ, ◌*ℤ◌}
use Rattle.std.proofs.Common.{rules}
use Rattle.integer.specs.Places.{at}
use Rattle.integer.specs.Sum.{sum}
use Rattle.integer.proofs.Sizes.{called}
use Rattle.integer.proofs.Sum.{sum_cong}
use Rattle.dual.proofs.FloorSizes.{drift_at, size_drift_at}
use Rattle.dual.proofs.floor.drifts.Goals as goal

-- what `dot` says of a step, with its places counted from 0
step : (drift y : List ℤ) (k : ℕ) {r : ℤ} → r ≡ sum 6 (λ q. at y (6 * k + q) *ℤ at drift (0 + 1 * q)) → r ≡ drift_at drift y k
step drift y k e = e ∙ sum_cong 6 _ _ (λ q _. ap (λ (p : ℕ). at y (6 * k + q) *ℤ at drift p) (omega arith))

pub total-requires-clause-small : goal.total-requires-clause-small
total-requires-clause-small c k r l told =
    let a = c.args in
    let dotted : r ≡ sum 6 (λ q. at a.y.now (6 * k + q) *ℤ at a.drift.now (0 + 1 * q)) = search rules in
    rw (step a.drift.now a.y.now k dotted) (omega (arith, size_drift_at c.requires.1 c.requires.2 k))

pub returns : goal.returns
returns c =
    let a = c.args in
    called c.total.result c.total.type_inv
    ∙ c.total.ensures (drift_at a.drift.now a.y.now)
    (λ k r l told.
    let dotted : r ≡ sum 6 (λ q. at a.y.now (6 * k + q) *ℤ at a.drift.now (0 + 1 * q)) = search rules in
    step a.drift.now a.y.now k dotted)
