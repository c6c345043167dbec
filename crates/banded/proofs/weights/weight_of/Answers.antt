use mathlib.Core.Path.{◌≡◌, ◌∙◌}
use native.Mathlib.Nat.{mod-lt}
use native.Mathlib.Omega.{arith}
use Rattle.banded.specs.Weights.{weight_to, weights}
use Rattle.banded.proofs.Stores.{zero_bits}
use Rattle.banded.proofs.WeightLaws.{weight_more}
use Rattle.banded.proofs.weights.weight_of.Goals as goal

pub loop-s-init : goal.loop-s-init
unfolding weight_to
loop-s-init c = (mod-lt _ (omega arith), mod-lt _ (omega arith), zero_bits)

pub loop-s-preserved : goal.loop-s-preserved
loop-s-preserved c =
    let l = c.loop-s in
    (l.invariant.0, l.invariant.1, c.with_states-sum.ensures ∙ weight_more _ _ _ _ _ l.s l.sum _ l.invariant.2 c.with_inputs-more.ensures)

pub returns : goal.returns
unfolding weights
returns c =
    let e : c.loop-s.s ≡ c.args.t.now.horizon = omega arith in
    rw e at c.loop-s.invariant.2
