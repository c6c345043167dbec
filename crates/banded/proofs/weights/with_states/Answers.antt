use mathlib.Core.Path.{◌≡◌, refl, ◌∙◌}
use native.Mathlib.Omega.{arith}
use Rattle.integer.proofs.Sizes.{called, element_is}
use Rattle.banded.specs.Floats.{sum_from}
use Rattle.banded.proofs.Solving.{sum-with}
use Rattle.banded.proofs.WeightLaws.{sized_back, share_cong, state-size}
use Rattle.banded.proofs.weights.with_states.Goals as goal

pub loop-c-init : goal.loop-c-init
unfolding sum_from
loop-c-init c = refl

pub share_of-total-requires : goal.share_of-total-requires
share_of-total-requires c =
    let start = c.before.before.before.before.before in
    let l = c.loop-c in
    let x = c.state_coefficient-x in
    let y = c.state_coefficient-y in (
      sized_back x.result _ x.type_inv x.ensures (state-size start.requires.4 _ _ _ _),
      sized_back y.result _ y.type_inv y.ensures (state-size start.requires.4 _ _ _ _),
      rw (element_is start.requires.5 (omega arith) l.c) (start.requires.5.each l.c),
    )

pub loop-c-preserved : goal.loop-c-preserved
loop-c-preserved c =
    let start = c.before.before.before.before.before.before in
    let l = c.loop-c in
    let x = c.state_coefficient-x in
    let y = c.state_coefficient-y in
    sum-with _ l.c _ l.total _ l.invariant
    (c.share_of-total.ensures
    ∙ share_cong _ _ _ _ _ _ (called x.result x.type_inv ∙ x.ensures) (called y.result y.type_inv ∙ y.ensures) (element_is start.requires.5 (omega arith) l.c))

pub returns : goal.returns
returns c =
    let e : c.loop-c.c ≡ c.args.n = omega arith in
    rw e at c.loop-c.invariant
