use mathlib.Core.Path.{◌≡◌, ◌∙◌}
use native.Mathlib.Omega.{arith}
use Rattle.std.proofs.Common.{rules}
use Rattle.integer.specs.Places.{at}
use Rattle.integer.proofs.Sizes.{called}
use Rattle.problem.specs.Cost.{cost, plan_cost}
use Rattle.primal.specs.Padded.{term_at}
use Rattle.primal.proofs.Places.{total_places}
use Rattle.primal.proofs.TermSizes.{near, size-cost}
use Rattle.primal.proofs.cost.plan_cost.Goals as goal

pub total-requires-clause-small : goal.total-requires-clause-small
unfolding cost
total-requires-clause-small c p r l told =
    let a = c.args in
    let h = c.requires in
    let is : r ≡ cost (term_at a.terms.now p) (at a.v.now p) = search rules in
    rw is (omega (arith, size-cost (near (h.1.each p (omega arith)) (at a.v.now p) (h.2.each p))))

pub returns : goal.returns
unfolding plan_cost
returns c =
    let a = c.args in
    called c.total.result c.total.type_inv
    ∙ c.total.ensures (λ p. cost (term_at a.terms.now p) (at a.v.now p)) (λ p r l told. search rules)
    ∙ total_places a.horizon _
