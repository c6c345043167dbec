use mathlib.Core.Path.{◌≡◌, ◌∙◌}
use native.Mathlib.Omega.{arith}
use Rattle.std.proofs.Common.{rules}
use Rattle.integer.proofs.Sizes.{called}
use Rattle.problem.specs.Dual.{most, ceiling}
use Rattle.primal.specs.Padded.{term_at}
use Rattle.primal.proofs.Places.{total_places}
use Rattle.primal.proofs.TermSizes.{size-most}
use Rattle.primal.proofs.cost.ceiling_of.Goals as goal

pub total-requires-clause-small : goal.total-requires-clause-small
total-requires-clause-small c p r l told =
    let a = c.args in
    let is : r ≡ most (term_at a.terms.now p) = search rules in
    rw is (omega (arith, size-most (c.requires.1.each p (omega arith))))

pub returns : goal.returns
unfolding ceiling
returns c =
    let a = c.args in
    called c.total.result c.total.type_inv
    ∙ c.total.ensures (λ p. most (term_at a.terms.now p)) (λ p r l told. search rules)
    ∙ total_places a.horizon _
