use mathlib.Core.Path.{◌≡◌, ◌∙◌}
use native.Mathlib.Omega.{arith}
use Rattle.std.proofs.Common.{rules}
use Rattle.integer.specs.Places.{at}
use Rattle.integer.proofs.Sizes.{called}
use Rattle.problem.specs.Dual.{piece}
use Rattle.primal.specs.Padded.{term_at}
use Rattle.dual.proofs.PieceSizes.{size-piece}
use Rattle.dual.proofs.pieces.pieces.Goals as goal

pub total-requires-clause-small : goal.total-requires-clause-small
total-requires-clause-small c p r l told =
    let a = c.args in
    let h = c.requires in
    let is : r ≡ piece (term_at a.terms.now p) (at a.s.now p) = search rules in
    rw is (omega (arith, size-piece (h.1.each p (omega arith)) (at a.s.now p) (h.2.each p)))

pub returns : goal.returns
returns c =
    let a = c.args in
    called c.total.result c.total.type_inv
    ∙ c.total.ensures (λ p. piece (term_at a.terms.now p) (at a.s.now p)) (λ p r l told. search rules)
