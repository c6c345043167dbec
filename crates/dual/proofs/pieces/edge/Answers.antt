use mathlib.Core.Path.{◌≡◌, ◌∙◌}
use native.Mathlib.Omega.{arith}
use lib.IntN.{◌+ℤ◌, ◌-ℤ◌, ◌*ℤ◌}
use mir.Facts.{to_z-of_z}
use Rattle.integer.proofs.Sizes.{called, back, Formed, formed}
use Rattle.primal.proofs.TermSizes.{Near}
use Rattle.dual.proofs.PieceSizes.{pushed, size_edge}
use Rattle.dual.proofs.pieces.edge.Goals as goal
use Rattle.dual.proofs.pieces.edge.Tie as tie
use Rattle.dual.proofs.pieces.edge.Reads as reads
use Rattle.dual.proofs.pieces.edge.Lts as lts

number : (c : lts.Start tie.the-claims reads.Pre reads.Post) → Near c.args.p c.args.v c.args.r
number c = let h = c.requires in record { penalty = h.0; number = h.1; reference = h.2 }

cost_is : (c : goal.After-cost_of) → let a = c.args in back c.cost_of.result ≡ a.p *ℤ ((a.v -ℤ a.r) *ℤ (a.v -ℤ a.r))
cost_is c =
    let f = c.ranges in
    called c.cost_of.result c.cost_of.type_inv ∙ rw (to_z-of_z f.p, to_z-of_z f.v, to_z-of_z f.r) at c.cost_of.ensures

product : (c : lts.Start tie.the-claims reads.Pre reads.Post) → let a = c.args in Formed (back a.s *ℤ back a.v) (a.s *ℤ a.v)
product c = pushed c.args.s c.args.v c.requires.3 c.requires.1

total : (c : goal.After-cost_of) →
    let a = c.args in
    Formed (back c.cost_of.result +ℤ back (back a.s *ℤ back a.v)) (a.p *ℤ ((a.v -ℤ a.r) *ℤ (a.v -ℤ a.r)) +ℤ a.s *ℤ a.v)
total c = let b = c.before in formed (rw (cost_is c, (product b).is)) (size_edge (number b) b.args.s b.requires.3) (omega arith)

pub overflow_mul-result : goal.overflow_mul-result
overflow_mul-result c = (product c.before).fits

pub overflow_add-result : goal.overflow_add-result
overflow_add-result c = (total c).fits

pub returns : goal.returns
returns c = (total c).is
