use mathlib.Core.Path.{◌∙◌}
use Rattle.problem.specs.declared.Term.{Term}
use Rattle.problem.specs.Dual.{larger, most}
use Rattle.primal.specs.Ranges.{Ranged}
use Rattle.primal.proofs.TermSizes.{Near, near, distance, squared, weighted}
use Rattle.primal.proofs.cost.most_of.Goals as goal

low : {t : Term} → Ranged t → Near t.penalty t.low t.reference
low {t} g = near g t.low g.low

high : {t : Term} → Ranged t → Near t.penalty t.high t.reference
high {t} g = near g t.high g.high

pub overflow_sub-a : goal.overflow_sub-a
overflow_sub-a c = (distance (low c.requires)).fits

pub overflow_sub-a-2 : goal.overflow_sub-a-2
overflow_sub-a-2 c = (distance (low c.requires)).fits

pub overflow_mul-a : goal.overflow_mul-a
overflow_mul-a c = (squared (low c.requires)).fits

pub overflow_sub-b : goal.overflow_sub-b
overflow_sub-b c = (distance (high c.requires)).fits

pub overflow_sub-b-2 : goal.overflow_sub-b-2
overflow_sub-b-2 c = (distance (high c.requires)).fits

pub overflow_mul-b : goal.overflow_mul-b
overflow_mul-b c = (squared (high c.requires)).fits

pub overflow_mul-result : goal.overflow_mul-result
overflow_mul-result c = (weighted (high c.requires)).fits

pub returns-then-a-b : goal.returns-then-a-b
unfolding most larger
returns-then-a-b c =
    let test = rw ((squared (low c.requires)).is, (squared (high c.requires)).is) at c.if-a-b.true in
    (weighted (high c.requires)).is ∙ rw test

pub overflow_mul-result-2 : goal.overflow_mul-result-2
overflow_mul-result-2 c = (weighted (low c.requires)).fits

pub returns : goal.returns
unfolding most larger
returns c =
    let test = rw ((squared (low c.requires)).is, (squared (high c.requires)).is) at c.if-a-b.false in
    (weighted (low c.requires)).is ∙ rw test
