use Prim.Native.Nat.{◌+◌, ◌*◌}
use mathlib.Core.Path.{◌≡◌, sym, ◌∙◌, ap}
use native.Mathlib.Omega.{arith}
use borrow.Author.Rules.{rules}
use Rattle.std.specs.Prelude.{Err}
use Rattle.integer.specs.Places.{at}
use Rattle.integer.proofs.Places.{stretch_none, stretch_store}
use Rattle.tape.specs.declared.refusal.Refusal.TheVariants.{OverLimit}
use Rattle.primal.specs.Padded.{term_at}
use Rattle.lent.specs.Checks.{tested, refused_as}
use Rattle.lent.proofs.Steps.{first-none, first-passed, first-failed, input_check_at, refused_is}
use Rattle.lent.proofs.walk.check_inputs.Goals as goal
use Rattle.lent.proofs.walk.check_inputs.Goals.{After-map_err}

pub loop-j-init : goal.loop-j-init
loop-j-init c = (first-none _, stretch_none _ _ _)

-- the test, by the numbers of the plan and of the tables
checked : (c : After-map_err) → let a = c.args in
    input_check_at a.terms.now a.plan.now a.from a.t.now.n a.k c.loop-j.j ≡ c.map_err.result
checked c =
    let a = c.args in
    let p = 10 * a.k + c.loop-j.j in
    let e : c.check_number.result ≡ tested a.k (a.t.now.n + c.loop-j.j) (term_at a.terms.now p).low (term_at a.terms.now p).high (at a.plan.now (a.from + c.loop-j.j)) = search rules in
    sym (refused_is OverLimit c.check_number.result c.map_err.result c.map_err.ensures.cases ∙ ap (refused_as OverLimit) e)

pub returns-in_err-map_err-clause-value : goal.returns-in_err-map_err-clause-value
returns-in_err-map_err-clause-value c =
    let l = c.loop-j in
    let e : c.from_residual.result ≡ Err c.in_err-map_err.field-0.0 = search rules in
    e ∙ sym (first-failed l.j _ _ (omega arith) l.invariant.0 (checked (goal.at.returns-in_err-map_err-clause-value c).After-map_err ∙ c.in_err-map_err.was))

pub loop-j-preserved : goal.loop-j-preserved
loop-j-preserved c =
    let l = c.loop-j in (
      first-passed l.j _ l.invariant.0 (checked (goal.at.loop-j-preserved c).After-map_err ∙ c.in_ok-map_err.was),
      stretch_store _ _ _ _ _ _ (omega arith) l.invariant.1 (search rules),
    )
