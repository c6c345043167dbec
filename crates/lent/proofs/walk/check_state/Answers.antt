use mathlib.Core.Path.{◌≡◌, sym, ◌∙◌, ap}
use mir.Facts.{to_z-of_z}
use borrow.Author.Rules.{rules}
use Rattle.std.specs.Prelude.{Err}
use Rattle.integer.proofs.Sizes.{called, back}
use Rattle.tape.specs.declared.refusal.Refusal.TheVariants.{OffModel, OverLimit}
use Rattle.problem.specs.Model.{rounded}
use Rattle.lent.specs.Checks.{refused_as, meets, state_check}
use Rattle.lent.proofs.Steps.{refused_is}
use Rattle.lent.proofs.walk.check_state.Goals as goal
use Rattle.lent.proofs.walk.check_state.Goals.{After-map_err}

-- test 10, of the number that S gives
model_is : (c : After-map_err) → let a = c.args in c.map_err.result ≡ meets a.k a.i a.s a.x
model_is c =
    let f = c.state_of-expected in
    let expected : back f.result ≡ rounded c.args.s = called f.result f.type_inv ∙ f.ensures ∙ ap rounded (to_z-of_z c.ranges.s) in
    refused_is OffModel c.check_number.result c.map_err.result c.map_err.ensures.cases
    ∙ ap (refused_as OffModel) (rw (expected, to_z-of_z c.ranges.x) at c.check_number.ensures)

pub returns-in_err-map_err : goal.returns-in_err-map_err
unfolding state_check
returns-in_err-map_err c =
    let e : c.from_residual.result ≡ Err c.in_err-map_err.field-0.0 = search rules in
    rw (sym (model_is (goal.at.returns-in_err-map_err c).After-map_err) ∙ c.in_err-map_err.was) e

pub returns : goal.returns
unfolding state_check
returns c =
    let e = refused_is OverLimit c.check_number-2.result c.map_err-2.result c.map_err-2.ensures.cases in
    rw (sym (model_is (goal.at.returns c).After-map_err) ∙ c.in_ok-map_err.was)
    (e ∙ ap (refused_as OverLimit) (rw (to_z-of_z c.ranges.low, to_z-of_z c.ranges.high, to_z-of_z c.ranges.x) at c.check_number-2.ensures))
