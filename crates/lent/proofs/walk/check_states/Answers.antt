use Prim.Native.Nat.{◌+◌, ◌*◌}
use mathlib.Core.Path.{◌≡◌, sym, ◌∙◌}
use native.Mathlib.Omega.{arith}
use lib.IntN.{ℤ}
use borrow.Author.Rules.{rules}
use Rattle.std.specs.Prelude.{Err}
use Rattle.integer.specs.Places.{at, Bounded}
use Rattle.integer.proofs.Sizes.{called, back, wider}
use Rattle.integer.proofs.Places.{stretch_none, stretch_store, stretch_bounded}
use Rattle.commands.specs.Ranges.{most_number}
use Rattle.primal.proofs.ModelSizes.{model_at, size_model}
use Rattle.primal.proofs.HeldSteps.{model_kept}
use Rattle.primal.specs.Padded.{term_at}
use Rattle.lent.specs.Checks.{state_check}
use Rattle.lent.proofs.Steps.{first-none, first-passed, first-failed, first-each, state-size, state_check_at}
use Rattle.lent.proofs.walk.check_states.Goals as goal
use Rattle.lent.proofs.walk.check_states.Goals.{In-loop-i, After-model_sum-s, After-check_state}

pub loop-i-init : goal.loop-i-init
loop-i-init c = (first-none _, stretch_none _ _ _)

-- what has been stored has passed its limits
bounded : (c : In-loop-i) → Bounded most_number c.loop-i.v
bounded c =
    let p = c.requires in
    let a = c.args in
    let l = c.loop-i in
    stretch_bounded p.plan_len.2
    (λ j h. let q = 10 * a.k + (4 + j) in
    let e = first-each l.i _ l.invariant.0 j h in
    let g = p.legal.1.tables.each q (omega arith) in
    state-size a.k j _ (term_at a.terms.now q).low (term_at a.terms.now q).high (at a.plan.now (a.from + j)) g.low g.high e)
    l.invariant.1

pub model_sum-s-requires : goal.model_sum-s-requires
model_sum-s-requires c =
    let t = c.requires.legal.0 in
    (omega arith, omega arith, t.a, t.b, wider t.drift (omega arith), t.start, bounded (goal.at.model_sum-s-requires c).In-loop-i)

-- S, from the array as it was before the loop
abbrev model : In-loop-i → ℤ
model c =
    let a = c.args in
    let t = a.t.now in
    model_at t.a t.b t.drift t.start a.v.now a.k c.loop-i.i

model_is : (c : After-model_sum-s) → back c.model_sum-s.result ≡ model (goal.at.After-model_sum-s c).In-loop-i
model_is c =
    let a = c.args in
    let t = a.t.now in
    let l = c.loop-i in
    let f = c.model_sum-s in
    ◌∙◌ {b = f.result} (called f.result f.type_inv)
    (◌∙◌ {b = model_at t.a t.b t.drift t.start l.v a.k l.i} f.ensures (model_kept t.a t.b t.drift t.start a.k l.i l.i l.invariant.1))

pub check_state-requires : goal.check_state-requires
check_state-requires c =
    let t = c.requires.legal.0 in
    rw (model_is (goal.at.check_state-requires c).After-model_sum-s)
    (omega (arith, size_model t.a t.b (wider t.drift (omega arith)) t.start c.requires.plan_len.2 c.args.k c.loop-i.i))

-- the tests, by the numbers of the plan and of the tables
checked : (c : After-check_state) →
    let a = c.args in
    let t = a.t.now in
    state_check_at t.a t.b t.drift t.start a.terms.now a.plan.now a.v.now a.from a.k c.loop-i.i ≡ c.check_state.result
checked c =
    let a = c.args in
    let q = 10 * a.k + (4 + c.loop-i.i) in
    let e : c.check_state.result
    ≡ state_check a.k c.loop-i.i (back c.model_sum-s.result) (term_at a.terms.now q).low (term_at a.terms.now q).high (at a.plan.now (a.from + c.loop-i.i)) = search rules in
    sym (rw (model_is (goal.at.After-check_state c).After-model_sum-s) at e)

pub returns-in_err-check_state-clause-value : goal.returns-in_err-check_state-clause-value
returns-in_err-check_state-clause-value c =
    let l = c.loop-i in
    let e : c.from_residual.result ≡ Err c.in_err-check_state.field-0.0 = search rules in
    e ∙ sym (first-failed l.i _ _ (omega arith) l.invariant.0 (checked (goal.at.returns-in_err-check_state-clause-value c).After-check_state ∙ c.in_err-check_state.was))

pub loop-i-preserved : goal.loop-i-preserved
loop-i-preserved c =
    let l = c.loop-i in
    let e : 10 * c.args.k + (4 + l.i) ≡ 10 * c.args.k + 4 + l.i = omega arith in (
      first-passed l.i _ l.invariant.0 (checked (goal.at.loop-i-preserved c).After-check_state ∙ c.in_ok-check_state.was),
      rw e (stretch_store _ _ _ _ _ _ (omega arith) l.invariant.1 (search rules)),
    )
