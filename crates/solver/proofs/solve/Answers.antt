use mathlib.Core.Path.{◌≡◌, refl, sym, ◌∙◌}
use borrow.Author.Rules.{rules}
use Rattle.std.specs.Prelude.{Err}
use Rattle.integer.proofs.Operand.{bytes_of}
use Rattle.tape.specs.Reading.{reading}
use Rattle.tape.proofs.Facts.{legal}
use Rattle.tape.proofs.Told.{told_ok, told_err}
use Rattle.solver.specs.Solving.{solving}
use Rattle.solver.proofs.Again.{solve_promise}
use Rattle.solver.proofs.solve.Goals as goal

pub solve_on-requires : goal.solve_on-requires
solve_on-requires c =
    let s = c.args.tape.now in
    let r = told_ok (reading s) (sym c.read.ensures ∙ c.in_ok-t.was) in
    rw r.1 at (legal s (bytes_of c.type_inv.tape) r.0)

pub returns-in_err-t : goal.returns-in_err-t
unfolding solving
returns-in_err-t c =
    let a = c.args in
    let why = c.in_err-t.field-0.0 in
    let e : c.from_residual.result ≡ Err why = search rules in
    let r = told_err (reading a.tape.now) (sym c.read.ensures ∙ c.in_err-t.was) in
    let p = solve_promise a.tape.now a.plan.now a.multipliers.now {r = c.from_residual.result} {plan' = a.plan.now} {y' = a.multipliers.now} (bytes_of c.type_inv.tape)
    (rw r e) (rw r refl) (rw r refl) in
    record { value = p.0; plan_after = p.1.0; multipliers_after = p.1.1.0; rounds_within = p.1.1.1.0; judged_again = p.1.1.1.1.0; upheld = p.1.1.1.1.1 }

pub returns : goal.returns
unfolding solving
returns c =
    let a = c.args in
    let r = told_ok (reading a.tape.now) (sym c.read.ensures ∙ c.in_ok-t.was) in
    let o = c.solve_on in
    let s = o.ensures in
    let p = solve_promise a.tape.now a.plan.now a.multipliers.now {r = o.result} {plan' = o.new.plan} {y' = o.new.multipliers} (bytes_of c.type_inv.tape)
    (rw (r.0, r.1) s.value) (rw (r.0, r.1) s.plan_after) (rw (r.0, r.1) s.multipliers_after) in
    record { value = p.0; plan_after = p.1.0; multipliers_after = p.1.1.0; rounds_within = p.1.1.1.0; judged_again = p.1.1.1.1.0; upheld = p.1.1.1.1.1 }
