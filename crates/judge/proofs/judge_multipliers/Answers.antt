use mathlib.Core.Path.{◌≡◌, sym, ◌∙◌}
use borrow.Author.Rules.{rules}
use Rattle.std.specs.Prelude.{Err}
use Rattle.integer.proofs.Operand.{bytes_of}
use Rattle.tape.specs.Reading.{reading}
use Rattle.tape.proofs.Facts.{legal}
use Rattle.tape.proofs.Told.{told_ok, told_err}
use Rattle.judge.specs.Judging.{shown}
use Rattle.judge.proofs.Accepted.{multipliers_promise}
use Rattle.judge.proofs.judge_multipliers.Goals as goal

pub show_on-requires : goal.show_on-requires
show_on-requires c =
    let s = c.args.tape.now in
    let r = told_ok (reading s) (sym c.read.ensures ∙ c.in_ok-read.was) in
    rw r.1 at (legal s (bytes_of c.type_inv.tape) r.0)

pub returns-in_err-read : goal.returns-in_err-read
unfolding shown
returns-in_err-read c =
    let a = c.args in
    let e : c.from_residual.result ≡ Err c.in_err-read.field-0.0 = search rules in
    let p = multipliers_promise a.tape.now a.multipliers.now {r = c.from_residual.result} (bytes_of c.type_inv.tape)
    (rw (told_err (reading a.tape.now) (sym c.read.ensures ∙ c.in_err-read.was)) e) in
    record { value = p.0; founded = p.1 }

pub returns : goal.returns
unfolding shown
returns c =
    let a = c.args in
    let r = told_ok (reading a.tape.now) (sym c.read.ensures ∙ c.in_ok-read.was) in
    let p = multipliers_promise a.tape.now a.multipliers.now {r = c.show_on.result} (bytes_of c.type_inv.tape)
    (rw (r.0, r.1) c.show_on.ensures) in
    record { value = p.0; founded = p.1 }
