use mathlib.Core.Path.{◌≡◌, refl, sym, ◌∙◌}
use borrow.Author.Rules.{rules}
use Rattle.std.specs.Prelude.{Err}
use Rattle.integer.proofs.Operand.{bytes_of}
use Rattle.tape.specs.Reading.{reading}
use Rattle.tape.proofs.Facts.{legal}
use Rattle.tape.proofs.Told.{told_ok, told_err}
use Rattle.corrections.specs.Corrections.{corrected}
use Rattle.corrections.proofs.banded_correction.Goals as goal

pub correct-requires : goal.correct-requires
correct-requires c =
    let s = c.args.tape.now in
    let r = told_ok (reading s) (sym c.read.ensures ∙ c.in_ok-read.was) in
    rw r.1 at (legal s (bytes_of c.type_inv.tape) r.0)

pub returns-in_err-read : goal.returns-in_err-read
unfolding corrected
returns-in_err-read c =
    let e : c.from_residual.result ≡ Err c.in_err-read.field-0.0 = search rules in
    record {
      value = rw (told_err (reading c.args.tape.now) (sym c.read.ensures ∙ c.in_err-read.was)) e;
      pivots_after = rw e refl;
      correction_after = rw e refl;
    }

pub returns : goal.returns
unfolding corrected
returns c =
    let r = told_ok (reading c.args.tape.now) (sym c.read.ensures ∙ c.in_ok-read.was) in
    let o = c.correct.ensures in
    record {
      value = rw (r.0, r.1) o.value;
      pivots_after = rw r.1 o.pivots_after;
      correction_after = rw r.1 o.correction_after;
    }
