use native.Mathlib.Omega.{arith}
use Rattle.integer.proofs.Sizes.{widened}
use Rattle.slip_text.proofs.Appending.{appended_none, appended_then, appended_within}
use Rattle.slip_text.proofs.lines.with_duty.Goals as goal

pub overflow_cast-duty : goal.overflow_cast-duty
overflow_cast-duty c =
    (widened c.args.duty c.ranges.duty.sfits).fits

pub returns-then-due : goal.returns-then-due
returns-then-due c =
    let number = rw (widened c.args.duty c.ranges.duty.sfits).is at c.with_signed.ensures in
    rw c.if-due.true (appended_then c.with_word-blank.ensures number)

pub returns : goal.returns
returns c = rw c.if-due.false (appended_within 22 (omega arith) (appended_none c.args.text))
