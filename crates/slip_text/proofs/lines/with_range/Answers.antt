use native.Mathlib.Omega.{arith}
use Rattle.integer.proofs.Sizes.{called}
use Rattle.slip_text.proofs.Appending.{appended_none, appended_then, appended_within}
use Rattle.slip_text.proofs.lines.with_range.Goals as goal

pub returns-then-due : goal.returns-then-due
returns-then-due c =
    let high = c.before.before in
    let blank = high.before.before in
    let low = blank.before.before in
    let word = low.before.before in
    let taken = word.before.before in
    let range = taken.args.range in
    let r = low.struct_told-1.given in
    let from = rw (called range.low r.0.1) at low.with_signed-from.ensures in
    let to = rw (called range.high r.1.0.1) at high.with_signed-to.ensures in
    rw taken.if-due.true
    (appended_then (appended_then (appended_then (appended_then word.with_word-named.ensures from) blank.with_word-blank.ensures) to) c.with_word.ensures)

pub returns : goal.returns
returns c = rw c.if-due.false (appended_within 50 (omega arith) (appended_none c.args.text))
