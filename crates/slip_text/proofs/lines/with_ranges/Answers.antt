use mathlib.Core.Path.{sym}
use Rattle.slip_text.specs.Slip.{range_line}
use Rattle.slip_text.proofs.Appending.{appended_none, appended_then}
use Rattle.slip_text.proofs.FirstLine.{four_each}
use Rattle.slip_text.proofs.lines.with_ranges.Goals as goal

pub returns : goal.returns
returns c =
    let a = c.args in
    let q = a.ranges in
    let last = appended_then c.with_range-three.ensures (appended_then c.with_range.ensures (appended_none _)) in
    rw (sym (four_each range_line a.m q.u0 q.u1 q.u2 q.u3))
    (appended_then c.with_range-one.ensures (appended_then c.with_range-two.ensures last))
