use mathlib.Core.Path.{◌≡◌, refl, ◌∙◌}
use mathlib.Core.Bool.{◌||◌}
use lib.IntN.{pos, negsuc}
use lib.Signed.{lt_z}
use mir.Facts.{to_z-of_z}
use Rattle.integer.specs.Tests.{outside}
use Rattle.integer.proofs.Tests.{or_yes, or_no, or_met}
use Rattle.commands.specs.Format.{wrong_column}
use Rattle.commands.proofs.is_wrong_column.Goals as goal
use Rattle.commands.proofs.is_wrong_column.Reads as reads
use Rattle.commands.proofs.is_wrong_column.Lts as lts
use Rattle.commands.proofs.is_wrong_column.Tie as tie

-- the tests but the last
tests : (c : lts.Joined3 tie.the-claims reads.Pre reads.Post) → let a = c.args in
    let out = outside (negsuc 19999) (pos 20000) in
    c.if-is_outside-3.value ≡ out a.low || out a.high || out a.reference || lt_z a.high a.low
tests c =
    let f = c.ranges in
    rw (← to_z-of_z f.low, ← to_z-of_z f.high, ← to_z-of_z f.reference)
    (or_met
    (or_met
    (or_met c.is_outside.ensures c.if-is_outside.branch-raw (λ w. (w.if-is_outside.true, w.value-is))
    (λ w. (w.if-is_outside.false, w.value-is ∙ w.is_outside-else-is_outside.ensures)))
    c.if-is_outside-2.branch-raw (λ w. (w.if-is_outside-2.true, w.value-is)) (λ w. (w.if-is_outside-2.false, w.value-is ∙ w.is_outside-else-is_outside-2.ensures)))
    c.if-is_outside-3.branch-raw (λ w. (w.if-is_outside-3.true, w.value-is)) (λ w. (w.if-is_outside-3.false, w.value-is)))

pub returns-then-high-low : goal.returns-then-high-low
unfolding wrong_column
returns-then-high-low c = or_yes _ (tests c.before) c.if-high-low.true refl

pub returns-else-high-low : goal.returns-else-high-low
unfolding wrong_column
returns-else-high-low c =
    let f = c.ranges in
    or_no (tests c.before.before) c.if-high-low.false (rw (← to_z-of_z f.weight) c.is_outside-else-high-low.ensures)
