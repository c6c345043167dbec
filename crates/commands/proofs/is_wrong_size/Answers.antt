use mathlib.Core.Path.{◌≡◌, refl}
use mathlib.Core.Bool.{◌||◌}
use lib.Dec.{ltb}
use borrow.Author.Tests.{lt-ltb, le-ltb}
use Rattle.integer.proofs.Tests.{or_yes, or_no, or_met}
use Rattle.commands.specs.Format.{wrong_size}
use Rattle.commands.proofs.is_wrong_size.Goals as goal
use Rattle.commands.proofs.is_wrong_size.Reads as reads
use Rattle.commands.proofs.is_wrong_size.Lts as lts

-- the tests but the last
tests : (c : lts.Joined4 reads.Pre reads.Post) → let a = c.args in
    c.if-m-gt4.t-5 ≡ ltb a.n 1 || ltb 6 a.n || ltb a.m 1 || ltb 4 a.m || ltb a.horizon 1
tests c =
    or_met
    (or_met
    (or_met
    (or_met refl c.if-n-lt1.branch-raw (λ w. (lt-ltb _ _ w.if-n-lt1.true, w.t-8-is)) (λ w. (le-ltb _ _ w.if-n-lt1.false, w.t-8-is)))
    c.if-n-gt6.branch-raw (λ w. (w.if-n-gt6.true-raw, w.t-7-is)) (λ w. (w.if-n-gt6.false-raw, w.t-7-is)))
    c.if-m-lt1.branch-raw (λ w. (w.if-m-lt1.true-raw, w.t-6-is)) (λ w. (w.if-m-lt1.false-raw, w.t-6-is)))
    c.if-m-gt4.branch-raw (λ w. (w.if-m-gt4.true-raw, w.t-5-is)) (λ w. (w.if-m-gt4.false-raw, w.t-5-is))

pub returns-then-horizon-lt1 : goal.returns-then-horizon-lt1
unfolding wrong_size
returns-then-horizon-lt1 c = or_yes _ (tests c.before) c.if-horizon-lt1.true-raw refl

pub returns-else-horizon-lt1 : goal.returns-else-horizon-lt1
unfolding wrong_size
returns-else-horizon-lt1 c = or_no (tests c.before) c.if-horizon-lt1.false-raw refl
