use mathlib.Core.Path.{refl}
use borrow.Author.Tests.{le-leb, lt-leb}
use Rattle.integer.proofs.Tests.{or_yes, or_no}
use Rattle.commands.specs.Format.{beyond}
use Rattle.commands.proofs.is_beyond.Goals as goal

pub returns-then-n-i : goal.returns-then-n-i
unfolding beyond
returns-then-n-i c = rw c.in-State.is (or_yes _ refl (le-leb _ _ c.if-n-i.true) refl)

pub returns-else-n-i : goal.returns-else-n-i
unfolding beyond
returns-else-n-i c = rw c.in-State.is (or_no refl (lt-leb _ _ c.if-n-i.false) refl)

pub returns-then-n-i-2 : goal.returns-then-n-i-2
unfolding beyond
returns-then-n-i-2 c = rw c.in-Input.is (or_yes _ refl (le-leb _ _ c.if-n-i-2.true) refl)

pub returns-else-n-i-2 : goal.returns-else-n-i-2
unfolding beyond
returns-else-n-i-2 c = rw c.in-Input.is (or_no refl (lt-leb _ _ c.if-n-i-2.false) refl)

pub returns-in-Drift : goal.returns-in-Drift
unfolding beyond
returns-in-Drift c = rw c.in-Drift.is

pub returns-in-Column : goal.returns-in-Column
unfolding beyond
returns-in-Column c = rw c.in-Column.is

pub returns-then-n-m : goal.returns-then-n-m
unfolding beyond
returns-then-n-m c = rw c.in-Reference.is (or_yes _ refl (le-leb _ _ c.if-n-m.true) refl)

pub returns-else-n-m : goal.returns-else-n-m
unfolding beyond
returns-else-n-m c = rw c.in-Reference.is (or_no refl (lt-leb _ _ c.if-n-m.false) refl)

pub returns-in-Start : goal.returns-in-Start
unfolding beyond
returns-in-Start c = rw c.in-Start.is

pub returns-in-Rounds : goal.returns-in-Rounds
unfolding beyond
returns-in-Rounds c = rw c.in-Rounds.is
