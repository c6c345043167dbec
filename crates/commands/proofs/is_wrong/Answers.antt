use mathlib.Core.Path.{◌≡◌, refl, ap}
use mathlib.Core.Bool.{◌||◌}
use lib.Dec.{ltb}
use lib.IntN.{ℤ, pos}
use lib.Signed.{lt_z}
use Rattle.integer.proofs.Sizes.{called}
use Rattle.integer.proofs.Tests.{or_yes, or_no, or_met}
use Rattle.commands.specs.Format.{wrong}
use Rattle.commands.proofs.is_wrong.Goals as goal
use Rattle.commands.proofs.is_wrong.Reads as reads
use Rattle.commands.proofs.is_wrong.Lts as lts
use Rattle.commands.proofs.is_wrong.Tie as tie

-- e is the variant's fields, and that the entry is that variant; `known-told` has the fields' ranges
pub returns-in-State : goal.returns-in-State
unfolding wrong
returns-in-State c =
    let e = c.in-State in
    rw (e.is, ← called e.v c.in-State.known_told-1-own.given.1.1.0.1) c.is_outside.ensures

pub returns-in-Input : goal.returns-in-Input
unfolding wrong
returns-in-Input c =
    let e = c.in-Input in
    rw (e.is, ← called e.v c.in-Input.known_told-in-Input-1-own.given.1.1.0.1) c.is_outside-in-Input.ensures

pub returns-in-Drift : goal.returns-in-Drift
unfolding wrong
returns-in-Drift c =
    let e = c.in-Drift in
    rw (e.is, ← called e.v c.in-Drift.known_told-in-Drift-1-own.given.1.0.1) c.is_outside-in-Drift.ensures

pub returns-in-Column : goal.returns-in-Column
unfolding wrong
returns-in-Column c =
    let e = c.in-Column in
    let k = c.in-Column.known_told-in-Column-1-own.given.1 in
    rw (
      e.is,
      ← called e.low k.0.1,
      ← called e.high k.1.0.1,
      ← called e.reference k.1.1.0.1,
      ← called e.weight k.1.1.1.0.1,
    )
    c.is_wrong_column.ensures

pub returns-in-Reference : goal.returns-in-Reference
unfolding wrong
returns-in-Reference c =
    let e = c.in-Reference in
    rw (e.is, ← called e.v c.in-Reference.known_told-in-Reference-1-own.given.1.1.0.1) c.is_outside-in-Reference.ensures

pub returns-in-Start : goal.returns-in-Start
unfolding wrong
returns-in-Start c =
    let e = c.in-Start in
    rw (e.is, ← called e.v c.in-Start.known_told-in-Start-1-own.given.1.0.1) c.is_outside-in-Start.ensures

-- the tests but the last
tests : (c : lts.Joined1 tie.the-claims reads.Pre reads.Post) → let e = c.in-Rounds in c.if-gain-lt1.t-15 ≡ lt_z e.gain (pos 1) || ltb e.rounds 1
tests c =
    let z = called c.in-Rounds.gain c.in-Rounds.known_told-in-Rounds-1-own.given.1.0.1 in
    or_met (ap (λ (v : ℤ). lt_z v (pos 1)) z) c.if-gain-lt1.branch-raw (λ w. (w.if-gain-lt1.true, w.t-15-is)) (λ w. (w.if-gain-lt1.false, w.t-15-is))

pub returns-then-rounds-lt1 : goal.returns-then-rounds-lt1
unfolding wrong
returns-then-rounds-lt1 c = rw c.in-Rounds.is (or_yes _ (tests c.before) c.if-rounds-lt1.true-raw refl)

pub returns-else-rounds-lt1 : goal.returns-else-rounds-lt1
unfolding wrong
returns-else-rounds-lt1 c = rw c.in-Rounds.is (or_no (tests c.before) c.if-rounds-lt1.false-raw refl)
