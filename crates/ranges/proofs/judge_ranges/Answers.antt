use Prim.Native.Nat.{ℕ}
use mathlib.Core.Path.{◌≡◌, sym, ◌∙◌, ap}
use mathlib.Core.List.{List}
use native.Mathlib.Omega.{arith}
use lib.IntN.{ℤ, pos}
use borrow.Author.Rules.{rules}
use Rattle.std.specs.Prelude.{Ok, Err}
use Rattle.integer.specs.Order.{◌≼◌}
use Rattle.integer.proofs.Operand.{bytes_of}
use Rattle.integer.proofs.Order.{le_trans}
use Rattle.integer.proofs.Sizes.{back, back_is}
use Rattle.commands.specs.Ranges.{most_wanted}
use Rattle.tape.specs.Reading.{reading}
use Rattle.tape.proofs.Told.{told_ok, told_err}
use Rattle.judge.specs.Judging.{judged}
use Rattle.judge.proofs.Granted.{Granted, granted, gap_nonneg}
use Rattle.ranges.specs.Ranges.{ranges_of}
use Rattle.ranges.proofs.Duties.{ranges_promise}
use Rattle.ranges.proofs.EndSizes.{wanted-size}
use Rattle.ranges.proofs.judge_ranges.Goals as goal
use Rattle.ranges.proofs.judge_ranges.Goals.{In_ok-t}

pub returns-in_err-gap : goal.returns-in_err-gap
unfolding ranges_of
returns-in_err-gap c =
    let a = c.args in
    let e : c.from_residual.result ≡ Err c.in_err-gap.field-0.0 = search rules in
    let p = ranges_promise a.tape.now a.plan.now a.multipliers.now (bytes_of c.type_inv.tape) {r = c.from_residual.result}
    (rw (sym c.judge_plan.ensures.value ∙ c.in_err-gap.was) e) in
    record { value = p.0; bounding = p.1 }

-- a tape on which a plan was accepted is not refused
pub returns-in_err-t : goal.returns-in_err-t
unfolding ranges_of judged
returns-in_err-t c =
    let r = told_err (reading c.args.tape.now) (sym c.read.ensures ∙ c.in_err-t.was) in
    let refused = rw r at (sym c.judge_plan.ensures.value ∙ c.in_ok-gap.was) in
    search rules

-- the gap that judging gave, from 0 to the most that a tape wants
module _ (c : In_ok-t) where
  abbrev s : List ℕ
  s = c.args.tape.now

  abbrev gap : ℤ
  gap = c.in_ok-gap.gap

  tape_is : (reading s).tape ≡ c.in_ok-t.t
  tape_is = (told_ok (reading s) (sym c.read.ensures ∙ c.in_ok-t.was)).1

  judged_gap : judged s c.args.plan.now c.args.multipliers.now ≡ Ok gap
  judged_gap = sym c.judge_plan.ensures.value ∙ c.in_ok-gap.was

  grant : Granted (reading s).tape c.args.multipliers.now gap
  grant = granted s c.args.plan.now c.args.multipliers.now (bytes_of c.type_inv.tape) gap judged_gap

  nonneg : pos 0 ≼ gap
  nonneg = gap_nonneg s c.args.plan.now c.args.multipliers.now (bytes_of c.type_inv.tape) gap judged_gap

  small : gap ≼ pos most_wanted
  small = le_trans grant.wanted grant.lawful.wanted.1

  gap_back : back gap ≡ gap
  gap_back = back_is gap (wanted-size gap nonneg small) (omega arith)

pub first_ranges-requires : goal.first_ranges-requires
first_ranges-requires c =
    let i = (goal.at.first_ranges-requires c).In_ok-t in
    let g = grant i in
    let t = tape_is i in
    rw (gap_back i)
    (record {
      legal = (rw t at g.lawful, rw t at g.long, g.ranged);
      pos = (nonneg i, small i);
    })

pub returns : goal.returns
unfolding ranges_of
returns c =
    let a = c.args in
    let i = (goal.at.returns c).In_ok-t in
    let p = ranges_promise a.tape.now a.plan.now a.multipliers.now (bytes_of c.type_inv.tape) {r = Ok c.first_ranges.result}
    (rw (judged_gap i, tape_is i) (ap Ok (rw (gap_back i) at c.first_ranges.ensures))) in
    record { value = p.0; bounding = p.1 }
