use Prim.Native.Nat.{ℕ, ◌-◌, ◌<◌}
use mathlib.Core.Path.{◌≡◌, refl, ap, ◌∙◌}
use mathlib.Core.List.{List}
use native.Mathlib.Omega.{arith}
use borrow.Author.Rules.{rules}
use borrow.Author.Tests.{lt-ltb}
use lib.ListN.{length}
use Rattle.std.specs.Prelude.{Err}
use Rattle.commands.specs.declared.Command.{Command}
use Rattle.commands.specs.Format.{decoded}
use Rattle.tape.specs.Answer.{told_of}
use Rattle.tape.specs.Parts.{reader_of}
use Rattle.tape.specs.Reading.{Reader, Verdict, Going, outcome, obey, next, read_from, reading}
use Rattle.tape.proofs.Steps.{SmallTape, small_opened, small_next, read_step}
use Rattle.tape.proofs.Enough.{led_on}
use Rattle.tape.proofs.reader.read.Goals as goal

-- A command has been obeyed, and has led from the reader q to r.
module _ (s : List ℕ) (q r : Reader) {c command : Command} (more : q.at < length s) (decode : c ≡ decoded s q.at) (is : c ≡ command) (obeyed : r ≡ obey command s q) where
  leads : r ≡ next s q
  unfolding next
  leads = rw (lt-ltb q.at (length s) more, ← decode, is) obeyed

  -- where r has ended or is refused, so has the whole tape
  left : {v : Verdict} → r.verdict ≡ v → read_from s (length s - q.at) q ≡ reading s →
      outcome v r.tape (read_from s (length s - q.at - 1) r) ≡ reading s
  left v kept = read_step s (length s - q.at) q r (omega arith) leads v ∙ kept

  on : r.verdict ≡ Going → (q.at < r.at) × (read_from s (length s - r.at) r ≡ read_from s (length s - q.at) q)
  on = led_on s q r more leads

  small : SmallTape q.tape → SmallTape r.tape
  small l = rw leads (small_next s q l)

pub loop-progress-init : goal.loop-progress-init
unfolding reading
loop-progress-init c =
    let e = c.new-progress.ensures in
    let start : c.new-progress.result.at ≡ 0 = ap (λ (q : Reader). q.at) e in
    let all : length c.args.tape.now - c.new-progress.result.at ≡ length c.args.tape.now = omega arith in
    (rw (ap (λ (q : Reader). q.tape) e) small_opened, rw (e, all))

pub returns-in-Unknown : goal.returns-in-Unknown
unfolding obey
returns-in-Unknown c =
    ap told_of (left c.args.tape.now (reader_of Going c.loop-progress.progress) _ c.loop-progress-test.true c.decode.ensures.0 c.in-Unknown.is refl refl c.loop-progress.invariant.1)

pub returns-in-Cut : goal.returns-in-Cut
unfolding obey
returns-in-Cut c =
    ap told_of (left c.args.tape.now (reader_of Going c.loop-progress.progress) _ c.loop-progress-test.true c.decode.ensures.0 c.in-Cut.is refl refl c.loop-progress.invariant.1)

pub loop-progress-smaller-in-Continue-1 : goal.loop-progress-smaller-in-Continue-1
unfolding obey
loop-progress-smaller-in-Continue-1 c =
    let l = c.loop-progress.progress in
    let o = rw c.in_ok-obey_size-in-Size.was at c.obey_size.ensures in
    let m = on c.args.tape.now (reader_of Going l) (reader_of Going c.obey_size.new.self) c.loop-progress-test.true c.decode.ensures.0 c.in-Size.is o refl in
    omega (arith, m.0)

pub loop-progress-preserved-in-Continue-1 : goal.loop-progress-preserved-in-Continue-1
unfolding obey
loop-progress-preserved-in-Continue-1 c =
    let l = c.loop-progress in
    let o = rw c.in_ok-obey_size-in-Size.was at c.obey_size.ensures in
    let q = reader_of Going l.progress in
    let r = reader_of Going c.obey_size.new.self in (
      small c.args.tape.now q r c.loop-progress-test.true c.decode.ensures.0 c.in-Size.is o l.invariant.0,
      (on c.args.tape.now q r c.loop-progress-test.true c.decode.ensures.0 c.in-Size.is o refl).1 ∙ l.invariant.1,
    )

pub returns-in_err-obey_size-in-Size : goal.returns-in_err-obey_size-in-Size
unfolding obey
returns-in_err-obey_size-in-Size c =
    let l = c.loop-progress in
    let o = rw c.in_err-obey_size-in-Size.was at c.obey_size.ensures in
    let e : c.from_residual.result ≡ Err c.in_err-obey_size-in-Size.field-0.0 = search rules in
    e ∙ ap told_of (left c.args.tape.now (reader_of Going l.progress) _ c.loop-progress-test.true c.decode.ensures.0 c.in-Size.is o refl l.invariant.1)

pub loop-progress-smaller : goal.loop-progress-smaller
unfolding obey
loop-progress-smaller c =
    let l = c.loop-progress.progress in
    let o = rw c.in_ok-obey_entry-in-Give.was at c.obey_entry.ensures in
    let m = on c.args.tape.now (reader_of Going l) (reader_of Going c.obey_entry.new.self) c.loop-progress-test.true c.decode.ensures.0 c.in-Give.is o refl in
    omega (arith, m.0)

pub loop-progress-preserved : goal.loop-progress-preserved
unfolding obey
loop-progress-preserved c =
    let l = c.loop-progress in
    let o = rw c.in_ok-obey_entry-in-Give.was at c.obey_entry.ensures in
    let q = reader_of Going l.progress in
    let r = reader_of Going c.obey_entry.new.self in (
      small c.args.tape.now q r c.loop-progress-test.true c.decode.ensures.0 c.in-Give.is o l.invariant.0,
      (on c.args.tape.now q r c.loop-progress-test.true c.decode.ensures.0 c.in-Give.is o refl).1 ∙ l.invariant.1,
    )

pub returns-in_err-obey_entry-in-Give : goal.returns-in_err-obey_entry-in-Give
unfolding obey
returns-in_err-obey_entry-in-Give c =
    let l = c.loop-progress in
    let o = rw c.in_err-obey_entry-in-Give.was at c.obey_entry.ensures in
    let e : c.from_residual-in_err-obey_entry-in-Give.result ≡ Err c.in_err-obey_entry-in-Give.field-0.0 = search rules in
    e ∙ ap told_of (left c.args.tape.now (reader_of Going l.progress) _ c.loop-progress-test.true c.decode.ensures.0 c.in-Give.is o refl l.invariant.1)

pub returns-in_err-check_end-in-End : goal.returns-in_err-check_end-in-End
unfolding obey
returns-in_err-check_end-in-End c =
    let l = c.loop-progress in
    let o = rw c.in_err-check_end-in-End.was at c.check_end.ensures in
    let e : c.from_residual-in_err-check_end-in-End.result ≡ Err c.in_err-check_end-in-End.field-0.0 = search rules in
    e ∙ ap told_of (left c.args.tape.now (reader_of Going l.progress) _ c.loop-progress-test.true c.decode.ensures.0 c.in-End.is o refl l.invariant.1)

pub returns-in-End : goal.returns-in-End
unfolding obey
returns-in-End c =
    let l = c.loop-progress in
    let o = rw c.in_ok-check_end-in-End.was at c.check_end.ensures in
    ap told_of (left c.args.tape.now (reader_of Going l.progress) _ c.loop-progress-test.true c.decode.ensures.0 c.in-End.is o refl l.invariant.1)

pub returns : goal.returns
unfolding read_from
returns c =
    let none : length c.args.tape.now - c.loop-progress.progress.at ≡ 0 = omega arith in
    ap told_of (rw none at c.loop-progress.invariant.1)
