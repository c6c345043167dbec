use Prim.Native.Nat.{◌+◌}
use mathlib.Core.Path.{sym, ◌∙◌}
use native.Mathlib.Omega.{arith}
use lib.ListN.{length}
use borrow.Author.Tests.{lt-ltb, le-ltb}
use Rattle.tape.specs.Reading.{obey_end}
use Rattle.tape.proofs.reader.Progress.check_end.Goals as goal

pub returns-then-self-lt1 : goal.returns-then-self-lt1
unfolding obey_end
returns-then-self-lt1 c = rw (le-ltb 0 c.args.self.now.tape.n (omega arith))

pub returns-then-is_absent : goal.returns-then-is_absent
unfolding obey_end
returns-then-is_absent c =
    let sized = lt-ltb 0 c.args.self.now.tape.n (omega arith) in
    rw (sized, sym c.is_absent.ensures ∙ c.if-is_absent.true)

pub returns-then-lacks_weight : goal.returns-then-lacks_weight
unfolding obey_end
returns-then-lacks_weight c =
    let sized = lt-ltb 0 c.args.self.now.tape.n (omega arith) in
    let complete = sym c.is_absent.ensures ∙ c.if-is_absent.false in
    rw (sized, complete, sym c.lacks_weight.ensures ∙ c.if-lacks_weight.true)

pub returns-then-self-s : goal.returns-then-self-s
unfolding obey_end
returns-then-self-s c =
    let a = c.args in
    let sized = lt-ltb 0 a.self.now.tape.n (omega arith) in
    let complete = sym c.is_absent.ensures ∙ c.if-is_absent.false in
    rw (sized, complete, sym c.lacks_weight.ensures ∙ c.if-lacks_weight.false, lt-ltb (a.self.now.at + 1) (length a.s.now) (omega arith))

pub returns : goal.returns
unfolding obey_end
returns c =
    let a = c.args in
    let sized = lt-ltb 0 a.self.now.tape.n (omega arith) in
    let complete = sym c.is_absent.ensures ∙ c.if-is_absent.false in
    rw (sized, complete, sym c.lacks_weight.ensures ∙ c.if-lacks_weight.false, le-ltb (a.self.now.at + 1) (length a.s.now) (omega arith))
