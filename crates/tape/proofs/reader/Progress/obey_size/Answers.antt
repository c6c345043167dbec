use mathlib.Core.Path.{sym, ◌∙◌}
use native.Mathlib.Omega.{arith}
use borrow.Author.Tests.{lt-ltb, le-ltb}
use Rattle.tape.specs.Reading.{obey_size}
use Rattle.tape.proofs.reader.Progress.obey_size.Goals as goal

pub returns-then-self-gt0 : goal.returns-then-self-gt0
unfolding obey_size
returns-then-self-gt0 c = rw (lt-ltb 0 c.args.self.now.tape.n (omega arith))

pub returns-then-is_wrong_size : goal.returns-then-is_wrong_size
unfolding obey_size
returns-then-is_wrong_size c =
    rw (le-ltb 0 c.args.self.now.tape.n (omega arith), sym c.is_wrong_size.ensures ∙ c.if-is_wrong_size.true)

pub returns : goal.returns
unfolding obey_size
returns c =
    rw (le-ltb 0 c.args.self.now.tape.n (omega arith), sym c.is_wrong_size.ensures ∙ c.if-is_wrong_size.false)
