use mathlib.Core.Path.{sym, ◌∙◌}
use native.Mathlib.Omega.{arith}
use borrow.Author.Tests.{lt-ltb, le-ltb}
use Rattle.commands.proofs.Tests.{inside}
use Rattle.tape.specs.Reading.{obey_entry}
use Rattle.tape.proofs.reader.Progress.obey_entry.Goals as goal

pub returns-then-self-lt1 : goal.returns-then-self-lt1
unfolding obey_entry
returns-then-self-lt1 c = rw (le-ltb 0 c.args.self.now.tape.n (omega arith))

pub returns-then-is_beyond : goal.returns-then-is_beyond
unfolding obey_entry
returns-then-is_beyond c =
    let sized = lt-ltb 0 c.args.self.now.tape.n (omega arith) in
    rw (sized, sym c.is_beyond.ensures ∙ c.if-is_beyond.true)

pub returns-then-is_wrong : goal.returns-then-is_wrong
unfolding obey_entry
returns-then-is_wrong c =
    let sized = lt-ltb 0 c.args.self.now.tape.n (omega arith) in
    let within = sym c.is_beyond.ensures ∙ c.if-is_beyond.false in
    rw (sized, within, sym c.is_wrong.ensures ∙ c.if-is_wrong.true)

pub place_of-place-requires : goal.place_of-place-requires
place_of-place-requires c =
    inside _ _ _ c.args.entry c.requires.sizes (sym c.is_beyond.ensures ∙ c.if-is_beyond.false)

pub returns-then-self-place : goal.returns-then-self-place
unfolding obey_entry
returns-then-self-place c =
    let sized = lt-ltb 0 c.args.self.now.tape.n (omega arith) in
    let within = sym c.is_beyond.ensures ∙ c.if-is_beyond.false in
    let in_range = sym c.is_wrong.ensures ∙ c.if-is_wrong.false in
    rw (sized, within, in_range, rw c.place_of-place.ensures.0 at c.if-self-place.true)

pub store-requires : goal.store-requires
store-requires c =
    inside _ _ _ c.args.entry c.requires.sizes (sym c.is_beyond.ensures ∙ c.if-is_beyond.false)

pub returns : goal.returns
unfolding obey_entry
returns c =
    let sized = lt-ltb 0 c.args.self.now.tape.n (omega arith) in
    let within = sym c.is_beyond.ensures ∙ c.if-is_beyond.false in
    let in_range = sym c.is_wrong.ensures ∙ c.if-is_wrong.false in
    rw (sized, within, in_range, rw c.place_of-place.ensures.0 at c.if-self-place.false, c.place_of-place.ensures.0, c.bytes_of.ensures.0, c.store.ensures)
