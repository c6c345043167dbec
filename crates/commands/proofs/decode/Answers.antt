use borrow.Author.Tests.{ne_eqb}
use Rattle.commands.specs.declared.Entry.TheVariants.{State, Input, Reference}
use Rattle.commands.specs.Format.{decoded}
use Rattle.commands.proofs.Tests.{with_room}
use Rattle.commands.proofs.decode.Goals as goal

pub returns-in-16 : goal.returns-in-16
unfolding decoded
returns-in-16 c = with_room _ _ c.requires (rw c.in-16.is c.size.ensures)

pub returns-in-32 : goal.returns-in-32
unfolding decoded
returns-in-32 c = with_room _ _ c.requires (rw c.in-32.is (c.pair.ensures State (λ x made. made)))

pub returns-in-33 : goal.returns-in-33
unfolding decoded
returns-in-33 c = with_room _ _ c.requires (rw c.in-33.is (c.pair-in-33.ensures Input (λ x made. made)))

pub returns-in-34 : goal.returns-in-34
unfolding decoded
returns-in-34 c = with_room _ _ c.requires (rw c.in-34.is c.drift.ensures)

pub returns-in-48 : goal.returns-in-48
unfolding decoded
returns-in-48 c = with_room _ _ c.requires (rw c.in-48.is c.column.ensures)

pub returns-in-49 : goal.returns-in-49
unfolding decoded
returns-in-49 c = with_room _ _ c.requires (rw c.in-49.is (c.pair-in-49.ensures Reference (λ x made. made)))

pub returns-in-64 : goal.returns-in-64
unfolding decoded
returns-in-64 c = with_room _ _ c.requires (rw c.in-64.is c.start.ensures)

pub returns-in-80 : goal.returns-in-80
unfolding decoded
returns-in-80 c = with_room _ _ c.requires (rw c.in-80.is c.rounds.ensures)

pub returns-in-81 : goal.returns-in-81
unfolding decoded
returns-in-81 c = with_room _ _ c.requires (rw c.in-81.is c.rounds-in-81.ensures)

pub returns-in-255 : goal.returns-in-255
unfolding decoded
returns-in-255 c = (rw c.in-255.is, c.requires)

pub returns-in_default : goal.returns-in_default
unfolding decoded
returns-in_default c =
    let r = c.in_default.in_default-own.rest in
    let no_size = ne_eqb _ _ r.0.0.0.0.0.0.0.0.0.1 in
    let no_state_lem = ne_eqb _ _ r.0.0.0.0.0.0.0.0.1 in
    let no_input_lem = ne_eqb _ _ r.0.0.0.0.0.0.0.1 in
    let no-drift = ne_eqb _ _ r.0.0.0.0.0.0.1 in
    let no-column = ne_eqb _ _ r.0.0.0.0.0.1 in
    let no-reference = ne_eqb _ _ r.0.0.0.0.1 in
    let no_start = ne_eqb _ _ r.0.0.0.1 in
    let no-rounds = ne_eqb _ _ r.0.0.1 in
    let no-banded = ne_eqb _ _ r.0.1 in
    let no_end = ne_eqb _ _ r.1 in (
      simp (no_size, no_state_lem, no_input_lem, no-drift, no-column, no-reference, no_start, no-rounds, no-banded, no_end),
      c.requires,
    )
