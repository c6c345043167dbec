use mathlib.Core.Path.{sym, ◌∙◌}
use Rattle.primal.proofs.TermTables.{placed-input, placed_no_input, placed-state, placed_no_state}
use Rattle.primal.proofs.terms.placed_term.Goals as goal

pub returns-then-c-t : goal.returns-then-c-t
returns-then-c-t c = c.column_term.ensures ∙ sym (placed-input _ _ _ c.if-c-lt4.true c.if-c-t.true)

pub returns-then-c-lt4 : goal.returns-then-c-lt4
returns-then-c-lt4 c = c.blank.ensures ∙ sym (placed_no_input _ _ _ c.if-c-lt4.true c.if-c-t.false)

pub returns-then-c-t-2 : goal.returns-then-c-t-2
returns-then-c-t-2 c = c.column_term-then-c-t-2.ensures ∙ sym (placed-state _ _ _ c.if-c-lt4.false c.if-c-t-2.true)

pub returns : goal.returns
returns c = c.blank-2.ensures ∙ sym (placed_no_state _ _ _ c.if-c-lt4.false c.if-c-t-2.false)
