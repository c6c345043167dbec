use mathlib.Core.Path.{sym}
use Rattle.slip_text.proofs.lines.refused.Goals as goal

pub returns-in-Place : goal.returns-in-Place
returns-in-Place c =
    rw (sym c.number-n.ensures, rw c.carries-carried.ensures at c.in-Place.is) c.refused_at.ensures

pub returns-in-Nothing : goal.returns-in-Nothing
returns-in-Nothing c =
    rw (sym c.number-n.ensures, rw c.carries-carried.ensures at c.in-Nothing.is) c.refused_alone.ensures

pub returns-in-Fault : goal.returns-in-Fault
returns-in-Fault c =
    rw (sym c.number-n.ensures, rw c.carries-carried.ensures at c.in-Fault.is) c.refused_alone-in-Fault.ensures

pub returns-in-Span : goal.returns-in-Span
returns-in-Span c =
    rw (sym c.number-n.ensures, rw c.carries-carried.ensures at c.in-Span.is) c.refused_alone-in-Span.ensures

pub returns-in-Rounds : goal.returns-in-Rounds
returns-in-Rounds c =
    rw (rw c.carries-carried.ensures at c.in-Rounds.is) c.kind_and_rounds.ensures.holds
