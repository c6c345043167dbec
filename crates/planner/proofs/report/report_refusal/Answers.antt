use mathlib.Core.Path.{refl}
use native.Mathlib.Omega.{arith}
use Rattle.tape.specs.Refusals.{row}
use Rattle.numbers.proofs.Codes.{number-range}
use Rattle.planner.proofs.Reported.{carried-figure}
use Rattle.planner.proofs.report.report_refusal.Goals as goal

pub fault_numbers-requires : goal.fault_numbers-requires
fault_numbers-requires c =
    let small = rw (rw c.carries-carried.ensures at c.in-Fault.is) at c.requires in
    (omega (arith, c.number.ensures, number-range c.args.why), small.0, small.1)

pub span_numbers-requires : goal.span_numbers-requires
span_numbers-requires c = omega (arith, c.number-in-Span.ensures, number-range c.args.why)

pub code-requires : goal.code-requires
code-requires c = carried-figure (row c.args.why).carries c.requires

pub code-requires-in-Nothing : goal.code-requires-in-Nothing
code-requires-in-Nothing c = carried-figure (row c.args.why).carries c.requires

pub code-requires-in-Rounds : goal.code-requires-in-Rounds
code-requires-in-Rounds c = carried-figure (row c.args.why).carries c.requires

pub returns-in-Fault : goal.returns-in-Fault
returns-in-Fault c =
    rw (rw c.carries-carried.ensures at c.in-Fault.is) (record { value = refl; out_after = rw c.number.ensures at c.fault_numbers.ensures })

pub returns-in-Span : goal.returns-in-Span
returns-in-Span c =
    rw (rw c.carries-carried.ensures at c.in-Span.is) (record { value = refl; out_after = rw c.number-in-Span.ensures at c.span_numbers.ensures })

pub returns-in-Place : goal.returns-in-Place
returns-in-Place c = rw (rw c.carries-carried.ensures at c.in-Place.is) (record { value = c.code.ensures; out_after = refl })

pub returns-in-Nothing : goal.returns-in-Nothing
returns-in-Nothing c = rw (rw c.carries-carried.ensures at c.in-Nothing.is) (record { value = c.code-in-Nothing.ensures; out_after = refl })

pub returns-in-Rounds : goal.returns-in-Rounds
returns-in-Rounds c = rw (rw c.carries-carried.ensures at c.in-Rounds.is) (record { value = c.code-in-Rounds.ensures; out_after = refl })
