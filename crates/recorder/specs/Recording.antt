-- Document 02, request 5: the record of a tape's solve.
use Rattle.std.specs.Prelude.{ℕ, List, ℤ, Result, Ok, Err}
use Rattle.tape.specs.declared.Tape.{Tape}
use Rattle.tape.specs.declared.refusal.Carried.{Carried}
use Rattle.tape.specs.declared.refusal.Carried.TheVariants.{Place, Nothing, Fault, Span, Rounds}
use Rattle.tape.specs.declared.refusal.Refusal.{Refusal}
use Rattle.tape.specs.Reading.{reading}
use Rattle.tape.specs.Refusals.{row}
use Rattle.tape.specs.Tape.{zeros}
use Rattle.solver.specs.declared.Solved.{Solved}
use Rattle.solver.specs.declared.Solved.TheVariants as solved
use Rattle.solver.specs.Solving.{solving, answer_of, plan_left, multipliers_left}
use Rattle.solution.specs.Solution.{plan_numbers, multiplier_numbers}
use Rattle.records.specs.declared.Sizes.{Sizes}
use Rattle.records.specs.Records.{Proved, Impossible, Open, Record, record_with}

abbrev pub sizes_of : Tape → Sizes
sizes_of t = record { n = t.n; m = t.m; horizon = t.horizon }

-- A solve leaves a record, or a refusal.
pub data Recording : Type 0 where
  Kept : Record → Recording
  Refused : Refusal → Recording

-- 'Open', which carries the rounds, leaves a record; any other refusal leaves none.
abbrev pub unanswered : Sizes → Refusal → Carried → Recording
unanswered z why (Rounds R) = Kept (record_with z R Open)
unanswered z why (Place at) = Refused why
unanswered z why Nothing = Refused why
unanswered z why (Fault fault) = Refused why
unanswered z why (Span span) = Refused why

-- From what a solve answers, and the plan and the multipliers that it leaves.
abbrev pub record_of : Sizes → Result Solved Refusal → List ℤ → List ℤ → Recording
record_of z (Ok (solved.Proved rounds gap first)) plan y = Kept (record_with z rounds (Proved gap plan y))
record_of z (Ok (solved.Impossible rounds)) plan y = Kept (record_with z rounds (Impossible y))
record_of z (Err why) plan y = unanswered z why (row why).carries

-- The record of the solve of a tape, in slices of the right lengths.
unfoldable pub recording : List ℕ → Recording
recording s =
    let t = (reading s).tape in
    let plan = zeros (plan_numbers t) in
    let y = zeros (multiplier_numbers t) in
    record_of (sizes_of t) (answer_of t (solving s plan y)) (plan_left (solving s plan y) plan) (multipliers_left (solving s plan y) y)
