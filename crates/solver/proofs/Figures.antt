-- The figures of document 01, M1 to M10, and solves of tapes with weight 0: one table of what the definitions give and what the
-- document says or a hand works out, and one fact over it.
use Prim.Native.Nat.{ℕ}
use mathlib.Core.Path.{◌≡◌, refl}
use mathlib.Core.List.{List, [], ◌∷◌, ◌++◌, map}
use lib.IntN.{ℤ, pos, negsuc}
use Rattle.std.specs.Prelude.{Result, Ok, Err}
use Rattle.integer.specs.Limited.{limited}
use Rattle.integer.specs.Operand.{unsigned, signed}
use Rattle.integer.specs.Quotient.{◌÷◌, quotient_up}
use Rattle.integer.specs.Sum.{sum}
use Rattle.integer.specs.Tests.{outside, any}
use Rattle.commands.specs.Format.{pair_command, size_command, drift_command, column_command, start_command, rounds_command, decoded, wrong_size, beyond, wrong_column, wrong}
use Rattle.commands.specs.Required.{among, curved, on_curve, required}
use Rattle.tape.specs.declared.refusal.Carried.{Carried}
use Rattle.tape.specs.declared.refusal.Carried.TheVariants as carries
use Rattle.tape.specs.declared.refusal.Refusal.{Refusal}
use Rattle.tape.specs.Tape.{step_reference}
use Rattle.tape.specs.Reading.{obey_size, obey_entry, absent, lacks_weight, obey_end, obey, next, read_from, reading}
use Rattle.tape.specs.Refusals.{row}
use Rattle.problem.specs.Model.{state_at, model_sum, rounded, residual}
use Rattle.problem.specs.Cost.{total, cost, plan_cost}
use Rattle.problem.specs.Dual.{input_slope, adjoint, carried, state_slope, unweighted, conjugate, tilt, piece, pieces, constant, sizes, floor, larger, most, ceiling}
use Rattle.problem.proofs.Figures.{bytes, with_weights, wide, narrow, ample, ramp, rows, table}
use Rattle.lent.specs.Checks.{first, tested, state_check, step_check, plan_check}
use Rattle.judge.specs.Judging.{gap_within, judged_on, judged, shown_on, shown}
use Rattle.steps.specs.Steps.{ahead, minimiser, model_states, dropped, verdict, ascended}
use Rattle.ascent.specs.Correction.{correction}
use Rattle.primal.specs.Lent.{listed, joined}
use Rattle.rounds.specs.Running.{Ending, proved, impossible, refused, rounds}
use Rattle.solver.specs.Solving.{solving_on, solving}

-- an answer as one row of numbers: 0 and the result, or a refusal's number and what it carries
abbrev carried_row : Carried → List ℤ
carried_row (carries.Place at) = pos at ∷ []
carried_row carries.Nothing = []
carried_row (carries.Fault fault) = pos fault.step ∷ pos fault.column ∷ fault.found ∷ fault.due ∷ []
carried_row (carries.Span span) = span.cost ∷ span.floor ∷ []
carried_row (carries.Rounds R) = pos R ∷ []

abbrev refusal : Refusal → List ℤ
refusal why = pos (row why).number ∷ carried_row (row why).carries

abbrev judgement_row : Result ℤ Refusal → List ℤ
judgement_row (Ok gap) = pos 0 ∷ gap ∷ []
judgement_row (Err why) = refusal why

abbrev shown-row : Result (Unit {0}) Refusal → List ℤ
shown-row (Ok tt) = pos 0 ∷ []
shown-row (Err why) = refusal why

-- of a solve: 0, the rounds, the gap, the plan and the multipliers
abbrev ending_row : Ending → List ℤ
ending_row (proved rounds gap plan y) = pos 0 ∷ pos rounds ∷ gap ∷ plan ++ y
ending_row (impossible rounds y) = pos 0 ∷ pos rounds ∷ y
ending_row (refused why) = refusal why

-- tape F with T = 30,000, 32,767 and 32,768
abbrev wanting : List ℕ → List ℕ
wanting = bytes wide

-- a plan with M4's multipliers, judged; and a solve of a tape
abbrev judge : List ℕ → List ℤ → List ℤ
judge s plan = judgement_row (judged s plan (negsuc 15 ∷ []))

abbrev solve : List ℕ → List ℤ
solve s = ending_row (solving s (pos 0 ∷ pos 0 ∷ []) (pos 0 ∷ []))

abbrev whole : List (List ℤ × List ℤ)
whole =
    -- M1 to M6, M9, M10
    map (λ f. (f.0 ∷ [], f.1 ∷ [])) table
    ++
    -- M7
    (judge (wanting (0x00 ∷ 0x80 ∷ 0x00 ∷ 0x00 ∷ [])) (pos 4 ∷ pos 102 ∷ []), pos 0 ∷ pos 32768 ∷ [])
    ∷ (judge (wanting (0xFF ∷ 0x7F ∷ 0x00 ∷ 0x00 ∷ [])) (pos 4 ∷ pos 102 ∷ []), pos 13 ∷ pos 327680 ∷ pos 294912 ∷ [])
    -- M8
    ∷ (solve (wanting (0x30 ∷ 0x75 ∷ 0x00 ∷ 0x00 ∷ [])), pos 15 ∷ pos 5 ∷ [])
    -- M9: y = −100 is judged, and shows impossibility
    ∷ (shown-row (shown (bytes narrow ample) (negsuc 99 ∷ [])), pos 0 ∷ [])
    -- tape F's own slip, and M9's tape solved
    ∷ (solve (wanting ample), pos 0 ∷ pos 2 ∷ pos 32768 ∷ pos 4 ∷ pos 102 ∷ negsuc 15 ∷ [])
    ∷ (solve (bytes narrow ample), pos 0 ∷ pos 2 ∷ negsuc 233 ∷ [])
    ∷ []

-- tapes with weight 0, worked out by hand
abbrev weightless_solves : List (List ℤ × List ℤ)
weightless_solves =
    -- tape F with weight 0 for both columns: every slope of round 0 is 0, and so the input is at its lower limit
    (solve (with_weights wide 0x00 0x00), pos 0 ∷ pos 1 ∷ pos 0 ∷ pos 0 ∷ pos 100 ∷ pos 0 ∷ [])
    -- the state from 102 on without a target: y~ is 0, −3, −6 and −10, and the fourth candidate is the first that reaches 102
    ∷ (solve (with_weights (0x66 ∷ 0x00 ∷ 0x2C ∷ 0x01 ∷ 0x00 ∷ 0x00 ∷ []) 0x00 0x01), pos 0 ∷ pos 4 ∷ pos 1024 ∷ pos 3 ∷ pos 102 ∷ negsuc 9 ∷ [])
    -- M9's tape with weight 0 for the state: in round 1 the floor is 57,348,096 and the ceiling 6,553,600
    ∷ (solve (with_weights narrow 0x00 0x01), pos 0 ∷ pos 2 ∷ negsuc 155 ∷ [])
    ∷ []

-- where plans of tape F fail, worked out by hand: the model gives 102 for the input 4 and 120 for 40
abbrev reports : List (List ℤ × List ℤ)
reports =
    (judge (wanting ample) (pos 4 ∷ pos 103 ∷ []), pos 10 ∷ pos 0 ∷ pos 0 ∷ pos 103 ∷ pos 102 ∷ [])
    -- the model before the limit
    ∷ (judge (wanting ample) (pos 4 ∷ pos 1001 ∷ []), pos 10 ∷ pos 0 ∷ pos 0 ∷ pos 1001 ∷ pos 102 ∷ [])
    -- an input above and below its limits, whatever the state
    ∷ (judge (wanting ample) (pos 41 ∷ pos 1001 ∷ []), pos 11 ∷ pos 0 ∷ pos 1 ∷ pos 41 ∷ pos 40 ∷ [])
    ∷ (judge (wanting ample) (negsuc 0 ∷ pos 100 ∷ []), pos 11 ∷ pos 0 ∷ pos 1 ∷ negsuc 0 ∷ pos 0 ∷ [])
    -- M9's tape: a state below its limits
    ∷ (judge (bytes narrow ample) (pos 40 ∷ pos 120 ∷ []), pos 11 ∷ pos 0 ∷ pos 0 ∷ pos 120 ∷ pos 200 ∷ [])
    -- two steps: the model goes on from the state before, 100 + 1, and the input 2
    ∷ (judgement_row (judged ramp (pos 2 ∷ pos 101 ∷ pos 2 ∷ pos 104 ∷ []) (pos 0 ∷ pos 0 ∷ [])), pos 10 ∷ pos 1 ∷ pos 0 ∷ pos 104 ∷ pos 102 ∷ [])
    ∷ []

abbrev all : List (List ℤ × List ℤ)
all = whole ++ weightless_solves ++ reports

pub figures : map (λ f. f.0) all ≡ map (λ f. f.1) all
unfolding rows unsigned signed ◌÷◌ quotient_up sum pair_command size_command drift_command column_command start_command rounds_command decoded wrong_size beyond outside wrong_column wrong among curved on_curve required obey_size obey_entry absent lacks_weight obey_end obey next read_from reading step_reference state_at model_sum rounded residual total cost plan_cost input_slope adjoint carried state_slope unweighted conjugate tilt piece pieces constant sizes floor larger most ceiling limited any first tested state_check step_check plan_check gap_within judged_on judged shown_on shown listed joined ahead minimiser model_states dropped verdict ascended correction rounds solving_on solving
figures = refl
