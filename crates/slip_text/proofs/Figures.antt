-- Slips of document 01's tapes and of some answers: one table of what the definitions give and what is printed, and one fact over it.
use Prim.Native.Nat.{ℕ}
use Prim.Native.String.{String}
use mathlib.Core.Path.{◌≡◌, refl, ap}
use mathlib.Core.List.{List, [], ◌∷◌, ◌++◌, map}
use lib.IntN.{pos, negsuc}
use lib.ListN.{take}
use Rattle.std.specs.Prelude.{Err}
use Rattle.integer.specs.Limited.{limited}
use Rattle.integer.specs.Operand.{unsigned, signed}
use Rattle.integer.specs.Quotient.{◌÷◌, quotient_up}
use Rattle.integer.specs.Sum.{sum}
use Rattle.integer.specs.Tests.{outside, any}
use Rattle.commands.specs.Format.{pair_command, size_command, drift_command, column_command, start_command, rounds_command, decoded, wrong_size, beyond, wrong_column, wrong}
use Rattle.commands.specs.Required.{among, curved, on_curve, required}
use Rattle.tape.specs.declared.refusal.Refusal.TheVariants.{Length}
use Rattle.tape.specs.Tape.{step_reference}
use Rattle.tape.specs.Reading.{obey_size, obey_entry, absent, lacks_weight, obey_end, obey, next, read_from, reading}
use Rattle.problem.specs.Model.{state_at, model_sum, rounded, residual}
use Rattle.problem.specs.Cost.{total, cost, plan_cost}
use Rattle.problem.specs.Dual.{input_slope, adjoint, carried, state_slope, unweighted, conjugate, tilt, piece, pieces, constant, sizes, floor, larger, most, ceiling}
use Rattle.problem.proofs.Figures.{bytes, wide, narrow, ample}
use Rattle.steps.specs.Steps.{ahead, minimiser, model_states, dropped, verdict, ascended}
use Rattle.ascent.specs.Correction.{correction}
use Rattle.primal.specs.Lent.{listed, joined}
use Rattle.rounds.specs.Running.{rounds}
use Rattle.solver.specs.declared.Duties.{Duties}
use Rattle.solver.specs.Solving.{duty, solving_on, solving}
use Rattle.ranges.specs.declared.Ranges.{Ranges}
use Rattle.ranges.specs.declared.range.Range.{Range}
use Rattle.ranges.specs.Ranges.{duty_range}
use Rattle.ranges.proofs.Figures.{range_F}
use Rattle.solution.specs.Solution.{solution_of}
use Rattle.slip_text.specs.Decimal.{text, digits}
use Rattle.slip_text.specs.Slip.{proved_lines, slip, tape_slip}

abbrev F : List ℕ
F = bytes wide ample

abbrev four : Duties
four = record { u0 = negsuc 19999; u1 = pos 0; u2 = pos 10; u3 = negsuc 8 }

abbrev apart : Ranges
apart = record {
  u0 = record { low = negsuc 19999; high = pos 20000 };
  u1 = record { low = pos 0; high = pos 0 };
  u2 = record { low = pos 9; high = pos 11 };
  u3 = record { low = negsuc 9; high = negsuc 8 };
}

abbrev table : List (List ℕ × String)
table =
    -- F without its command 50; with bytes after FF; the empty tape
    (tape_slip (take 36 F ++ 0xFF ∷ []), "refused 7 at 36\n") ∷ (tape_slip (F ++ 0xFF ∷ []), "refused 8 at 46\n") ∷ (tape_slip [], "refused 1 at 0\n")
    -- M8, M9
    ∷ (tape_slip (bytes wide (0x30 ∷ 0x75 ∷ 0x00 ∷ 0x00 ∷ [])), "open\nrounds 5\n") ∷ (tape_slip (bytes narrow ample), "impossible\nrounds 2\n")
    -- duties below 0; a gap below 0
    ∷ (proved_lines 10000 (pos 0) four apart 4, "proved\nrounds 10000\ngap 0\nfirst -20000 0 10 -9\nrange -20000 20000\nrange 0 0\nrange 9 11\nrange -10 -9\n")
    ∷ (proved_lines 1 (negsuc 0) four apart 1, "proved\nrounds 1\ngap -1\nfirst -20000\nrange -20000 20000\n")
    -- m beyond 1 to 4
    ∷ (proved_lines 1 (pos 9) four apart 0, "proved\nrounds 1\ngap 9\nfirst\n")
    ∷ (proved_lines 1 (pos 9) four apart 5, "proved\nrounds 1\ngap 9\nfirst -20000 0 10 -9\nrange -20000 20000\nrange 0 0\nrange 9 11\nrange -10 -9\n")
    ∷ (slip (Err Length) (solution_of F).tape [], "refused 9\n")
    ∷ []

pub figures : map (λ f. f.0) table ≡ map (λ f. text f.1) table
unfolding solution_of unsigned signed ◌÷◌ quotient_up sum pair_command size_command drift_command column_command start_command rounds_command decoded wrong_size beyond outside wrong_column wrong among curved on_curve required obey_size obey_entry absent lacks_weight obey_end obey next read_from reading step_reference state_at model_sum rounded residual total cost plan_cost input_slope adjoint carried state_slope unweighted conjugate tilt piece pieces constant sizes floor larger most ceiling limited listed joined ahead minimiser model_states dropped verdict ascended correction rounds solving_on solving duty any digits
figures = refl

-- F's range, whose root is not counted up to
with_range : Range → List ℕ
with_range range =
    let none : Range = record { low = pos 0; high = pos 0 } in
    proved_lines 2 (pos 32768) (record { u0 = pos 4; u1 = pos 0; u2 = pos 0; u3 = pos 0 }) (record { u0 = range; u1 = none; u2 = none; u3 = none }) 1

pub slip_F : tape_slip F ≡ text "proved\nrounds 2\ngap 32768\nfirst 4\nrange 1 7\n"
unfolding solution_of unsigned signed ◌÷◌ quotient_up sum pair_command size_command drift_command column_command start_command rounds_command decoded wrong_size beyond outside wrong_column wrong among curved on_curve required obey_size obey_entry absent lacks_weight obey_end obey next read_from reading step_reference state_at model_sum rounded residual total cost plan_cost input_slope adjoint carried state_slope unweighted conjugate tilt piece pieces constant sizes floor larger most ceiling limited listed joined ahead minimiser model_states dropped verdict ascended correction rounds solving_on solving duty any digits duty_range with_range
slip_F = ap with_range range_F
