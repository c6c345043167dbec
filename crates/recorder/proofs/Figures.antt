-- The records of document 01's tape F, of M9's tape and of M8's, worked out by hand.
use Prim.Native.Nat.{ℕ}
use mathlib.Core.Path.{◌≡◌, refl}
use mathlib.Core.List.{List, [], ◌∷◌, ◌++◌, map}
use Rattle.integer.specs.Limited.{limited}
use Rattle.integer.specs.Operand.{unsigned, signed}
use Rattle.integer.specs.Quotient.{◌÷◌, quotient_up}
use Rattle.integer.specs.Sum.{sum}
use Rattle.integer.specs.Tests.{outside, any}
use Rattle.commands.specs.Format.{pair_command, size_command, drift_command, column_command, start_command, rounds_command, decoded, wrong_size, beyond, wrong_column, wrong}
use Rattle.commands.specs.Required.{among, curved, on_curve, required}
use Rattle.tape.specs.Tape.{step_reference}
use Rattle.tape.specs.Reading.{obey_size, obey_entry, absent, lacks_weight, obey_end, obey, next, read_from, reading}
use Rattle.problem.specs.Model.{state_at, model_sum, rounded, residual}
use Rattle.problem.specs.Cost.{total, cost, plan_cost}
use Rattle.problem.specs.Dual.{input_slope, adjoint, carried, state_slope, unweighted, conjugate, tilt, piece, pieces, constant, sizes, floor, larger, most, ceiling}
use Rattle.problem.proofs.Figures.{bytes, wide, narrow, ample, rows}
use Rattle.steps.specs.Steps.{ahead, minimiser, model_states, dropped, verdict, ascended}
use Rattle.ascent.specs.Correction.{correction}
use Rattle.primal.specs.Lent.{listed, joined}
use Rattle.rounds.specs.Running.{rounds}
use Rattle.solver.specs.Solving.{solving_on, solving}
use Rattle.integer.specs.Encoding.{unsigned_bytes, complement}
use Rattle.records.specs.Readers.{number_bytes}
use Rattle.recorder.specs.Recording.{recording}
use Rattle.recorder.specs.Calls.{recorded_at, laboratory_left, service_left}

-- what a call leaves in slices of the right lengths, both forms one after the other
abbrev written : List ℕ → List ℕ
written s = laboratory_left (recorded_at s 16 31) [] ++ service_left (recorded_at s 16 31) []

-- for n = m = N = 1: the laboratory's 16 bytes; the same, then n, m and N, a plan of two numbers and one multiplier
abbrev table : List (List ℕ × List ℕ)
table =
    -- tape F: 2 rounds, gap 32,768, plan 4 and 102, multiplier −16
    (
      written (bytes wide ample),
      (0x01 ∷ 0x01 ∷ 0x02 ∷ 0x00 ∷ 0x00 ∷ 0x80 ∷ 0x00 ∷ 0x00 ∷ 0x04 ∷ 0x00 ∷ 0xFF ∷ 0xFF ∷ 0xFF ∷ 0xFF ∷ 0xFF ∷ 0xFF ∷ [])
          ++ (0x01 ∷ 0x01 ∷ 0x02 ∷ 0x00 ∷ 0x00 ∷ 0x80 ∷ 0x00 ∷ 0x00 ∷ 0x04 ∷ 0x00 ∷ 0xFF ∷ 0xFF ∷ 0xFF ∷ 0xFF ∷ 0xFF ∷ 0xFF ∷ 0x01 ∷ 0x01 ∷ 0x01 ∷ 0x04 ∷ 0x00 ∷ 0x00 ∷ 0x00 ∷ 0x66 ∷ 0x00 ∷ 0x00 ∷ 0x00 ∷ 0xF0 ∷ 0xFF ∷ 0xFF ∷ 0xFF ∷ []),
    )
    -- M9's tape, impossible after 2 rounds: no gap, duty and plan; multiplier −234
    ∷ (
      written (bytes narrow ample),
      (0x02 ∷ 0x00 ∷ 0x02 ∷ 0x00 ∷ 0xFF ∷ 0xFF ∷ 0xFF ∷ 0xFF ∷ 0xFF ∷ 0xFF ∷ 0xFF ∷ 0xFF ∷ 0xFF ∷ 0xFF ∷ 0xFF ∷ 0xFF ∷ [])
          ++ (0x02 ∷ 0x00 ∷ 0x02 ∷ 0x00 ∷ 0xFF ∷ 0xFF ∷ 0xFF ∷ 0xFF ∷ 0xFF ∷ 0xFF ∷ 0xFF ∷ 0xFF ∷ 0xFF ∷ 0xFF ∷ 0xFF ∷ 0xFF ∷ 0x01 ∷ 0x01 ∷ 0x01 ∷ 0xFF ∷ 0xFF ∷ 0xFF ∷ 0xFF ∷ 0xFF ∷ 0xFF ∷ 0xFF ∷ 0xFF ∷ 0x16 ∷ 0xFF ∷ 0xFF ∷ 0xFF ∷ []),
    )
    -- M8, open after its 5 rounds: no multiplier either
    ∷ (
      written (bytes wide (0x30 ∷ 0x75 ∷ 0x00 ∷ 0x00 ∷ [])),
      (0x03 ∷ 0x00 ∷ 0x05 ∷ 0x00 ∷ 0xFF ∷ 0xFF ∷ 0xFF ∷ 0xFF ∷ 0xFF ∷ 0xFF ∷ 0xFF ∷ 0xFF ∷ 0xFF ∷ 0xFF ∷ 0xFF ∷ 0xFF ∷ [])
          ++ (0x03 ∷ 0x00 ∷ 0x05 ∷ 0x00 ∷ 0xFF ∷ 0xFF ∷ 0xFF ∷ 0xFF ∷ 0xFF ∷ 0xFF ∷ 0xFF ∷ 0xFF ∷ 0xFF ∷ 0xFF ∷ 0xFF ∷ 0xFF ∷ 0x01 ∷ 0x01 ∷ 0x01 ∷ 0xFF ∷ 0xFF ∷ 0xFF ∷ 0xFF ∷ 0xFF ∷ 0xFF ∷ 0xFF ∷ 0xFF ∷ 0xFF ∷ 0xFF ∷ 0xFF ∷ 0xFF ∷ []),
    )
    ∷ []

pub figures : map (λ f. f.0) table ≡ map (λ f. f.1) table
unfolding rows unsigned signed ◌÷◌ quotient_up sum pair_command size_command drift_command column_command start_command rounds_command decoded wrong_size beyond outside wrong_column wrong among curved on_curve required obey_size obey_entry absent lacks_weight obey_end obey next read_from reading step_reference state_at model_sum rounded residual total cost plan_cost input_slope adjoint carried state_slope unweighted conjugate tilt piece pieces constant sizes floor larger most ceiling limited any listed joined ahead minimiser model_states dropped verdict ascended correction rounds solving_on solving unsigned_bytes complement number_bytes recording recorded_at
figures = refl
