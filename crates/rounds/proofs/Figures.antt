-- Rounds of command 51 that a hand can follow, of tape F and of M9's tape with 51 in the place of 50. W is the one number
-- 2048 × 2048 / 8192 + 4096 × 4096 / 8192 = 2560.
use Prim.Native.Nat.{ℕ}
use mathlib.Core.Path.{◌≡◌, refl}
use mathlib.Core.List.{List, [], ◌∷◌, ◌++◌}
use lib.IntN.{pos, negsuc}
use lib.Ieee.{span, climb, size, odd, units, round, neg, sum, add, sub, mul, div, lt, of_int}
use Rattle.integer.specs.Limited.{limited}
use Rattle.integer.specs.Operand.{unsigned, signed}
use Rattle.integer.specs.Quotient.{◌÷◌, quotient_up}
use Rattle.integer.specs.Sum as sums
use Rattle.integer.specs.Tests.{outside, any}
use Rattle.commands.specs.Format.{pair_command, size_command, drift_command, column_command, start_command, rounds_command, decoded, wrong_size, beyond, wrong_column, wrong}
use Rattle.commands.specs.Required.{among, curved, on_curve, required}
use Rattle.tape.specs.declared.Tape.{Tape}
use Rattle.tape.specs.Tape.{step_reference}
use Rattle.tape.specs.Reading.{obey_size, obey_entry, absent, lacks_weight, obey_end, obey, next, read_from, reading}
use Rattle.problem.specs.Model.{state_at, model_sum, rounded, residual}
use Rattle.problem.specs.Cost.{total, cost, plan_cost}
use Rattle.problem.specs.Dual.{input_slope, adjoint, carried, state_slope, unweighted, conjugate, tilt, piece, pieces, constant, sizes, floor, larger, most, ceiling}
use Rattle.primal.specs.Lent.{listed, joined}
use Rattle.steps.specs.Steps.{ahead, minimiser, model_states, dropped, verdict, ascended}
use Rattle.banded.specs.Floats.{sum_from, usable}
use Rattle.banded.specs.Elimination.{follows, taken, eliminated, sides, usable_pivots}
use Rattle.banded.specs.Correction.{solved_row, solved}
use Rattle.banded.specs.Weights.{input_coefficient, state_coefficient, share, weight_to, weights}
use Rattle.ascent.specs.Correction.{whole_nearest, correction}
use Rattle.rounds.specs.Running.{Ending, proved, impossible, rounds, start}

-- tape F with the state's limits and reference as given, and command 51
abbrev bytes : List ℕ → List ℕ
bytes state =
    0x10 ∷ 0x01 ∷ 0x01 ∷ 0x01 ∷ 0x20 ∷ 0x00 ∷ 0x00 ∷ 0x00 ∷ 0x10 ∷ 0x21 ∷ 0x00 ∷ 0x00 ∷ 0x00 ∷ 0x08 ∷ 0x30 ∷ 0x00
    ∷ state
    ++ 0x01 ∷ 0x30 ∷ 0x01 ∷ 0x00 ∷ 0x00 ∷ 0x28 ∷ 0x00 ∷ 0x00 ∷ 0x00 ∷ 0x01 ∷ 0x40 ∷ 0x00 ∷ 0x64 ∷ 0x00
    ∷ 0x51 ∷ 0x19 ∷ 0x00 ∷ 0x05 ∷ 0x00 ∷ 0x40 ∷ 0x9C ∷ 0x00 ∷ 0x00 ∷ 0xFF ∷ []

-- all rounds of a tape: a function of it, so that it is read once
unfoldable pub ends : Tape → Ending
ends t = rounds t t.rounds 0 (start t) (start t)

-- Tape F: in round 0 the residual is 4096 × (100 − 110), and −40,960 / 2560 = −16, which is command 50's y too. M9's tape: 4096 ×
-- (100 − 250) / 2560 = −240, where command 50 has −234.
pub figures : (ends (reading (bytes (0x18 ∷ 0xFC ∷ 0xE8 ∷ 0x03 ∷ 0x6E ∷ 0x00 ∷ []))).tape ≡ proved 2 (pos 32768) (pos 4 ∷ pos 102 ∷ []) (negsuc 15 ∷ []))
    × (ends (reading (bytes (0xC8 ∷ 0x00 ∷ 0x2C ∷ 0x01 ∷ 0xFA ∷ 0x00 ∷ []))).tape ≡ impossible 2 (negsuc 239 ∷ []))
unfolding ends span climb size odd units round neg sum add sub mul div lt of_int limited unsigned signed ◌÷◌ quotient_up sums.sum outside any pair_command size_command drift_command column_command start_command rounds_command decoded wrong_size beyond wrong_column wrong among curved on_curve required step_reference obey_size obey_entry absent lacks_weight obey_end obey next read_from reading state_at model_sum rounded residual total cost plan_cost input_slope adjoint carried state_slope unweighted conjugate tilt piece pieces constant sizes floor larger most ceiling listed joined ahead minimiser model_states dropped verdict ascended sum_from usable follows taken eliminated sides usable_pivots solved_row solved input_coefficient state_coefficient share weight_to weights whole_nearest correction rounds
figures = (refl, refl)
