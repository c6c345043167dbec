-- The figures of document 01 that speak of the problem: a table of what the definitions give and what the document says. The
-- solver's table has these rows and those of M7 and M8; the fact here is what holds a change of the problem's definitions to them.
-- Below them figures of a curve and of weight 0, worked out by hand.
use Prim.Native.Nat.{ℕ}
use mathlib.Core.Path.{◌≡◌, refl}
use mathlib.Core.Bool.{cond}
use mathlib.Core.List.{List, [], ◌∷◌, ◌++◌, map}
use lib.IntN.{ℤ, pos, negsuc}
use Rattle.integer.specs.Operand.{unsigned, signed}
use Rattle.integer.specs.Quotient.{◌÷◌, quotient_up}
use Rattle.integer.specs.Sum.{sum}
use Rattle.integer.specs.Tests.{outside, any}
use Rattle.commands.specs.Format.{pair_command, size_command, drift_command, column_command, start_command, rounds_command, decoded, wrong_size, beyond, wrong_column, wrong}
use Rattle.commands.specs.Required.{among, curved, on_curve, required}
use Rattle.tape.specs.declared.Tape.{Tape}
use Rattle.tape.specs.Tape.{step_reference}
use Rattle.tape.specs.Reading.{obey_size, obey_entry, absent, lacks_weight, obey_end, obey, next, read_from, reading}
use Rattle.problem.specs.Model.{problem_of, plan_of, multipliers_of, state_at, model_sum, rounded, sum_at}
use Rattle.problem.specs.Cost.{total, cost, plan_cost, cost_of}
use Rattle.problem.specs.Dual.{input_slope, adjoint, carried, state_slope, unweighted, conjugate, tilt, piece, pieces, constant, sizes, floor, floor_of, gap_of, larger, most, ceiling, shows}

-- tape F, with N, a curve, the state's limits, reference and weight, the input's weight and the wanted gap as given
abbrev bytes_of : ℕ → List ℕ → List ℕ → ℕ → ℕ → List ℕ → List ℕ
bytes_of horizon curve state stateWeight inputWeight wanted =
    0x10 ∷ 0x01 ∷ 0x01 ∷ horizon ∷ 0x20 ∷ 0x00 ∷ 0x00 ∷ 0x00 ∷ 0x10 ∷ 0x21 ∷ 0x00 ∷ 0x00 ∷ 0x00 ∷ 0x08
    ∷ curve
    ++ 0x30 ∷ 0x00 ∷ state
    ++ stateWeight ∷ 0x30 ∷ 0x01 ∷ 0x00 ∷ 0x00 ∷ 0x28 ∷ 0x00 ∷ 0x00 ∷ 0x00 ∷ inputWeight ∷ 0x40 ∷ 0x00 ∷ 0x64 ∷ 0x00
    ∷ 0x50 ∷ 0x19 ∷ 0x00 ∷ 0x05 ∷ 0x00 ∷ wanted
    ++ 0xFF ∷ []

abbrev pub bytes : List ℕ → List ℕ → List ℕ
bytes state = bytes_of 0x01 [] state 0x01 0x01

-- limits −1,000 to 1,000, r 110
abbrev pub wide : List ℕ
wide = 0x18 ∷ 0xFC ∷ 0xE8 ∷ 0x03 ∷ 0x6E ∷ 0x00 ∷ []

-- T = 40,000
abbrev pub ample : List ℕ
ample = 0x40 ∷ 0x9C ∷ 0x00 ∷ 0x00 ∷ []

-- state limits 200 to 300, r 250
abbrev pub narrow : List ℕ
narrow = 0xC8 ∷ 0x00 ∷ 0x2C ∷ 0x01 ∷ 0xFA ∷ 0x00 ∷ []

-- the state that the model gives after the input u of a tape's one step
abbrev after : Tape → ℤ → ℤ
after t u = rounded (sum_at (problem_of t) (plan_of 1 1 (u ∷ [])) 0 0)

-- the rows, by tape F and M9's tape: a function of the two, so that each is read once and not for every row
unfoldable pub rows : Tape → Tape → List (ℤ × ℤ)
rows F G =
    -- M1
    (after F (pos 1), pos 101) ∷ (after F (pos 2), pos 101) ∷ (after F (pos 3), pos 102)
    -- M2
    ∷ (rounded (negsuc 2047), pos 0) ∷ (rounded (negsuc 2048), negsuc 0)
    -- M3
    ∷ (floor_of F (negsuc 15 ∷ []), pos 294912)
    -- M4
    ∷ (cost_of F (pos 4 ∷ pos 102 ∷ []), pos 327680) ∷ (gap_of F (pos 4 ∷ pos 102 ∷ []) (negsuc 15 ∷ []), pos 32768)
    -- M5
    ∷ (cost_of F (pos 3 ∷ pos 102 ∷ []), pos 299008) ∷ (gap_of F (pos 3 ∷ pos 102 ∷ []) (negsuc 15 ∷ []), pos 4096)
    -- M6, and beside it a floor below 0, which stays below 0
    ∷ (floor_of F (pos 0 ∷ []), pos 0) ∷ (floor_of F (pos 16 ∷ []), negsuc 950271)
    -- M9: the floor, the ceiling, and 1 for shown
    ∷ (floor_of G (negsuc 99 ∷ []), pos 48435200) ∷ (ceiling (problem_of G), pos 16793600)
    ∷ (cond (shows (problem_of G) (multipliers_of 1 (negsuc 99 ∷ []))) (pos 1) (pos 0), pos 1)
    -- M10
    ∷ (piece ((problem_of G).state_term 0 0) (pos 409600), pos 92160000) ∷ (piece ((problem_of G).state_term 0 0) (pos 409599), pos 92159799)
    ∷ []

abbrev pub table : List (ℤ × ℤ)
table = rows (reading (bytes wide ample)).tape (reading (bytes narrow ample)).tape

-- tape F in two steps, with a curve of 110 and 130 for the state
abbrev pub ramp : List ℕ
ramp = bytes_of 0x02 (0x31 ∷ 0x00 ∷ 0x00 ∷ 0x6E ∷ 0x00 ∷ 0x31 ∷ 0x00 ∷ 0x01 ∷ 0x82 ∷ 0x00 ∷ []) wide 0x01 0x01 ample

-- a plan for it
abbrev rising : List ℤ
rising = pos 4 ∷ pos 102 ∷ pos 4 ∷ pos 104 ∷ []

-- the cost is 4096 (4² + 8² + 4² + 26²), the four pieces are 0, −7,471,104, −65,536 and 8,257,536, the ceiling is
-- 4096 (2 · 40² + 1110² + 1130²)
unfoldable curve_rows : Tape → List (ℤ × ℤ)
curve_rows C =
    (cost_of C rising, pos 3162112) ∷ (floor_of C (pos 0 ∷ negsuc 15 ∷ []), pos 688128) ∷ (gap_of C rising (pos 0 ∷ negsuc 15 ∷ []), pos 2473984)
    ∷ (ceiling (problem_of C), pos 10289971200)
    ∷ []

abbrev curve_table : List (ℤ × ℤ)
curve_table = curve_rows (reading ramp).tape

-- M9's tape with weight 0 for the state, then for both columns: with y = −100 the state's slope is 409,600 and its piece
-- 409,600 · 200; the input's slope is −204,800 and its piece −2,560,000, at weight 0 −204,800 · 40; the constant is −40,960,000 and
-- the allowance 204,800. Tape F with weight 0 for both: with y = −16 the pieces are 65,536 · −1,000 and −32,768 · 40.
unfoldable weightless_rows : Tape → Tape → Tape → List (ℤ × ℤ)
weightless_rows G₁ G₂ F₂ =
    (piece ((problem_of G₁).state_term 0 0) (pos 409600), pos 81920000) ∷ (piece ((problem_of G₁).state_term 0 0) (pos 0), pos 0)
    ∷ (piece ((problem_of G₁).state_term 0 0) (negsuc 409599), negsuc 122879999)
    ∷ (floor_of G₁ (negsuc 99 ∷ []), pos 38195200) ∷ (ceiling (problem_of G₁), pos 6553600)
    ∷ (floor_of G₂ (negsuc 99 ∷ []), pos 32563200) ∷ (ceiling (problem_of G₂), pos 0)
    ∷ (cost_of F₂ (pos 4 ∷ pos 102 ∷ []), pos 0) ∷ (gap_of F₂ (pos 4 ∷ pos 102 ∷ []) (negsuc 15 ∷ []), pos 73433088)
    ∷ []

-- tape F without a curve, with the state's limits and both weights
abbrev pub with_weights : List ℕ → ℕ → ℕ → List ℕ
with_weights state stateWeight inputWeight = bytes_of 0x01 [] state stateWeight inputWeight ample

abbrev weightless_table : List (ℤ × ℤ)
weightless_table =
    weightless_rows (reading (with_weights narrow 0x00 0x01)).tape (reading (with_weights narrow 0x00 0x00)).tape
    (reading (with_weights wide 0x00 0x00)).tape

abbrev all : List (ℤ × ℤ)
all = table ++ curve_table ++ weightless_table

figures : map (λ f. f.0) all ≡ map (λ f. f.1) all
unfolding rows curve_rows weightless_rows unsigned signed ◌÷◌ quotient_up sum pair_command size_command drift_command column_command start_command rounds_command decoded wrong_size beyond outside any wrong_column wrong among curved on_curve required obey_size obey_entry absent lacks_weight obey_end obey next read_from reading step_reference state_at model_sum rounded total cost plan_cost input_slope adjoint carried state_slope unweighted conjugate tilt piece pieces constant sizes floor larger most ceiling
figures = refl
