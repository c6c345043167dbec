-- Document 01, "Firing slip": the lines that the printing program writes.
use Rattle.std.specs.Prelude.{ℕ, ◌-◌, List, [], ◌∷◌, ◌++◌, length, take, replicate, ℤ, Result, Ok, Err}
use Rattle.tape.specs.declared.Tape.{Tape}
use Rattle.tape.specs.declared.refusal.Refusal.{Refusal}
use Rattle.tape.specs.declared.refusal.Carried.{Carried}
use Rattle.tape.specs.declared.refusal.Carried.TheVariants.{Place, Nothing, Fault, Span, Rounds}
use Rattle.tape.specs.Refusals.{row}
use Rattle.solver.specs.declared.Duties.{Duties}
use Rattle.solver.specs.declared.Solved.{Solved}
use Rattle.solver.specs.declared.Solved.TheVariants.{Proved, Impossible}
use Rattle.ranges.specs.declared.Ranges.{Ranges}
use Rattle.ranges.specs.declared.range.Range.{Range}
use Rattle.ranges.specs.Ranges.{first_ranges}
use Rattle.solution.specs.Solution.{multiplier_numbers, solution_of}
use Rattle.slip_text.specs.declared.text.Text.{Text}
use Rattle.slip_text.specs.Decimal.{text, decimal, signed_decimal}

-- Every line ends with a newline.
abbrev pub line : List ℕ → List ℕ
line s = s ++ text "\n"

abbrev pub rounds_line : ℕ → List ℕ
rounds_line R = line (text "rounds " ++ decimal R)

abbrev pub gap_line : ℤ → List ℕ
gap_line gap = line (text "gap " ++ signed_decimal gap)

-- What f writes for each of a list, one behind the other.
abbrev pub each : {A : Type 0} → (A → List ℕ) → List A → List ℕ
each f [] = []
each f (a ∷ others) = f a ++ each f others

-- The first m duties, with a blank before each. m is 1 to 4; 0 would give none, and a larger one all four.
abbrev pub blank_and : ℤ → List ℕ
blank_and duty = text " " ++ signed_decimal duty

abbrev pub first_line : ℕ → Duties → List ℕ
first_line m first = line (text "first" ++ each blank_and (take m (first.u0 ∷ first.u1 ∷ first.u2 ∷ first.u3 ∷ [])))

-- A line for each of them (document 02, request 8): from where to where it may lie.
abbrev pub range_line : Range → List ℕ
range_line range = line (text "range " ++ signed_decimal range.low ++ text " " ++ signed_decimal range.high)

abbrev pub range_lines : ℕ → Ranges → List ℕ
range_lines m ranges = each range_line (take m (ranges.u0 ∷ ranges.u1 ∷ ranges.u2 ∷ ranges.u3 ∷ []))

abbrev pub proved_lines : ℕ → ℤ → Duties → Ranges → ℕ → List ℕ
proved_lines R gap first ranges m = line (text "proved") ++ rounds_line R ++ gap_line gap ++ first_line m first ++ range_lines m ranges

abbrev pub refused_number : ℕ → List ℕ
refused_number number = text "refused " ++ decimal number

-- A refusal by its number and what it carries: a tape's refusal has an offset, 'open' the rounds. The printing program never meets
-- 9 to 14, since it lends slices of the right lengths and judges nothing; they have their number alone.
abbrev pub refusal_lines : ℕ → Carried → List ℕ
refusal_lines number (Place at) = line (refused_number number ++ (text " at " ++ decimal at))
refusal_lines number Nothing = line (refused_number number)
refusal_lines number (Fault fault) = line (refused_number number)
refusal_lines number (Span span) = line (refused_number number)
refusal_lines number (Rounds R) = line (text "open") ++ rounds_line R

-- The slip of a solve's answer on a tape: the ranges are by the gap and the multipliers y that the solve left.
abbrev pub slip : Result Solved Refusal → Tape → List ℤ → List ℕ
slip (Ok (Proved R gap first)) t y = proved_lines R gap first (first_ranges t y gap) t.m
slip (Ok (Impossible R)) t y = line (text "impossible") ++ rounds_line R
slip (Err why) t y = refusal_lines (row why).number (row why).carries

-- The slip of a tape.
abbrev pub tape_slip : List ℕ → List ℕ
tape_slip s =
    let solved = solution_of s in
    slip solved.answer solved.tape (take (multiplier_numbers solved.tape) solved.multipliers)

-- A text in its buffer: the bytes, then zeros.
unfoldable pub text_of : List ℕ → Text
text_of s = record { bytes = s ++ replicate (360 - length s) 0; length = length s }
