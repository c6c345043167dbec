-- The call for the correction of residuals: its number, and what `out` holds at exit, given what it held at entry.
use Rattle.std.specs.Prelude.{ℕ, List, [], ◌∷◌, ℤ, pos, Result, Ok, Err}
use Rattle.tape.specs.declared.refusal.Refusal.{Refusal}
use Rattle.numbers.specs.Numbers.{code_of}
use Rattle.corrections.specs.declared.Corrected.{Corrected}
use Rattle.corrections.specs.declared.Corrected.TheVariants.{Written, Unused}

abbrev pub corrected_code : Result Corrected Refusal → ℕ
corrected_code (Ok answer) = 0
corrected_code (Err why) = code_of why

-- 1 where the pivots and d are written, 0 where the tape has command 50 or falls back on g
abbrev pub corrected_numbers : Corrected → List ℤ
corrected_numbers Written = pos 1 ∷ []
corrected_numbers Unused = pos 0 ∷ []

abbrev pub corrected_left : Result Corrected Refusal → List ℤ → List ℤ
corrected_left (Ok answer) before = corrected_numbers answer
corrected_left (Err why) before = before
