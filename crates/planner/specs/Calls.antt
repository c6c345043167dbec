-- The exported calls: the number that each returns, and what it leaves in `out`.
use Rattle.std.specs.Prelude.{ℕ, List, [], ◌∷◌, ℤ, pos, Result, Ok, Err}
use Rattle.tape.specs.Answer.{Answer}
use Rattle.tape.specs.Answer as answer
use Rattle.tape.specs.declared.Tape.{Tape}
use Rattle.tape.specs.declared.refusal.Refusal.{Refusal}
use Rattle.numbers.specs.Numbers.{code_of, read_numbers, reference_numbers, step_numbers}
use Rattle.solver.specs.declared.Solved.{Solved}
use Rattle.solver.specs.declared.Solved.TheVariants.{Proved, Impossible}

-- ---- read

abbrev pub read_code : Answer → ℕ
read_code answer.Accepted = 0
read_code (answer.Refused why) = code_of why

-- `out` at exit, given what it held at entry
abbrev pub read_left : Answer → Tape → List ℤ → List ℤ
read_left answer.Accepted t before = read_numbers t
read_left (answer.Refused why) t before = before

-- ---- read references

abbrev pub references_left : Answer → Tape → List ℤ → List ℤ
references_left answer.Accepted t before = reference_numbers t
references_left (answer.Refused why) t before = before

-- ---- read step

abbrev pub step_left : Answer → Tape → List ℤ → List ℤ
step_left answer.Accepted t before = step_numbers t
step_left (answer.Refused why) t before = before

-- ---- judge a plan

abbrev pub judged_code : Result ℤ Refusal → ℕ
judged_code (Ok gap) = 0
judged_code (Err why) = code_of why

abbrev pub judged_left : Result ℤ Refusal → List ℤ → List ℤ
judged_left (Ok gap) before = gap ∷ []
judged_left (Err why) before = before

-- ---- judge multipliers

abbrev pub shown_code : Result (Unit {0}) Refusal → ℕ
shown_code (Ok tt) = 0
shown_code (Err why) = code_of why

-- ---- solve

abbrev pub solved_code : Result Solved Refusal → ℕ
solved_code (Ok answer) = 0
solved_code (Err why) = code_of why

-- kind (1 proved, 2 impossible), rounds, gap, u(0); what an answer lacks is 0
abbrev pub solved_numbers : Solved → List ℤ
solved_numbers (Proved rounds gap first) = pos 1 ∷ pos rounds ∷ gap ∷ first.u0 ∷ first.u1 ∷ first.u2 ∷ first.u3 ∷ []
solved_numbers (Impossible rounds) = pos 2 ∷ pos rounds ∷ pos 0 ∷ pos 0 ∷ pos 0 ∷ pos 0 ∷ pos 0 ∷ []

abbrev pub solved_left : Result Solved Refusal → List ℤ → List ℤ
solved_left (Ok answer) before = solved_numbers answer
solved_left (Err why) before = before

-- the rounds of an answer
abbrev pub rounds_of : Solved → ℕ
rounds_of (Proved rounds gap first) = rounds
rounds_of (Impossible rounds) = rounds
