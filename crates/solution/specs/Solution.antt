-- Document 01, "Calls": a solve with slices of zeros, of the lengths that the tape asks for.
use Rattle.std.specs.Prelude.{ℕ, ◌+◌, ◌-◌, ◌*◌, List, ◌++◌}
use Rattle.tape.specs.declared.Tape.{Tape}
use Rattle.tape.specs.Reading.{reading}
use Rattle.tape.specs.Tape.{zeros}
use Rattle.rounds.specs.Running.{Ending}
use Rattle.solver.specs.Solving.{solving, answer_of, plan_left, multipliers_left}
use Rattle.solution.specs.declared.Solution.{Solution}

-- N(n+m) plan numbers, N × n multipliers.
abbrev pub plan_numbers : Tape → ℕ
plan_numbers t = t.horizon * (t.n + t.m)

abbrev pub multiplier_numbers : Tape → ℕ
multiplier_numbers t = t.horizon * t.n

-- How the solve ends.
abbrev pub ending_on : List ℕ → Tape → Ending
ending_on s t = solving s (zeros (plan_numbers t)) (zeros (multiplier_numbers t))

-- What it answers and leaves, with zeros behind the plan and the multipliers.
abbrev pub solution_at : Tape → Ending → Solution
solution_at t ending = record {
  answer = answer_of t ending;
  tape = t;
  plan = plan_left ending (zeros (plan_numbers t)) ++ zeros (120 - plan_numbers t);
  multipliers = multipliers_left ending (zeros (multiplier_numbers t)) ++ zeros (72 - multiplier_numbers t);
}

unfoldable pub solution_of : List ℕ → Solution
solution_of s = solution_at (reading s).tape (ending_on s (reading s).tape)
