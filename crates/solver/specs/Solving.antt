-- Document 01, "Calls": what a solve answers, and what it leaves in the lent slices.
use Rattle.std.specs.Prelude.{ℕ, cond, ◌||◌, List, ltb, ℤ, pos, Result, Ok, Err}
use Rattle.integer.specs.Places.{at}
use Rattle.tape.specs.Reading.{reading}
use Rattle.tape.specs.Answer.{Answer}
use Rattle.tape.specs.Answer as answer
use Rattle.tape.specs.declared.Tape.{Tape}
use Rattle.tape.specs.declared.refusal.Refusal.{Refusal}
use Rattle.tape.specs.declared.refusal.Refusal.TheVariants.{Length}
use Rattle.lent.specs.Checks.{wrong_plan_length, wrong_multipliers_length}
use Rattle.rounds.specs.Running.{Ending, proved, impossible, refused, rounds, start}
use Rattle.solver.specs.declared.Duties.{Duties}
use Rattle.solver.specs.declared.Solved.{Solved}
use Rattle.solver.specs.declared.Solved.TheVariants as solved

-- 9, then the rounds
unfoldable pub solving_on : Tape → List ℤ → List ℤ → Ending
solving_on t plan y =
    cond (wrong_plan_length t plan || wrong_multipliers_length t y) (refused Length) (rounds t t.rounds 0 (start t) (start t))

abbrev pub ending_after_read : Answer → Ending → Ending
ending_after_read answer.Accepted accepted = accepted
ending_after_read (answer.Refused why) accepted = refused why

unfoldable pub solving : List ℕ → List ℤ → List ℤ → Ending
solving s plan y = ending_after_read (reading s).answer (solving_on (reading s).tape plan y)

-- The first m numbers of a plan are u(0); places beyond m hold 0.
unfoldable pub duty : ℕ → List ℤ → ℕ → ℤ
duty m plan j = cond (ltb j m) (at plan j) (pos 0)

abbrev pub first_duties : ℕ → List ℤ → Duties
first_duties m plan = record { u0 = duty m plan 0; u1 = duty m plan 1; u2 = duty m plan 2; u3 = duty m plan 3 }

-- The answer.
abbrev pub answer_of : Tape → Ending → Result Solved Refusal
answer_of t (proved rounds gap plan y) = Ok (solved.Proved rounds gap (first_duties t.m plan))
answer_of t (impossible rounds y) = Ok (solved.Impossible rounds)
answer_of t (refused why) = Err why

-- What the lent slices hold at exit, given what they held at entry: 'proved' fills both, 'impossible' the multipliers only, and a
-- refusal neither.
abbrev pub plan_left : Ending → List ℤ → List ℤ
plan_left (proved rounds gap plan y) before = plan
plan_left (impossible rounds y) before = before
plan_left (refused why) before = before

abbrev pub multipliers_left : Ending → List ℤ → List ℤ
multipliers_left (proved rounds gap plan y) before = y
multipliers_left (impossible rounds y) before = y
multipliers_left (refused why) before = before
