-- Document 01, "The rounds": the steps on multipliers as they are lent, and the rounds of a solve. Step 4 has the correction of
-- command 50 or of document 02, request 9.
use Rattle.std.specs.Prelude.{ℕ, zero, suc, ◌+◌, ◌*◌, Option, Some, None, List, ℤ, pos}
use Rattle.tape.specs.declared.Tape.{Tape}
use Rattle.tape.specs.declared.refusal.Refusal.{Refusal}
use Rattle.tape.specs.declared.refusal.Refusal.TheVariants.{Open}
use Rattle.problem.specs.Model.{Plan, problem_of, multipliers_of, residual}
use Rattle.steps.specs.declared.verdict.Verdict.{Verdict}
use Rattle.steps.specs.declared.verdict.Verdict.TheVariants as verdicts
use Rattle.steps.specs.Steps.{ahead, minimisers, candidate, verdict, ascended}
use Rattle.ascent.specs.Correction.{correction}
use Rattle.primal.specs.Lent.{lent_multipliers, lent_plan}

-- ---- The steps on multipliers as they are lent

-- 1
abbrev pub ahead_of : Tape → ℕ → List ℤ → List ℤ → List ℤ
ahead_of t k y previous =
    lent_multipliers t.n t.horizon (λ s i. ahead (pos k) (multipliers_of t.n y s i) (multipliers_of t.n previous s i))

-- 2
abbrev pub minimisers_of : Tape → List ℤ → Plan
minimisers_of t y = minimisers (problem_of t) (multipliers_of t.n y)

-- 3
abbrev pub candidate_of : Tape → List ℤ → Plan
candidate_of t y = candidate (problem_of t) (minimisers_of t y).u

-- 4: the residuals of the numbers of 2, by rows, and the next y
abbrev pub residuals_of : Tape → List ℤ → List ℤ
residuals_of t y = lent_multipliers t.n t.horizon (residual (problem_of t) (minimisers_of t y))

abbrev pub ascended_of : Tape → List ℤ → List ℤ
ascended_of t y =
    lent_multipliers t.n t.horizon
    (λ s i. ascended (multipliers_of t.n y s i) (correction t (residuals_of t y) (s * t.n + i)))

-- ---- The rounds

-- How a solve ends: 'proved' with rounds, gap, plan and multipliers; 'impossible' with rounds and multipliers; or a refusal.
pub data Ending : Type 0 where
  proved : ℕ → ℤ → List ℤ → List ℤ → Ending
  impossible : ℕ → List ℤ → Ending
  refused : Refusal → Ending

-- A round's verdict ends the solve with the rounds entered, or leaves it to the rounds after it.
abbrev pub ended : Option Verdict → ℕ → List ℤ → List ℤ → Ending → Ending
ended (Some (verdicts.Proved gap)) rounds plan y after = proved rounds gap plan y
ended (Some verdicts.Impossible) rounds plan y after = impossible rounds y
ended None rounds plan y after = after

-- Steps 2 to 4 of round k, from y~; `after` are the rounds after it, from the next y.
abbrev pub entered : Tape → ℕ → List ℤ → (List ℤ → Ending) → Ending
entered t k y after =
    ended (verdict t (candidate_of t y) (multipliers_of t.n y)) (k + 1) (lent_plan t.n t.m t.horizon (candidate_of t y)) y (after (ascended_of t y))

-- Round k and those after it, from y and the y before it; the first argument counts the rounds left.
unfoldable pub rounds : Tape → ℕ → ℕ → List ℤ → List ℤ → Ending
rounds t zero k y previous = refused (Open t.rounds)
rounds t (suc left) k y previous = entered t k (ahead_of t k y previous) (λ next. rounds t left (k + 1) next y)

-- All multipliers start at 0, and so do those before them.
abbrev pub start : Tape → List ℤ
start t = lent_multipliers t.n t.horizon (λ k i. pos 0)
