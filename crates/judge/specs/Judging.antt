-- Document 01, "Calls": judging a plan with multipliers, and multipliers for impossibility.
use Rattle.std.specs.Prelude.{ℕ, cond, ◌||◌, List, ℤ, ◌-ℤ◌, Result, Ok, Err}
use Rattle.std.specs.Int.Signed.{lt_z}
use Rattle.tape.specs.Reading.{reading}
use Rattle.tape.specs.Answer.{Answer}
use Rattle.tape.specs.Answer as answer
use Rattle.tape.specs.declared.refusal.Refusal.{Refusal}
use Rattle.tape.specs.declared.Tape.{Tape}
use Rattle.tape.specs.declared.refusal.Refusal.TheVariants.{Length, Multiplier, Wide, NotShown}
use Rattle.problem.specs.Model.{problem_of, plan_of, multipliers_of}
use Rattle.problem.specs.Cost.{cost_of}
use Rattle.problem.specs.Dual.{floor_of, shows}
use Rattle.lent.specs.Checks.{wrong_plan_length, wrong_multipliers_length, wrong_multipliers, plan_check}

-- 13: the gap, cost minus floor, is above T
unfoldable pub gap_within : Tape → ℤ → ℤ → Result ℤ Refusal
gap_within t cost floor = cond (lt_z t.wanted (cost -ℤ floor)) (Err (Wide (record { cost = cost; floor = floor }))) (Ok (cost -ℤ floor))

-- 10 and 11
abbrev pub after_check : Result (Unit {0}) Refusal → Result ℤ Refusal → Result ℤ Refusal
after_check (Ok tt) passed = passed
after_check (Err why) passed = Err why

-- 9, 12, the plan, 13
unfoldable pub judged_on : Tape → List ℤ → List ℤ → Result ℤ Refusal
judged_on t plan y =
    cond (wrong_plan_length t plan || wrong_multipliers_length t y) (Err Length)
    (cond (wrong_multipliers y) (Err Multiplier)
    (after_check (plan_check (problem_of t) (plan_of t.n t.m plan))
    (gap_within t (cost_of t plan) (floor_of t y))))

abbrev pub judged_after_read : Answer → Result ℤ Refusal → Result ℤ Refusal
judged_after_read answer.Accepted accepted = accepted
judged_after_read (answer.Refused why) accepted = Err why

unfoldable pub judged : List ℕ → List ℤ → List ℤ → Result ℤ Refusal
judged s plan y = judged_after_read (reading s).answer (judged_on (reading s).tape plan y)

-- 9, 12, 14
unfoldable pub shown_on : Tape → List ℤ → Result (Unit {0}) Refusal
shown_on t y =
    cond (wrong_multipliers_length t y) (Err Length)
    (cond (wrong_multipliers y) (Err Multiplier)
    (cond (shows (problem_of t) (multipliers_of t.n y)) (Ok tt) (Err NotShown)))

abbrev pub shown_after_read : Answer → Result (Unit {0}) Refusal → Result (Unit {0}) Refusal
shown_after_read answer.Accepted accepted = accepted
shown_after_read (answer.Refused why) accepted = Err why

unfoldable pub shown : List ℕ → List ℤ → Result (Unit {0}) Refusal
shown s y = shown_after_read (reading s).answer (shown_on (reading s).tape y)
