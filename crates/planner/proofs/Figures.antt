-- A refusal's code is not 0. It fits its word, since the figures of an answer are at most 10,000.
use Prim.Native.Nat.{ℕ, ◌*◌, ◌≤◌}
use mathlib.Core.Path.{◌≡◌, refl}
use mathlib.Core.Bool.{◌||◌}
use mathlib.Core.Logic.{⊎_elim}
use mathlib.Core.List.{List}
use native.Mathlib.Omega.{arith}
use lib.ListN.{length}
use lib.IntN.{ℤ, ◌-ℤ◌}
use lib.Signed.{lt_z}
use lib.Ieee.{Float}
use Rattle.std.specs.Prelude.{Result, Ok, Err, IfErr}
use Rattle.integer.proofs.Tests.{by_test}
use Rattle.tape.specs.Answer.{Answer, told, told_of}
use Rattle.tape.specs.Answer as answer
use Rattle.tape.specs.declared.Tape.{Tape}
use Rattle.tape.specs.declared.refusal.Refusal.{Refusal}
use Rattle.tape.specs.declared.refusal.Refusal.TheVariants.{OffModel}
use Rattle.tape.specs.Reading.{reading}
use Rattle.tape.specs.Refusals.{row, figure}
use Rattle.problem.specs.Model.{problem_of, plan_of, multipliers_of}
use Rattle.problem.specs.Cost.{cost_of}
use Rattle.problem.specs.Dual.{floor_of, shows}
use Rattle.lent.specs.Checks.{plan_check, wrong_multipliers, wrong_plan_length, wrong_multipliers_length}
use Rattle.lent.proofs.Faults.{plan_failed}
use Rattle.judge.specs.Judging.{gap_within, after_check, judged_on, judged_after_read, judged, shown_on, shown_after_read, shown}
use Rattle.banded.specs.Step.{uses_band}
use Rattle.corrections.specs.Corrections.{wrong_rows, wrong_residuals, corrected_on, corrected_after, corrected}
use Rattle.models.specs.Models.{model_answer}
use Rattle.models.proofs.Tested.{answer_counted}
use Rattle.numbers.specs.Numbers.{code_of}
use Rattle.numbers.proofs.Codes.{number-range}
use Rattle.solver.specs.declared.Solved.{Solved}
use Rattle.solver.specs.declared.Solved.TheVariants.{Proved, Impossible}
use Rattle.solver.proofs.Small.{Small, SmallRead, small_read, SmallSolved}
use Rattle.planner.specs.Calls.{rounds_of}

pub refused : (why : Refusal) → code_of why ≡ 0 → ⊥
refused why e = omega (arith, number-range why)

-- the figure of a refusal, if there is one
abbrev pub SmallErr : {X : Type 0} → Result X Refusal → Type 0
SmallErr r = IfErr r Small

pub small_told : (s : List ℕ) → SmallErr (told_of (reading s))
small_told s = go (reading s).answer (small_read s)
  where
    t : Tape
    t = (reading s).tape

    go : (a : Answer) → SmallRead a → SmallErr (told a t)
    go answer.Accepted h = tt
    go (answer.Refused why) h = h

pub small_judged : (s : List ℕ) (plan y : List ℤ) → SmallErr (judged s plan y)
unfolding judged judged_on gap_within
small_judged s plan y = go (reading s).answer (small_read s)
  where
    t : Tape
    t = (reading s).tape

    checked : (c : Result (Unit {0}) Refusal) (cost floor : ℤ) → plan_check (problem_of t) (plan_of t.n t.m plan) ≡ c → SmallErr (after_check c (gap_within t cost floor))
    checked (Ok tt) cost floor e = by_test SmallErr (lt_z t.wanted (cost -ℤ floor)) (λ _. omega arith) (λ _. tt)
    checked (Err why) cost floor e = let f = plan_failed (problem_of t) (plan_of t.n t.m plan) e in
        ⊎_elim (λ (is : why ≡ OffModel f.fault). rw is (omega arith)) (λ is. rw is (omega arith)) f.is

    go : (a : Answer) → SmallRead a → SmallErr (judged_after_read a (judged_on t plan y))
    go answer.Accepted h =
        by_test SmallErr (wrong_plan_length t plan || wrong_multipliers_length t y) (λ _. omega arith)
        (λ _. by_test SmallErr (wrong_multipliers y) (λ _. omega arith) (λ _. checked (plan_check (problem_of t) (plan_of t.n t.m plan)) (cost_of t plan) (floor_of t y) refl))
    go (answer.Refused why) h = h

pub small_shown : (s : List ℕ) (y : List ℤ) → SmallErr (shown s y)
unfolding shown shown_on
small_shown s y = go (reading s).answer (small_read s)
  where
    t : Tape
    t = (reading s).tape

    go : (a : Answer) → SmallRead a → SmallErr (shown_after_read a (shown_on t y))
    go answer.Accepted h =
        by_test SmallErr (wrong_multipliers_length t y) (λ _. omega arith)
        (λ _. by_test SmallErr (wrong_multipliers y) (λ _. omega arith)
        (λ _. by_test SmallErr (shows (problem_of t) (multipliers_of t.n y)) (λ _. tt) (λ _. omega arith)))
    go (answer.Refused why) h = h

pub small_corrected : (s : List ℕ) (e : List ℤ) (pivots d : ℕ) → SmallErr (corrected s e pivots d)
unfolding corrected corrected_on
small_corrected s e pivots d = go (reading s).answer (small_read s)
  where
    t : Tape
    t = (reading s).tape

    go : (a : Answer) → SmallRead a → SmallErr (corrected_after a (corrected_on t e pivots d))
    go answer.Accepted h =
        by_test SmallErr (wrong_rows (t.horizon * t.n) (length e) pivots d) (λ _. omega arith)
        (λ _. by_test SmallErr (wrong_residuals e) (λ _. omega arith) (λ _. by_test SmallErr (uses_band t) (λ _. tt) (λ _. tt)))
    go (answer.Refused why) h = h

pub small_rounds : (answer : Solved) → SmallSolved (Ok answer) → rounds_of answer ≤ 10000
small_rounds (Proved rounds gap first) h = h
small_rounds (Impossible rounds) h = h

pub small_answer : (r : Result Solved Refusal) → SmallSolved r → SmallErr r
small_answer (Ok answer) h = tt
small_answer (Err why) h = h

pub small_model : (n m : ℕ) (a b : List Float) (out : ℕ) (why : Refusal) → model_answer n m a b out ≡ Err why → Small why
small_model n m a b out why e = let h : figure (row why).carries ≤ 60 = rw e at (answer_counted n m a b out) in omega arith
