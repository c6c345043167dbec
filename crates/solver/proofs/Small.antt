-- The figures of an answer are at most 10,000.
use Prim.Native.Nat.{ℕ, zero, suc, ◌+◌, ◌≤◌}
use mathlib.Core.Path.{◌≡◌, refl}
use mathlib.Core.Bool.{◌||◌}
use mathlib.Core.List.{List}
use native.Mathlib.Omega.{arith}
use lib.ListN.{length}
use lib.IntN.{ℤ}
use Rattle.integer.proofs.Operand.{Bytes}
use Rattle.integer.proofs.Tests.{by_test}
use Rattle.std.specs.Prelude.{Option, Some, None, Result, Ok, Err}
use Rattle.commands.proofs.Extent.{deciding_bytes_lem}
use Rattle.tape.specs.Answer.{Answer}
use Rattle.tape.specs.Answer as answer
use Rattle.tape.specs.declared.Tape.{Tape}
use Rattle.tape.specs.declared.refusal.Refusal.{Refusal}
use Rattle.tape.specs.Reading.{reading}
use Rattle.tape.specs.Refusals.{row, figure}
use Rattle.tape.proofs.Facts.{legal}
use Rattle.tape.proofs.Offsets.{Bounds, bounds}
use Rattle.problem.specs.Model.{multipliers_of}
use Rattle.lent.specs.Checks.{wrong_plan_length, wrong_multipliers_length}
use Rattle.steps.specs.declared.verdict.Verdict.{Verdict}
use Rattle.steps.specs.declared.verdict.Verdict.TheVariants.{Proved, Impossible}
use Rattle.steps.specs.Steps.{verdict}
use Rattle.primal.specs.Lent.{lent_plan}
use Rattle.rounds.specs.Running.{ahead_of, candidate_of, ascended_of, Ending, ended, rounds}
use Rattle.rounds.specs.Running as running
use Rattle.solver.specs.declared.Solved.{Solved}
use Rattle.solver.specs.declared.Solved.TheVariants as solved
use Rattle.solver.specs.Solving.{solving_on, ending_after_read, solving, answer_of}

abbrev pub Small : Refusal → Type 0
Small why = figure (row why).carries ≤ 10000

-- ---- Reading

abbrev pub SmallRead : Answer → Type 0
SmallRead answer.Accepted = Unit {0}
SmallRead (answer.Refused why) = Small why

from-tape : (long : ℕ) (a : Answer) → Bounds long a → SmallRead a
from-tape long answer.Accepted h = tt
from-tape long (answer.Refused why) h = omega (arith, deciding_bytes_lem)

pub small_read : (s : List ℕ) → SmallRead (reading s).answer
small_read s = from-tape (length s) (reading s).answer (bounds s)

-- ---- Solving

abbrev pub SmallSolved : Result Solved Refusal → Type 0
SmallSolved (Ok (solved.Proved rounds gap first)) = rounds ≤ 10000
SmallSolved (Ok (solved.Impossible rounds)) = rounds ≤ 10000
SmallSolved (Err why) = Small why

data SmallEnding : Ending → Type 0 where
  proved : {rounds : ℕ} {gap : ℤ} {plan y : List ℤ} → rounds ≤ 10000 → SmallEnding (running.proved rounds gap plan y)
  impossible : {rounds : ℕ} {y : List ℤ} → rounds ≤ 10000 → SmallEnding (running.impossible rounds y)
  refused : {why : Refusal} → Small why → SmallEnding (running.refused why)

small_answer : (t : Tape) {e : Ending} → SmallEnding e → SmallSolved (answer_of t e)
small_answer t (proved h) = h
small_answer t (impossible h) = h
small_answer t (refused h) = h

small_round : (k : ℕ) {after : Ending} (v : Option Verdict) (plan y : List ℤ) → k ≤ 10000 → SmallEnding after → SmallEnding (ended v k plan y after)
small_round k (Some (Proved gap)) plan y h a = proved h
small_round k (Some Impossible) plan y h a = impossible h
small_round k None plan y h a = a

small_rounds : (t : Tape) (left k : ℕ) (y previous : List ℤ) → t.rounds ≤ 10000 → k + left ≤ t.rounds → SmallEnding (rounds t left k y previous)
unfolding rounds
small_rounds t zero k y previous r h = refused r
small_rounds t (suc left) k y previous r h =
    let y~ = ahead_of t k y previous in
    let v = candidate_of t y~ in
    small_round (k + 1) (verdict t v (multipliers_of t.n y~)) (lent_plan t.n t.m t.horizon v) y~ (omega arith)
    (small_rounds t left (k + 1) (ascended_of t y~) y r (omega arith))

pub small_solved : (s : List ℕ) (plan y : List ℤ) → Bytes s → SmallSolved (answer_of (reading s).tape (solving s plan y))
unfolding solving solving_on
small_solved s plan y b = small_answer t (go (reading s).answer refl (small_read s))
  where
    t : Tape
    t = (reading s).tape

    go : (a : Answer) → (reading s).answer ≡ a → SmallRead a → SmallEnding (ending_after_read a (solving_on t plan y))
    go answer.Accepted e h =
        by_test SmallEnding (wrong_plan_length t plan || wrong_multipliers_length t y) (λ _. refused (omega arith))
        (λ _. small_rounds t t.rounds 0 _ _ (legal s b e).rounds.1 (omega arith))
    go (answer.Refused why) e h = refused h
