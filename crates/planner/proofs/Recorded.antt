-- The figure of a record's refusal is at most 10,000.
use Prim.Native.Nat.{ℕ}
use mathlib.Core.Bool.{Bool, cond}
use mathlib.Core.List.{List}
use native.Mathlib.Omega.{arith}
use lib.IntN.{ℤ}
use Rattle.std.specs.Prelude.{Result, Ok, Err}
use Rattle.integer.proofs.Operand.{Bytes}
use Rattle.integer.proofs.Tests.{by_test}
use Rattle.tape.specs.Answer.{Answer}
use Rattle.tape.specs.Answer as answer
use Rattle.tape.specs.declared.refusal.Carried.{Carried}
use Rattle.tape.specs.declared.refusal.Carried.TheVariants.{Place, Nothing, Fault, Span, Rounds}
use Rattle.tape.specs.declared.refusal.Refusal.{Refusal}
use Rattle.tape.specs.declared.refusal.Refusal.TheVariants.{Length}
use Rattle.tape.specs.Reading.{reading}
use Rattle.tape.specs.Refusals.{row}
use Rattle.tape.specs.Tape.{zeros}
use Rattle.solver.specs.declared.Solved.{Solved}
use Rattle.solver.specs.declared.Solved.TheVariants as solved
use Rattle.solver.specs.Solving as solving
use Rattle.solver.proofs.Small.{Small, SmallRead, small_read, SmallSolved, small_solved}
use Rattle.solution.specs.Solution.{plan_numbers, multiplier_numbers}
use Rattle.records.specs.declared.Sizes.{Sizes}
use Rattle.recorder.specs.Calls.{wrong_lengths, after_read, recorded_at, answer_of}
use Rattle.recorder.specs.Recording.{Recording, Kept, Refused, sizes_of, unanswered, record_of, recording}
use Rattle.planner.proofs.Figures.{SmallErr}

abbrev SmallRecording : Recording → Type 0
SmallRecording (Kept r) = Unit {0}
SmallRecording (Refused why) = Small why

small_carried : (z : Sizes) (why : Refusal) (c : Carried) → Small why → SmallRecording (unanswered z why c)
small_carried z why (Rounds R) h = tt
small_carried z why (Place at) h = h
small_carried z why Nothing h = h
small_carried z why (Fault fault) h = h
small_carried z why (Span span) h = h

small_of : (z : Sizes) (a : Result Solved Refusal) (plan y : List ℤ) → SmallSolved a → SmallRecording (record_of z a plan y)
small_of z (Ok (solved.Proved rounds gap first)) plan y h = tt
small_of z (Ok (solved.Impossible rounds)) plan y h = tt
small_of z (Err why) plan y h = small_carried z why (row why).carries h

small_recording : (s : List ℕ) → Bytes s → SmallRecording (recording s)
unfolding recording
small_recording s b =
    let t = (reading s).tape in
    let plan = zeros (plan_numbers t) in
    let y = zeros (multiplier_numbers t) in
    let e = solving.solving s plan y in
    small_of (sizes_of t) (solving.answer_of t e) (solving.plan_left e plan) (solving.multipliers_left e y) (small_solved s plan y b)

small_at : (s : List ℕ) → Bytes s → (laboratory service : ℕ) → SmallRecording (recorded_at s laboratory service)
unfolding recorded_at
small_at s b laboratory service = go (reading s).answer (small_read s)
  where
    wrong : Bool
    wrong = wrong_lengths (sizes_of (reading s).tape) laboratory service

    go : (a : Answer) → SmallRead a → SmallRecording (after_read a (cond wrong (Refused Length) (recording s)))
    go answer.Accepted h = by_test SmallRecording wrong (λ _. omega arith) (λ _. small_recording s b)
    go (answer.Refused why) h = h

small_answer : (r : Recording) → SmallRecording r → SmallErr (answer_of r)
small_answer (Kept r) h = tt
small_answer (Refused why) h = h

pub small_recorded : (s : List ℕ) → Bytes s → (laboratory service : ℕ) → SmallErr (answer_of (recorded_at s laboratory service))
small_recorded s b laboratory service = small_answer (recorded_at s laboratory service) (small_at s b laboratory service)
