-- What a tape's record holds fits its places: the gap by the theorem and T, the plan by the limits.
use Prim.Native.Nat.{ℕ, ◌+◌, ◌-◌, ◌*◌, ◌/◌, ◌%◌, ◌<◌, ◌≤◌}
use mathlib.Core.Path.{◌≡◌}
use mathlib.Core.Bool.{false}
use mathlib.Core.List.{List}
use mathlib.Core.Logic.{⊎_elim}
use native.Mathlib.Omega.{arith}
use native.Mathlib.Nat.{div-add-mod, div-lt_iff_lt-mul, mod-lt}
use borrow.Author.Tests.{eqb-true, not-false}
use lib.IntN.{ℤ, nat_abs}
use Rattle.integer.specs.Order.{◌≼◌}
use Rattle.integer.specs.Places.{at, Bounded}
use Rattle.integer.proofs.Operand.{Bytes}
use Rattle.integer.proofs.Order.{order}
use Rattle.integer.proofs.Places.{lt_or_le, all_bounded}
use Rattle.integer.proofs.Sizes.{size_by, size_low, size-high}
use Rattle.integer.proofs.Tests.{by_test}
use Rattle.commands.specs.Ranges.{most_number, most_multiplier}
use Rattle.std.specs.Prelude.{Result, Ok, Err}
use Rattle.tape.specs.Answer.{Answer}
use Rattle.tape.specs.Answer as answer
use Rattle.tape.specs.declared.Tape.{Tape}
use Rattle.tape.specs.declared.refusal.Carried.{Carried}
use Rattle.tape.specs.declared.refusal.Carried.TheVariants.{Place, Nothing, Fault, Span, Rounds}
use Rattle.tape.specs.declared.refusal.Refusal.{Refusal}
use Rattle.tape.specs.Legal.{Legal}
use Rattle.tape.specs.Reading.{reading}
use Rattle.tape.specs.Refusals.{row, figure}
use Rattle.tape.specs.Tape.{zeros}
use Rattle.problem.specs.Model.{problem_of, multipliers_of}
use Rattle.problem.specs.Cost.{FollowsTape}
use Rattle.problem.specs.Dual.{shows}
use Rattle.lent.specs.Checks.{wrong_multipliers_length, wrong_multipliers}
use Rattle.lent.proofs.LentMultipliers.{multipliers_bounded}
use Rattle.judge.specs.Judging.{shown_on, shown_after_read}
use Rattle.judge.specs.Judging as judging
use Rattle.judge.proofs.Granted.{granted, gap_nonneg}
use Rattle.solver.specs.declared.Solved.{Solved}
use Rattle.solver.specs.declared.Solved.TheVariants.{Proved, Impossible}
use Rattle.solver.specs.Demand.{Upheld, JudgedAgain}
use Rattle.solver.specs.Solving.{solving, answer_of, plan_left, multipliers_left}
use Rattle.solver.proofs.Again.{judged_again, upheld}
use Rattle.solver.proofs.Small.{SmallSolved, small_solved}
use Rattle.solution.specs.Solution.{plan_numbers, multiplier_numbers}
use Rattle.solution.proofs.TapeSizes.{room}
use Rattle.records.specs.Held.{Numbers, Fitting}
use Rattle.recorder.specs.Held.{KeptFits}
use Rattle.recorder.specs.Recording.{sizes_of, unanswered, record_of, recording}

-- ---- A plan that follows the tape

-- its numbers lie within the limits, and so within the range of limits
plan_within : (t : Tape) → Legal t → (plan : List ℤ) → FollowsTape t plan → Bounded most_number plan
plan_within t ok plan r = all_bounded plan (t.horizon * (t.n + t.m)) r.long number
  where
    limited : (column : ℕ) (v : ℤ) → (at t.low column ≼ v) × (v ≼ at t.high column) → nat_abs v ≤ most_number
    limited column v h =
        size_by {z = v} (omega (arith, order, size_low (at t.low column) (ok.low.each column))) (omega (arith, order, size-high (at t.high column) (ok.high.each column)))

    number : (p : ℕ) → p < t.horizon * (t.n + t.m) → nat_abs (at plan p) ≤ most_number
    number p h =
        let w = t.n + t.m in
        let some : 0 < w = omega (arith, ok.states.0) in
        let k = p / w in
        let j = p % w in
        let below : k < t.horizon = (div-lt_iff_lt-mul some).1 (omega arith) in
        let e : p ≡ k * w + j = omega (arith, div-add-mod p w) in
        ⊎_elim (λ l. rw e (limited (t.n + j) (at plan (k * w + j)) (r.follows.inputs-within k j below l)))
        (λ l. let i = j - t.m in
        let f : p ≡ k * w + (t.m + i) = omega arith in
        rw f (limited i (at plan (k * w + (t.m + i))) (r.follows.states-within k i below (omega (arith, mod-lt p some)))))
        (lt_or_le j t.m)

-- ---- What 'shown' says

abbrev Multipliers : Tape → List ℤ → Type 0
Multipliers t y = Numbers (multiplier_numbers t) most_multiplier y

multipliers_within : (t : Tape) (y : List ℤ) → wrong_multipliers_length t y ≡ false → wrong_multipliers y ≡ false → Multipliers t y
multipliers_within t y l w = record { long = eqb-true _ _ (not-false _ l); within = multipliers_bounded y w }

abbrev OnShown : Tape → List ℤ → Result (Unit {0}) Refusal → Type 0
OnShown t y (Ok tt) = Multipliers t y
OnShown t y (Err why) = Unit {0}

on_shown : (s : List ℕ) (y : List ℤ) → OnShown (reading s).tape y (judging.shown s y)
unfolding judging.shown shown_on
on_shown s y = go (reading s).answer
  where
    t : Tape
    t = (reading s).tape

    go : (a : Answer) → OnShown t y (shown_after_read a (shown_on t y))
    go answer.Accepted =
        by_test (OnShown t y) (wrong_multipliers_length t y) (λ _. tt)
        (λ l. by_test (OnShown t y) (wrong_multipliers y) (λ _. tt)
        (λ w. by_test (OnShown t y) (shows (problem_of t) (multipliers_of t.n y)) (λ _. multipliers_within t y l w) (λ _. tt)))
    go (answer.Refused why) = tt

-- ---- The record

module _ (s : List ℕ) (b : Bytes s) where
  abbrev t : Tape
  t = (reading s).tape

  pub fitting : Fitting (sizes_of t)
  fitting = let r = room s b in record { states = r.states; inputs = r.inputs; steps = r.steps }

  open_fits : (why : Refusal) (c : Carried) → figure c ≤ 10000 → KeptFits (unanswered (sizes_of t) why c)
  open_fits why (Rounds R) h = record { sizes = fitting; rounds = h; outcome = tt }
  open_fits why (Place at) h = tt
  open_fits why Nothing h = tt
  open_fits why (Fault fault) h = tt
  open_fits why (Span span) h = tt

  answer_fits : (a : Result Solved Refusal) (plan y : List ℤ) → JudgedAgain a s plan y → Upheld a t plan y → SmallSolved a → KeptFits (record_of (sizes_of t) a plan y)
  answer_fits (Ok (Proved rounds gap first)) plan y j u h =
      let g = granted s plan y b gap j in
      let ok = g.lawful in
      let itself = u.0.itself in
      record {
        sizes = fitting;
        rounds = h;
        outcome = (
          ok.steps.0,
          gap_nonneg s plan y b gap j,
          omega (arith, order, ok.wanted.1, g.wanted),
          record { long = itself.long; within = plan_within t ok plan itself },
          record { long = g.long; within = multipliers_bounded y g.ranged },
        );
      }
  answer_fits (Ok (Impossible rounds)) plan y j u h = record { sizes = fitting; rounds = h; outcome = rw j at (on_shown s y) }
  answer_fits (Err why) plan y j u h = open_fits why (row why).carries h

  pub recording_fits : KeptFits (recording s)
  unfolding recording
  recording_fits =
      let plan = zeros (plan_numbers t) in
      let y = zeros (multiplier_numbers t) in
      let e = solving s plan y in
      answer_fits (answer_of t e) (plan_left e plan) (multipliers_left e y) (judged_again s plan y) (upheld s plan y b) (small_solved s plan y b)
