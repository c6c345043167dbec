-- What a gap says of what was judged, beside demand 3: the tape is legal, the multipliers have their length and their range, and the gap is
-- from 0 to T.
use Prim.Native.Nat.{ℕ, ◌*◌}
use mathlib.Core.Path.{◌≡◌, refl}
use mathlib.Core.Bool.{false, ◌||◌}
use mathlib.Core.List.{List, [], ◌∷◌}
use native.Mathlib.Omega.{arith}
use borrow.Author.Tests.{eqb-true, not-false}
use lib.ListN.{length}
use lib.IntN.{ℤ, pos, ◌-ℤ◌}
use lib.Signed.{lt_z}
use Rattle.std.specs.Prelude.{Result, Ok, Err}
use Rattle.integer.specs.Order.{◌≼◌}
use Rattle.integer.proofs.Operand.{Bytes}
use Rattle.integer.proofs.Order.{order}
use Rattle.integer.proofs.Parts.{minus}
use Rattle.integer.proofs.Tests.{by_test, none}
use Rattle.tape.specs.declared.refusal.Refusal.{Refusal}
use Rattle.tape.specs.Answer.{Answer}
use Rattle.tape.specs.Answer as answer
use Rattle.tape.specs.declared.Tape.{Tape}
use Rattle.tape.specs.Legal.{Legal}
use Rattle.tape.specs.Reading.{reading}
use Rattle.tape.proofs.Facts.{legal}
use Rattle.problem.specs.Model.{problem_of, plan_of}
use Rattle.problem.specs.Cost.{cost_of}
use Rattle.problem.specs.Dual.{floor_of}
use Rattle.lent.specs.Checks.{plan_check, wrong_plan_length, wrong_multipliers_length, wrong_multipliers}
use Rattle.judge.specs.Judging.{gap_within, after_check, judged_on, judged_after_read, judged}
use Rattle.judge.specs.Demand.{NoneCheaper}
use Rattle.judge.proofs.Accepted.{backed}
use Rattle.judge.proofs.Units.{in_whole_units}

pub record Granted (t : Tape) (y : List ℤ) (gap : ℤ) : Type 0 where
  pub lawful : Legal t
  pub long : length y ≡ t.horizon * t.n
  pub ranged : wrong_multipliers y ≡ false
  pub wanted : gap ≼ t.wanted

module _ (s : List ℕ) (plan y : List ℤ) (bytes : Bytes s) where
  abbrev t : Tape
  t = (reading s).tape

  abbrev OnGap : Result ℤ Refusal → Type 0
  OnGap (Ok gap) = Granted t y gap
  OnGap (Err why) = Unit {0}

  on_check : (c : Result (Unit {0}) Refusal) → Legal t → length y ≡ t.horizon * t.n → wrong_multipliers y ≡ false →
      OnGap (after_check c (gap_within t (cost_of t plan) (floor_of t y)))
  unfolding gap_within
  on_check (Ok tt) ok l w =
      by_test OnGap (lt_z t.wanted (cost_of t plan -ℤ floor_of t y)) (λ _. tt)
      (λ e. record { lawful = ok; long = l; ranged = w; wanted = omega (arith, order) })
  on_check (Err why) ok l w = tt

  on_gap : OnGap (judged s plan y)
  unfolding judged judged_on
  on_gap = go (reading s).answer refl
    where
      go : (a : Answer) → (reading s).answer ≡ a → OnGap (judged_after_read a (judged_on t plan y))
      go answer.Accepted e =
          by_test OnGap (wrong_plan_length t plan || wrong_multipliers_length t y) (λ _. tt)
          (λ l. by_test OnGap (wrong_multipliers y) (λ _. tt)
          (on_check (plan_check (problem_of t) (plan_of t.n t.m plan)) (legal s bytes e)
          (eqb-true _ _ (not-false _ (none (wrong_plan_length t plan) (wrong_multipliers_length t y ∷ []) l).1.0))))
      go (answer.Refused why) e = tt

  module _ (gap : ℤ) (is : judged s plan y ≡ Ok gap) where
    pub granted : Granted t y gap
    granted = rw is at on_gap

    pub accepted : NoneCheaper t plan y gap
    accepted = rw is at (backed s plan y bytes)

    -- the plan is a rival of its own
    pub gap_nonneg : pos 0 ≼ gap
    gap_nonneg = omega (arith, order, in_whole_units t plan gap y accepted plan accepted.itself, minus (cost_of t plan) gap)
