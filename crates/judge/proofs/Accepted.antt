-- Demand 3 over the definitions: what the judges answer is backed.
use Prim.Native.Nat.{ℕ, ◌+◌, ◌*◌, ◌<◌}
use mathlib.Core.Path.{◌≡◌, refl, ap₂}
use mathlib.Core.Bool.{◌||◌}
use mathlib.Core.List.{List, [], ◌∷◌}
use native.Mathlib.Omega.{arith}
use borrow.Author.Tests.{eqb-true, not-false}
use lib.ListN.{length}
use lib.IntN.{ℤ}
use lib.Signed.{lt_z}
use Rattle.std.specs.Prelude.{Result, Ok, Err}
use Rattle.integer.proofs.Order.{order}
use Rattle.integer.proofs.Operand.{Bytes}
use Rattle.integer.proofs.Tests.{by_test, none}
use Rattle.tape.specs.declared.refusal.Refusal.{Refusal}
use Rattle.tape.specs.declared.refusal.Refusal.TheVariants.{OffModel, OverLimit}
use Rattle.tape.specs.Answer.{Answer}
use Rattle.tape.specs.Answer as answer
use Rattle.tape.specs.declared.Tape.{Tape}
use Rattle.tape.specs.Legal.{Legal}
use Rattle.tape.specs.Reading.{reading}
use Rattle.tape.proofs.Facts.{legal}
use Rattle.problem.specs.Model.{Problem, Plan, problem_of, plan_of, multipliers_of, sum_at, rounded}
use Rattle.problem.specs.Cost.{Within, Follows, cost_of}
use Rattle.problem.specs.Dual.{floor_of, gap_of, shows}
use Rattle.problem.proofs.Duality.{gap-below_rivals, impossible}
use Rattle.lent.specs.Checks.{or_else, first, meets, state_check, input_check_of, state_check_of, step_check, plan_check, wrong_multipliers, wrong_plan_length, wrong_multipliers_length}
use Rattle.lent.proofs.Steps.{both_passed, first-each, first_all, passed-within, within-passed}
use Rattle.judge.specs.Judging.{gap_within, after_check, judged_on, judged_after_read, shown_on, shown_after_read}
use Rattle.judge.specs.Judging as judging
use Rattle.judge.specs.Demand.{Backed, Founded}

-- ---- A plan that passed follows the tape

pub meets_model : (k i : ℕ) (S v : ℤ) → meets k i S v ≡ Ok tt → v ≡ rounded S
meets_model k i S v e = let h = passed-within OffModel k i (rounded S) (rounded S) v e in omega (arith, order)

model_meets : (k i : ℕ) (S v : ℤ) → v ≡ rounded S → meets k i S v ≡ Ok tt
model_meets k i S v e = within-passed OffModel k i (rounded S) (rounded S) v (omega (arith, order), omega (arith, order))

module _ (q : Problem) (v : Plan) where
  pub input-passed : (k j : ℕ) → input_check_of q v k j ≡ Ok tt → Within (q.input_term k j) (v.u k j)
  input-passed k j e = passed-within OverLimit k (q.n + j) _ _ (v.u k j) e

  pub state-passed : (k i : ℕ) → state_check_of q v k i ≡ Ok tt → (v.x k i ≡ rounded (sum_at q v k i)) × Within (q.state_term k i) (v.x k i)
  unfolding state_check
  state-passed k i e =
      let b = both_passed _ _ e in
      (meets_model k i (sum_at q v k i) (v.x k i) b.0, passed-within OverLimit k i _ _ (v.x k i) b.1)

  pub step-passed : (k : ℕ) → step_check q v k ≡ Ok tt → (first q.m (input_check_of q v k) ≡ Ok tt) × (first q.n (state_check_of q v k) ≡ Ok tt)
  unfolding step_check
  step-passed k e = both_passed _ _ e

  pub follows : plan_check q v ≡ Ok tt → Follows q v
  unfolding plan_check
  follows e = record {
    inputs-within = λ k j h l. input-passed k j (first-each q.m (input_check_of q v k) (step k h).0 j l);
    states_meet = λ k i h l. (state-passed k i (first-each q.n (state_check_of q v k) (step k h).1 i l)).0;
    states-within = λ k i h l. (state-passed k i (first-each q.n (state_check_of q v k) (step k h).1 i l)).1;
  }
    where
      step : (k : ℕ) → k < q.horizon → (first q.m (input_check_of q v k) ≡ Ok tt) × (first q.n (state_check_of q v k) ≡ Ok tt)
      step k h = step-passed k (first-each q.horizon (step_check q v) e k h)

  -- and a plan that follows the tape passes
  pub passes : Follows q v → plan_check q v ≡ Ok tt
  unfolding plan_check step_check state_check
  passes f =
      first_all q.horizon (step_check q v)
      (λ k h. ap₂ or_else (first_all q.m (input_check_of q v k) (λ j l. within-passed OverLimit k (q.n + j) _ _ (v.u k j) (f.inputs-within k j h l)))
      (first_all q.n (state_check_of q v k)
      (λ i l. ap₂ or_else (model_meets k i (sum_at q v k i) (v.x k i) (f.states_meet k i h l))
      (within-passed OverLimit k i _ _ (v.x k i) (f.states-within k i h l)))))

-- ---- Judging a plan

module _ (t : Tape) (ok : Legal t) (plan y : List ℤ) where
  abbrev v : Plan
  v = plan_of t.n t.m plan

  backed_check : (c : Result (Unit {0}) Refusal) → plan_check (problem_of t) v ≡ c → length plan ≡ t.horizon * (t.n + t.m) →
      Backed (after_check c (gap_within t (cost_of t plan) (floor_of t y))) t plan y
  unfolding gap_within
  backed_check (Ok tt) e l =
      by_test (λ j. Backed j t plan y) (lt_z t.wanted (gap_of t plan y)) (λ _. tt)
      (λ _. record { itself = record { long = l; follows = follows (problem_of t) v e }; reported = refl; bound = λ D rival r. gap-below_rivals t ok D rival r plan y })
  backed_check (Err why) e l = tt

  backed_on : Backed (judged_on t plan y) t plan y
  unfolding judged_on
  backed_on =
      by_test (λ j. Backed j t plan y) (wrong_plan_length t plan || wrong_multipliers_length t y) (λ _. tt)
      (λ e. by_test (λ j. Backed j t plan y) (wrong_multipliers y) (λ _. tt)
      (λ _. backed_check (plan_check (problem_of t) v) refl
      (eqb-true _ _ (not-false _ (none (wrong_plan_length t plan) (wrong_multipliers_length t y ∷ []) e).0))))

-- ---- Judging multipliers

founded_on : (t : Tape) (ok : Legal t) (y : List ℤ) → Founded (shown_on t y) t
unfolding shown_on
founded_on t ok y =
    by_test (λ j. Founded j t) (wrong_multipliers_length t y) (λ _. tt)
    (λ _. by_test (λ j. Founded j t) (wrong_multipliers y) (λ _. tt)
    (λ _. by_test (λ j. Founded j t) (shows (problem_of t) (multipliers_of t.n y))
    (λ e. record { none = λ D rival r. impossible t ok D rival r y e }) (λ _. tt)))

-- ---- The answers of the calls

pub backed : (s : List ℕ) (plan y : List ℤ) → Bytes s → Backed (judging.judged s plan y) (reading s).tape plan y
unfolding judging.judged
backed s plan y b = go (reading s).answer refl
  where
    go : (a : Answer) → (reading s).answer ≡ a → Backed (judged_after_read a (judged_on (reading s).tape plan y)) (reading s).tape plan y
    go answer.Accepted e = backed_on (reading s).tape (legal s b e) plan y
    go (answer.Refused why) e = tt

pub founded : (s : List ℕ) (y : List ℤ) → Bytes s → Founded (judging.shown s y) (reading s).tape
unfolding judging.shown
founded s y b = go (reading s).answer refl
  where
    go : (a : Answer) → (reading s).answer ≡ a → Founded (shown_after_read a (shown_on (reading s).tape y)) (reading s).tape
    go answer.Accepted e = founded_on (reading s).tape (legal s b e) y
    go (answer.Refused why) e = tt

-- both clauses of the promise from the first
pub multipliers_promise : (s : List ℕ) (y : List ℤ) {r : Result (Unit {0}) Refusal} → Bytes s → r ≡ judging.shown s y →
    (r ≡ judging.shown s y) × Founded r (reading s).tape
multipliers_promise s y b e = (e, rw e (founded s y b))
