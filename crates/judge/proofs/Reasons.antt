-- What 10, 11 and 13 carry is the true reason.
use Prim.Native.Nat.{ℕ, zero, suc, ◌+◌, ◌-◌, ◌*◌, ◌<◌, ◌≤◌}
use mathlib.Core.Path.{◌≡◌, refl, sym, ◌∙◌, ap}
use mathlib.Core.Bool.{◌||◌}
use mathlib.Core.List.{List}
use mathlib.Core.Logic.{◌⊎◌, inl, inr, ⊎_elim}
use native.Mathlib.Omega.{arith}
use borrow.Author.Tests.{lt-ltb, le-ltb}
use lib.IntN.{ℤ, ◌-ℤ◌}
use lib.Signed.{lt_z}
use Rattle.std.specs.Prelude.{Result, Ok, Err}
use Rattle.integer.specs.Order.{◌≼◌}
use Rattle.integer.specs.Places.{at}
use Rattle.integer.proofs.Order.{order}
use Rattle.integer.proofs.Operand.{Bytes}
use Rattle.integer.proofs.Places.{earlier_step}
use Rattle.integer.proofs.Tests.{by_test}
use Rattle.tape.specs.Answer.{Answer}
use Rattle.tape.specs.Answer as answer
use Rattle.tape.specs.declared.Tape.{Tape}
use Rattle.tape.specs.declared.refusal.Fault.{Fault}
use Rattle.tape.specs.declared.refusal.Span.{Span}
use Rattle.tape.specs.declared.refusal.Refusal.{Refusal}
use Rattle.tape.specs.declared.refusal.Refusal.TheVariants.{OffModel, OverLimit, Wide}
use Rattle.tape.specs.Reading.{reading}
use Rattle.tape.specs.Refusals.{row}
use Rattle.tape.proofs.Offsets.{bounds}
use Rattle.problem.specs.Model.{Problem, Plan, problem_of, input_place, state_place, plan_of, sum_at, state_at, rounded}
use Rattle.problem.specs.Cost.{Follows, cost_of}
use Rattle.problem.specs.Dual.{floor_of}
use Rattle.problem.proofs.Congruence.{model_cong}
use Rattle.lent.specs.Checks.{first, input_check_of, state_check_of, step_check, plan_check, wrong_multipliers, wrong_plan_length, wrong_multipliers_length}
use Rattle.lent.proofs.Steps.{first-each}
use Rattle.lent.proofs.Faults.{either_failed, first_found, Strayed, strayed, state-failed}
use Rattle.judge.specs.Judging.{gap_within, after_check, judged_on, judged_after_read, judged}
use Rattle.judge.specs.Demand.{Backed}
use Rattle.judge.specs.Reasons.{place_of, SameBefore, FollowsBefore, FirstFault, OffTheModel, OverTheLimit, TooWide, Reasoned}
use Rattle.judge.proofs.Accepted.{meets_model, input-passed, state-passed, step-passed, follows, backed}

-- S is formed from the numbers before its state
sum_same : (t : Tape) (k i : ℕ) (a b : List ℤ) → SameBefore (state_place t.n t.m k i) a b →
    sum_at (problem_of t) (plan_of t.n t.m a) k i ≡ sum_at (problem_of t) (plan_of t.n t.m b) k i
unfolding state_at
sum_same t k i a b h = model_cong t.n t.m _ _ _ _ _ _ _ i (states k h) (λ j l. h (input_place t.n t.m k j) (omega arith))
  where
    states : (k : ℕ) → SameBefore (state_place t.n t.m k i) a b → (j : ℕ) → j < t.n →
        state_at (at t.start) (plan_of t.n t.m a).x k j ≡ state_at (at t.start) (plan_of t.n t.m b).x k j
    states zero h j l = refl
    states (suc k) h j l = h (state_place t.n t.m k j) (omega arith)

-- ---- What passed before a failure

-- the first k steps have passed, and of step k the first j inputs and the first i states, which come behind all inputs
module _ (q : Problem) (v : Plan) (k j i : ℕ) (below : j + i < q.n + q.m) (inputs-first : (i ≡ 0) ⊎ (j ≡ q.m)) (few : j ≤ q.m)
    (steps : first k (step_check q v) ≡ Ok tt) (inputs : first j (input_check_of q v k) ≡ Ok tt) (states : first i (state_check_of q v k) ≡ Ok tt) where
  step_before : (l : ℕ) → l < k → (first q.m (input_check_of q v l) ≡ Ok tt) × (first q.n (state_check_of q v l) ≡ Ok tt)
  step_before l e = step-passed q v l (first-each k (step_check q v) steps l e)

  input_before : (l a : ℕ) → a < q.m → input_place q.n q.m l a < k * (q.n + q.m) + (j + i) → input_check_of q v l a ≡ Ok tt
  input_before l a h p =
      ⊎_elim (λ e. first-each q.m (input_check_of q v l) (step_before l e).0 a h)
      (λ e. let u : a < j = ⊎_elim (λ z. omega (arith, e.1)) (λ z. omega arith) inputs-first in rw e.0 (first-each j (input_check_of q v k) inputs a u))
      (earlier_step (q.n + q.m) l a k (j + i) below p)

  state_before : (l a : ℕ) → a < q.n → state_place q.n q.m l a < k * (q.n + q.m) + (j + i) → state_check_of q v l a ≡ Ok tt
  state_before l a h p =
      ⊎_elim (λ e. first-each q.n (state_check_of q v l) (step_before l e).1 a h)
      (λ e. rw e.0 (first-each i (state_check_of q v k) states a (omega (arith, e.1))))
      (earlier_step (q.n + q.m) l (q.m + a) k (j + i) below p)

  follows_before : FollowsBefore (k * (q.n + q.m) + (j + i)) q v
  follows_before = record {
    inputs-within = λ l a _ h p. input-passed q v l a (input_before l a h p);
    states_meet = λ l a _ h p. (state-passed q v l a (state_before l a h p)).0;
    states-within = λ l a _ h p. (state-passed q v l a (state_before l a h p)).1;
  }

-- ---- Each answer with its reason

number_of : Result ℤ Refusal → ℕ
number_of (Ok gap) = 0
number_of (Err why) = (row why).number

module _ (s : List ℕ) (plan y : List ℤ) where
  -- any other answer than 10, 11 and 13
  other_reasoned : (a : Result ℤ Refusal) → (number_of a ≡ 10 → ⊥) → (number_of a ≡ 11 → ⊥) → (number_of a ≡ 13 → ⊥) → Reasoned a s plan y
  unfolding number_of
  other_reasoned a no-10 no-11 no-13 = record {
    off_model = λ fault e. absurd (no-10 (ap number_of e));
    over_limit = λ fault e. absurd (no-11 (ap number_of e));
    wide = λ span e. absurd (no-13 (ap number_of e));
  }

  off_model_reasoned : (fault : Fault) → OffTheModel s (reading s).tape plan fault → Reasoned (Err (OffModel fault)) s plan y
  unfolding number_of
  off_model_reasoned fault h = record {
    off_model = λ f e. let same : f ≡ fault = cc in rw same h;
    over_limit = λ f e. let z = ap number_of e in absurd (omega (arith, z));
    wide = λ f e. let z = ap number_of e in absurd (omega (arith, z));
  }

  over_limit_reasoned : (fault : Fault) → OverTheLimit s (reading s).tape plan fault → Reasoned (Err (OverLimit fault)) s plan y
  unfolding number_of
  over_limit_reasoned fault h = record {
    off_model = λ f e. let z = ap number_of e in absurd (omega (arith, z));
    over_limit = λ f e. let same : f ≡ fault = cc in rw same h;
    wide = λ f e. let z = ap number_of e in absurd (omega (arith, z));
  }

  wide_reasoned : (span : Span) → TooWide (reading s).tape plan y span → Reasoned (Err (Wide span)) s plan y
  unfolding number_of
  wide_reasoned span h = record {
    off_model = λ f e. let z = ap number_of e in absurd (omega (arith, z));
    over_limit = λ f e. let z = ap number_of e in absurd (omega (arith, z));
    wide = λ f e. let same : f ≡ span = cc in rw same h;
  }

-- ---- The fault of one number

-- a number that strayed is not within its limits, in whichever list it stands
strayed_outside : {refusal : Fault → Refusal} {k c : ℕ} {lo hi v w : ℤ} {why : Refusal} → Strayed refusal k c lo hi v why → w ≡ v → (lo ≼ w) × (w ≼ hi) → ⊥
strayed_outside r e h = ⊎_elim (λ d. omega (arith, order)) (λ d. omega (arith, order)) r.side

module _ (s : List ℕ) (bytes : Bytes s) (plan y : List ℤ) where
  abbrev t : Tape
  t = (reading s).tape

  abbrev q : Problem
  q = problem_of t

  abbrev planned : List ℤ → Plan
  planned = plan_of t.n t.m

  -- no list that follows the tape has the number at p behind those before it
  abbrev Alone : ℕ → Type 0
  Alone p = (other : List ℤ) → at other p ≡ at plan p → SameBefore p other plan → Follows q (planned other) → ⊥

  first_fault : (k c p : ℕ) (due : ℤ) → k < t.horizon → c < t.n + t.m → place_of t k c ≡ p → FollowsBefore p q (planned plan) → Alone p →
      FirstFault s t plan (record { step = k; column = c; found = at plan p; due = due })
  first_fault k c p due h l e earlier alone = record {
    step = h;
    column = l;
    found = ap (at plan) (sym e);
    earlier = rw e earlier;
    no_gap = record {
      none = λ other z same gap g.
          let same-p : SameBefore (p + 1) other plan = rw e at same in
          alone other (same-p p (omega arith)) (λ r u. same-p r (omega arith)) (rw g at (backed s other z bytes)).itself.follows;
    };
  }

  input_place_lem : (k j : ℕ) → place_of t k (t.n + j) ≡ input_place t.n t.m k j
  input_place_lem k j = let e : t.n + j - t.n ≡ j = omega arith in rw (le-ltb (t.n + j) t.n (omega arith), e)

  state_place_lem : (k i : ℕ) → i < t.n → place_of t k i ≡ state_place t.n t.m k i
  state_place_lem k i h = rw (lt-ltb i t.n h)

  abbrev v : Plan
  v = planned plan

  input_reason : {why : Refusal} (k j : ℕ) → k < t.horizon → j < t.m → first k (step_check q v) ≡ Ok tt → first j (input_check_of q v k) ≡ Ok tt →
      input_check_of q v k j ≡ Err why → Reasoned (Err why) s plan y
  unfolding first
  input_reason k j h l steps inputs e =
      let r = strayed OverLimit k (t.n + j) _ _ (v.u k j) e in
      let last : j + 0 ≡ j = omega arith in
      let earlier = rw last at (follows_before q v k j 0 (omega arith) (inl refl) (omega arith) steps inputs refl) in
      rw r.is
      (over_limit_reasoned s plan y _
      (record {
        first =
            first_fault k (t.n + j) (input_place t.n t.m k j) r.due h (omega arith) (input_place_lem k j) earlier
            (λ other e _ f. strayed_outside r e (f.inputs-within k j h l));
        passed = r.side;
        meets = λ state. let z : ⊥ = omega arith in absurd z;
      }))

  -- of a state whose inputs have passed
  module _ (k i : ℕ) (h : k < t.horizon) (l : i < t.n) (steps : first k (step_check q v) ≡ Ok tt) (inputs : first t.m (input_check_of q v k) ≡ Ok tt)
      (states : first i (state_check_of q v k) ≡ Ok tt) where
    abbrev place : ℕ
    place = state_place t.n t.m k i

    state_fault : (due : ℤ) → Alone place → FirstFault s t plan (record { step = k; column = i; found = v.x k i; due = due })
    state_fault due alone =
        first_fault k i place due h (omega arith) (state_place_lem k i l) (follows_before q v k t.m i (omega arith) (inr refl) (omega arith) steps inputs states) alone

    state_limit_reason : {why : Refusal} → v.x k i ≡ rounded (sum_at q v k i) → Strayed OverLimit k i (at t.low i) (at t.high i) (v.x k i) why →
        Reasoned (Err why) s plan y
    state_limit_reason model r =
        rw r.is
        (over_limit_reasoned s plan y _
        (record {
          first = state_fault r.due (λ other e _ f. strayed_outside r e (f.states-within k i h l));
          passed = r.side;
          meets = λ _. model;
        }))

    model_reason : {why : Refusal} → Strayed OffModel k i (rounded (sum_at q v k i)) (rounded (sum_at q v k i)) (v.x k i) why → Reasoned (Err why) s plan y
    model_reason r =
        rw r.is
        (off_model_reasoned s plan y _
        (record {
          first = state_fault r.due (λ other e same f. differs (sym e ∙ f.states_meet k i h l ∙ sym (due other same)));
          state = l;
          due = λ other same. due other (rw (state_place_lem k i l) at same);
          differs = differs;
        }))
      where
        due : (other : List ℤ) → SameBefore place other plan → r.due ≡ rounded (sum_at q (planned other) k i)
        due other same = ⊎_elim (λ d. d.0) (λ d. d.0) r.side ∙ ap rounded (sym (sum_same t k i other plan same))

        differs : v.x k i ≡ r.due → ⊥
        differs e = ⊎_elim (λ d. omega (arith, order, d.1)) (λ d. omega (arith, order, d.1)) r.side

    state_reason : {why : Refusal} → state_check_of q v k i ≡ Err why → Reasoned (Err why) s plan y
    state_reason e =
        ⊎_elim (λ model. model_reason (strayed OffModel k i _ _ (v.x k i) model))
        (λ limit. state_limit_reason (meets_model k i (sum_at q v k i) (v.x k i) limit.0) (strayed OverLimit k i _ _ (v.x k i) limit.1))
        (state-failed k i _ _ _ (v.x k i) e)

  plan_reason : {why : Refusal} → plan_check q v ≡ Err why → Reasoned (Err why) s plan y
  unfolding plan_check step_check
  plan_reason e =
      let step = first_found t.horizon (step_check q v) e in
      let k = step.place in
      ⊎_elim (λ inputs. let input = first_found t.m (input_check_of q v k) inputs in
      input_reason k input.place step.below input.below step.before input.before input.failed)
      (λ states. let state = first_found t.n (state_check_of q v k) states.1 in
      state_reason k state.place step.below state.below step.before states.0 state.before state.failed)
      (either_failed _ _ step.failed)

  -- ---- All answers

  check_reason : (c : Result (Unit {0}) Refusal) → plan_check q v ≡ c → Reasoned (after_check c (gap_within t (cost_of t plan) (floor_of t y))) s plan y
  unfolding gap_within number_of
  check_reason (Ok tt) e =
      by_test (λ j. Reasoned j s plan y) (lt_z t.wanted (cost_of t plan -ℤ floor_of t y))
      (λ w. wide_reasoned s plan y _ (record { follows = follows q v e; cost = refl; floor = refl; above = omega (arith, order) }))
      (λ _. other_reasoned s plan y _ (λ z. omega arith) (λ z. omega arith) (λ z. omega arith))
  check_reason (Err why) e = plan_reason e

  judged_reason : Reasoned (judged_on t plan y) s plan y
  unfolding judged_on number_of
  judged_reason =
      by_test (λ j. Reasoned j s plan y) (wrong_plan_length t plan || wrong_multipliers_length t y)
      (λ _. other_reasoned s plan y _ (λ z. omega arith) (λ z. omega arith) (λ z. omega arith))
      (λ _. by_test (λ j. Reasoned j s plan y) (wrong_multipliers y)
      (λ _. other_reasoned s plan y _ (λ z. omega arith) (λ z. omega arith) (λ z. omega arith))
      (λ _. check_reason (plan_check q v) refl))

  pub reasoned : Reasoned (judged s plan y) s plan y
  unfolding judged number_of
  reasoned = go (reading s).answer refl
    where
      go : (a : Answer) → (reading s).answer ≡ a → Reasoned (judged_after_read a (judged_on t plan y)) s plan y
      go answer.Accepted e = judged_reason
      go (answer.Refused why) e =
          let other : (number : ℕ) → (8 < number) × (number < 18) → (row why).number ≡ number → ⊥ =
          λ number l z. ⊎_elim (λ small. omega arith) (λ last. omega arith) (rw e at (bounds s)).0 in
          other_reasoned s plan y _ (other 10 (omega arith)) (other 11 (omega arith)) (other 13 (omega arith))

-- all clauses of a judge's promise from the first
pub plan_promise : (s : List ℕ) (plan y : List ℤ) {r : Result ℤ Refusal} → Bytes s → r ≡ judged s plan y →
    (r ≡ judged s plan y) × (Backed r (reading s).tape plan y × Reasoned r s plan y)
plan_promise s plan y b e = (e, (rw e (backed s plan y b), rw e (reasoned s b plan y)))
