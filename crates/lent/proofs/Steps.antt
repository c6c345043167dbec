-- The walk along a plan: the first failure, what has passed, the padded places that are filled, and a whole step.
use Prim.Native.Nat.{ℕ, zero, suc, ◌+◌, ◌*◌, ◌<◌, ◌≤◌}
use mathlib.Core.Path.{◌≡◌, refl, sym, ◌∙◌, ap, ap₂}
use mathlib.Core.Bool.{Bool, true, false, cond}
use mathlib.Core.Logic.{⊎_elim}
use mathlib.Core.List.{List}
use native.Mathlib.Numerals.{add-one}
use native.Mathlib.Omega.{arith}
use lib.IntN.{ℤ, nat_abs}
use lib.Signed.{lt_z}
use Rattle.std.specs.Prelude.{Result, Ok, Err, MatchResult, IsErrAnd, OnOk}
use Rattle.integer.specs.Order.{◌≼◌}
use Rattle.integer.specs.Places.{at, Bounded, Stretch}
use Rattle.integer.proofs.Order.{order}
use Rattle.integer.proofs.Places.{lt_or_le, stretch_bounded, stretch_cong}
use Rattle.integer.proofs.Tests.{not_less, not_outside, range_size}
use Rattle.commands.specs.Ranges.{most_number}
use Rattle.tape.specs.declared.Tape.{Tape}
use Rattle.tape.specs.declared.refusal.Fault.{Fault}
use Rattle.tape.specs.declared.refusal.Refusal.{Refusal}
use Rattle.tape.specs.declared.refusal.Refusal.TheVariants.{OverLimit}
use Rattle.tape.specs.Legal.{Legal}
use Rattle.problem.specs.declared.Term.{Term}
use Rattle.problem.specs.Model.{problem_of, plan_of, sum_at}
use Rattle.primal.specs.Padded.{term_at}
use Rattle.primal.specs.Terms.{TermsOf}
use Rattle.primal.specs.Held.{HeldPlan}
use Rattle.primal.proofs.ModelSizes.{model_at}
use Rattle.primal.proofs.Padding.{model_padded}
use Rattle.primal.proofs.HeldSteps.{model_held, held_next}
use Rattle.lent.specs.Checks.{or_else, first, tested, refused_as, limits, meets, state_check, step_check}

-- ---- The first failure

pub first-none : (f : ℕ → Result (Unit {0}) Refusal) → first 0 f ≡ Ok tt
unfolding first
first-none f = refl

pub first-passed : (n : ℕ) (f : ℕ → Result (Unit {0}) Refusal) → first n f ≡ Ok tt → f n ≡ Ok tt → first (n + 1) f ≡ Ok tt
unfolding first
first-passed n f e d = ap (λ (k : ℕ). first k f) (add-one n) ∙ ap₂ or_else e d

pub first-failed : {why : Refusal} (i n : ℕ) (f : ℕ → Result (Unit {0}) Refusal) → i < n → first i f ≡ Ok tt → f i ≡ Err why → first n f ≡ Err why
unfolding first
first-failed i zero f h e d = let z : ⊥ = omega arith in absurd z
first-failed i (suc n) f h e d =
    ⊎_elim (λ l. ap (λ (c : Result (Unit {0}) Refusal). or_else c (f n)) (first-failed i n f l e d)) (λ l. let q : n ≡ i = omega arith in rw q (ap₂ or_else e d))
    (lt_or_le i n)

first_cong : (n : ℕ) (f g : ℕ → Result (Unit {0}) Refusal) → ((j : ℕ) → j < n → f j ≡ g j) → first n f ≡ first n g
unfolding first
first_cong zero f g h = refl
first_cong (suc n) f g h = ap₂ or_else (first_cong n f g (λ j p. h j (omega arith))) (h n (omega arith))

pub both_passed : (c d : Result (Unit {0}) Refusal) → or_else c d ≡ Ok tt → (c ≡ Ok tt) × (d ≡ Ok tt)
both_passed (Ok tt) d e = (refl, e)
both_passed (Err why) d e = cc

pub first-each : (n : ℕ) (f : ℕ → Result (Unit {0}) Refusal) → first n f ≡ Ok tt → (j : ℕ) → j < n → f j ≡ Ok tt
unfolding first
first-each zero f e j h = let z : ⊥ = omega arith in absurd z
first-each (suc n) f e j h =
    let b = both_passed (first n f) (f n) e in
    ⊎_elim (λ l. first-each n f b.0 j l) (λ l. let q : j ≡ n = omega arith in rw q b.1) (lt_or_le j n)

pub first_all : (n : ℕ) (f : ℕ → Result (Unit {0}) Refusal) → ((j : ℕ) → j < n → f j ≡ Ok tt) → first n f ≡ Ok tt
unfolding first
first_all zero f h = refl
first_all (suc n) f h = ap₂ or_else (first_all n f (λ j l. h j (omega arith))) (h n (omega arith))

-- ---- The refusal of a fault, as `map_err` makes it

pub refused_is : (refusal : Fault → Refusal) (t : Result (Unit {0}) Fault) (r : Result (Unit {0}) Refusal) →
    MatchResult t (λ u. r ≡ Ok u) (λ fault. IsErrAnd r (λ why. why ≡ refusal fault)) → r ≡ refused_as refusal t
refused_is refusal (Ok tt) r h = h
refused_is refusal (Err fault) (Ok tt) h = absurd h
refused_is refusal (Err fault) (Err why) h = ap Err h

-- ---- What has passed lies within its limits, and so is no larger than they are

passed_test : (refusal : Fault → Refusal) (test : Bool) (fault : Fault) (c : Result (Unit {0}) Fault) → refused_as refusal (cond test (Err fault) c) ≡ Ok tt →
    (test ≡ false) × (refused_as refusal c ≡ Ok tt)
passed_test refusal true fault c e = cc
passed_test refusal false fault c e = (refl, e)

module _ (refusal : Fault → Refusal) (k c : ℕ) (lo hi v : ℤ) where
  pub passed-within : refused_as refusal (tested k c lo hi v) ≡ Ok tt → (lo ≼ v) × (v ≼ hi)
  unfolding tested
  passed-within e =
      let l = passed_test refusal (lt_z v lo) _ _ e in
      let h = passed_test refusal (lt_z hi v) _ _ l.1 in
      omega (arith, order)

  pub within-passed : (lo ≼ v) × (v ≼ hi) → refused_as refusal (tested k c lo hi v) ≡ Ok tt
  unfolding tested
  within-passed h = rw (not_less v lo h.0, not_less hi v h.1)

  passed-size : {B : ℕ} → nat_abs lo ≤ B → nat_abs hi ≤ B → refused_as refusal (tested k c lo hi v) ≡ Ok tt → nat_abs v ≤ B
  passed-size l h e = range_size lo hi v l h (not_outside lo hi v (passed-within e))

pub state-size : (k i : ℕ) (S lo hi v : ℤ) {B : ℕ} → nat_abs lo ≤ B → nat_abs hi ≤ B → state_check k i S lo hi v ≡ Ok tt → nat_abs v ≤ B
unfolding state_check
state-size k i S lo hi v l h e = passed-size OverLimit k i lo hi v l h (both_passed (meets k i S v) (limits k i lo hi v) e).1

-- ---- What the two loops of a step test

-- place j of the inputs, and place i of the states, of step k
abbrev pub input_check_at : List Term → List ℤ → ℕ → ℕ → ℕ → ℕ → Result (Unit {0}) Refusal
input_check_at terms plan from n k j = let a = term_at terms (10 * k + j) in limits k (n + j) a.low a.high (at plan (from + j))

abbrev pub state_check_at : List ℤ → List ℤ → List ℤ → List ℤ → List Term → List ℤ → List ℤ → ℕ → ℕ → ℕ → Result (Unit {0}) Refusal
state_check_at a b drift start terms plan v from k i =
    let term = term_at terms (10 * k + (4 + i)) in state_check k i (model_at a b drift start v k i) term.low term.high (at plan (from + i))

-- all of them, for a tape and a plan l
abbrev pub inputs_check : Tape → List Term → List ℤ → ℕ → Result (Unit {0}) Refusal
inputs_check t terms l k = first t.m (input_check_at terms l (k * (t.n + t.m)) t.n k)

abbrev pub states_check : Tape → List Term → List ℤ → List ℤ → ℕ → Result (Unit {0}) Refusal
states_check t terms l w k = first t.n (state_check_at t.a t.b t.drift t.start terms l w (k * (t.n + t.m) + t.m) k)

-- the tests by the tables are the tape's
module _ {t : Tape} {table : List Term} (legal : Legal t) (terms : TermsOf t table)
    {k : ℕ} (early : k < 12) (l : List ℤ) where
  inputs_checked : first t.m (λ j. limits k (t.n + j) ((problem_of t).input_term k j).low ((problem_of t).input_term k j).high ((plan_of t.n t.m l).u k j))
      ≡ inputs_check t table l k
  inputs_checked =
      first_cong t.m _ _ (λ j h. ap (λ (a : Term). limits k (t.n + j) a.low a.high ((plan_of t.n t.m l).u k j)) (sym (terms.input k j early h)))

  pub step-failed : {why : Refusal} → inputs_check t table l k ≡ Err why → step_check (problem_of t) (plan_of t.n t.m l) k ≡ Err why
  unfolding step_check
  step-failed e = ap₂ or_else (inputs_checked ∙ e) refl

  -- once the inputs have passed
  module _ {v w : List ℤ} (held : HeldPlan t.n t.m k (plan_of t.n t.m l) v) (passed : inputs_check t table l k ≡ Ok tt)
      (inputs : Stretch (10 * k) t.m ((plan_of t.n t.m l).u k) v w) where
    pub inputs-bounded : Bounded most_number w
    inputs-bounded =
        stretch_bounded held.bounded
        (λ j h. let p = 10 * k + j in
        let g = terms.tables.each p (omega arith) in
        passed-size OverLimit k (t.n + j) (term_at table p).low (term_at table p).high ((plan_of t.n t.m l).u k j) g.low g.high (first-each t.m _ passed j h))
        inputs

    state_checked : (i : ℕ) → i < t.n →
        state_check k i (sum_at (problem_of t) (plan_of t.n t.m l) k i) (at t.low i) (at t.high i) ((plan_of t.n t.m l).x k i)
        ≡ state_check_at t.a t.b t.drift t.start table l w (k * (t.n + t.m) + t.m) k i
    state_checked i h =
        let e : k * (t.n + t.m) + t.m + i ≡ k * (t.n + t.m) + (t.m + i) = omega arith in
        rw e
        (sym
        (ap₂ (λ (S : ℤ) (a : Term). state_check k i S a.low a.high ((plan_of t.n t.m l).x k i))
        (model_padded t legal _ _ i ∙ model_held (legal.states.1, legal.inputs.1) held inputs _ _ _ _ i)
        (terms.state k i early h)))

    pub step-states : step_check (problem_of t) (plan_of t.n t.m l) k ≡ states_check t table l w k
    unfolding step_check
    step-states = ap₂ or_else (inputs_checked ∙ passed) (first_cong t.n _ _ state_checked)

    pub held_where : (z : List ℤ) (r : Result (Unit {0}) Refusal) → r ≡ states_check t table l w k →
        OnOk r (Stretch (10 * k + 4) t.n (λ i. at l (k * (t.n + t.m) + t.m + i)) w z) → OnOk r (HeldPlan t.n t.m (k + 1) (plan_of t.n t.m l) z)
    held_where z (Ok tt) e states =
        held_next (legal.states.1, legal.inputs.1) held inputs
        (stretch_cong states (λ i h. let e : k * (t.n + t.m) + t.m + i ≡ k * (t.n + t.m) + (t.m + i) = omega arith in ap (at l) e))
        (stretch_bounded inputs-bounded
        (λ i h. let p = 10 * k + (4 + i) in
        let g = terms.tables.each p (omega arith) in
        state-size k i _ (term_at table p).low (term_at table p).high (at l (k * (t.n + t.m) + t.m + i)) g.low g.high (first-each t.n _ (sym e) i h))
        states)
    held_where z (Err why) e states = tt
