-- Storing a plan step by step at padded places: the inputs of a step, then its states, while S is formed from what stands there.
use Prim.Native.Nat.{ℕ, zero, suc, ◌+◌, ◌*◌, ◌<◌, ◌≤◌}
use mathlib.Core.Path.{◌≡◌, refl, ◌∙◌, ap}
use mathlib.Core.Logic.{inl, ⊎_elim}
use mathlib.Core.List.{List}
use native.Mathlib.Omega.{arith}
use lib.ListN.{length, replicate, length-replicate}
use lib.IntN.{ℤ, pos}
use Rattle.integer.specs.Places.{at, Bounded, Stretch}
use Rattle.integer.proofs.Places.{lt_or_le, zeros, stretch_beside}
use Rattle.commands.specs.Ranges.{most_number}
use Rattle.problem.specs.Model.{Plan, state_at, model_sum}
use Rattle.problem.proofs.Congruence.{model_cong}
use Rattle.primal.specs.Padded.{state_matrix, input_matrix, padded_plan}
use Rattle.primal.specs.Held.{BlankPlan, HeldPlan}
use Rattle.primal.proofs.ModelSizes.{model_at}

-- the states before step k are the start's, or those of the step before
pub states_before : {f g : ℕ → ℕ → ℤ} (start : ℕ → ℤ) (k n : ℕ) → ((q i : ℕ) → q < k → i < n → f q i ≡ g q i) →
    (i : ℕ) → i < n → state_at start f k i ≡ state_at start g k i
unfolding state_at
states_before start zero n h i l = refl
states_before start (suc k) n h i l = h k i (omega arith) l

-- S of step k reads the states before the step and its inputs: it stays as it is while the step's states are stored
pub model_kept : {f : ℕ → ℤ} {old new : List ℤ} (a b drift start : List ℤ) (k i w : ℕ) → Stretch (10 * k + 4) w f old new →
    model_at a b drift start new k i ≡ model_at a b drift start old k i
model_kept a b drift start k i w s =
    model_cong 6 4 (state_matrix a) (input_matrix b) (at drift) _ _ _ _ i
    (states_before (at start) k 6 (λ q j h l. s.outside (10 * q + (4 + j)) (inl (omega arith))))
    (λ j h. s.outside (10 * k + j) (inl (omega arith)))

-- ---- A step of the plan p, of which v holds the steps before: its inputs are stored in w, then its states in z

-- no step yet
pub held_start : {n m : ℕ} {v : Plan} {l : List ℤ} → BlankPlan n m l → Bounded most_number l → length l ≡ 120 → HeldPlan n m 0 v l
held_start blank bounded long = record {
  input = λ q j h. let z : ⊥ = omega arith in absurd z;
  state = λ q i h. let z : ⊥ = omega arith in absurd z;
  blank = blank;
  bounded = bounded;
  long = long;
}

pub held_none : (n m : ℕ) (v : Plan) → HeldPlan n m 0 v (replicate 120 (pos 0))
held_none n m v =
    held_start (record { input = λ q j _ _ _. zeros 120 (10 * q + j); state = λ q i _ _ _. zeros 120 (10 * q + (4 + i)) })
    (record { each = λ p. rw (zeros 120 p) (omega arith) }) (length-replicate 120 (pos 0))

module _ {n m k : ℕ} {p : Plan} {v w : List ℤ} (few : (n ≤ 6) × (m ≤ 4)) (held : HeldPlan n m k p v) (inputs : Stretch (10 * k) m (p.u k) v w) where
  pub model_held : (A B : ℕ → ℕ → ℤ) (drift start : ℕ → ℤ) (i : ℕ) →
      model_sum n m A B drift (state_at start (padded_plan w).x k) ((padded_plan w).u k) i ≡ model_sum n m A B drift (state_at start p.x k) (p.u k) i
  model_held A B drift start i =
      model_cong n m A B drift _ _ _ _ i
      (states_before start k n (λ q j h b. inputs.outside (10 * q + (4 + j)) (inl (omega arith)) ∙ held.state q j h b)) inputs.inside

  pub held_next : {z : List ℤ} → Stretch (10 * k + 4) n (p.x k) w z → Bounded most_number z → HeldPlan n m (k + 1) p z
  held_next {z} states bounded = record {
    input = λ q j h b.
        ⊎_elim (λ a. kept (10 * q + j) (λ c. omega arith) (λ c. omega arith) ∙ held.input q j a b)
        (λ a. let e : q ≡ k = omega arith in rw e (states.outside (10 * k + j) (inl (omega arith)) ∙ inputs.inside j b)) (lt_or_le q k);
    state = λ q i h b.
        ⊎_elim (λ a. kept (10 * q + (4 + i)) (λ c. omega arith) (λ c. omega arith) ∙ held.state q i a b)
        (λ a. let e : q ≡ k = omega arith in
        let d : 10 * k + (4 + i) ≡ 10 * k + 4 + i = omega arith in
        rw e (ap (at z) d ∙ states.inside i b)) (lt_or_le q k);
    blank = record {
      input = λ q j h a b. kept (10 * q + j) (λ c. omega arith) (λ c. omega arith) ∙ held.blank.input q j h a b;
      state = λ q i h a b. kept (10 * q + (4 + i)) (λ c. omega arith) (λ c. omega arith) ∙ held.blank.state q i h a b;
    };
    bounded = bounded;
    long = states.same ∙ inputs.same ∙ held.long;
  }
    where
      kept : (p : ℕ) → (10 * k ≤ p → 10 * k + m ≤ p) → (10 * k + 4 ≤ p → 10 * k + 4 + n ≤ p) → at z p ≡ at v p
      kept p a b = stretch_beside states p b ∙ stretch_beside inputs p a
