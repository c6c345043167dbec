-- The coefficients that W is made of are those of the residuals.
use Prim.Native.Nat.{ℕ, zero, suc, ◌+◌, ◌<◌, ◌≤◌}
use mathlib.Core.Path.{◌≡◌, refl, sym, ap, ap₂, ◌∙◌}
use mathlib.Core.Bool.{cond}
use native.Mathlib.Numerals.{add-one}
use native.Mathlib.Omega.{arith}
use native.Mathlib.Decide.{dec_le}
use lib.Dec.{eqb}
use lib.IntN.{ℤ, pos, negsuc, ◌+ℤ◌, ◌*ℤ◌, +ℤ_idl, +ℤ_idr, zero-*ℤ}
use borrow.Author.Tests.{eq-eqb, ne_eqb}
use Rattle.integer.specs.Sum.{sum}
use Rattle.integer.proofs.Sum.{sum_single, sum_zero, sum_cong, sum-add}
use Rattle.integer.proofs.Ring.{ring, con, K, ◌⊕◌, ◌⊖◌, ◌⊗◌, ◌≐◌}
use Rattle.problem.specs.Model.{Problem, Plan, state_at, model_sum, residual}
use Rattle.banded.specs.Weights.{input_coefficient, state_coefficient}

-- two terms are left, which follow each other
double : (N k : ℕ) (f g : ℕ → ℤ) → k + 1 < N → ((s : ℕ) → (s ≡ k → ⊥) → f s ≡ pos 0) → ((s : ℕ) → (s ≡ k + 1 → ⊥) → g s ≡ pos 0)
    → sum N (λ s. f s +ℤ g s) ≡ f k +ℤ g (k + 1)
double N k f g h z y = sum-add N f g ∙ ap₂ ◌+ℤ◌ (sum_single N k f (omega arith) z) (sum_single N (k + 1) g h y)

module _ (A B : ℕ → ℕ → ℤ) (i : ℕ) where
  -- the coefficient of x(s+1,c) in its two parts
  own : ℕ → ℕ → ℕ → ℤ
  own k s c = cond (eqb s k) (cond (eqb c i) (negsuc 4095) (pos 0)) (pos 0)

  carried : ℕ → ℕ → ℕ → ℤ
  carried k s c = cond (eqb (s + 1) k) (A i c) (pos 0)

  parts : (k s c : ℕ) → state_coefficient A k i s c ≡ carried k s c +ℤ own k s c
  unfolding state_coefficient own carried
  parts k s c = place (dec_le s k) (dec_le k s)
    where
      other : (s ≡ k → ⊥) → state_coefficient A k i s c ≡ carried k s c +ℤ own k s c
      other h = rw (ne_eqb s k h) (sym (+ℤ_idr (cond (eqb (s + 1) k) (A i c) (pos 0))))

      place : Dec (s ≤ k) → Dec (k ≤ s) → state_coefficient A k i s c ≡ carried k s c +ℤ own k s c
      place (yes a) (yes b) =
          let e : s ≡ k = omega arith in
          rw (eq-eqb s k e, ne_eqb (s + 1) k (λ z. omega arith)) (sym (+ℤ_idl (cond (eqb c i) (negsuc 4095) (pos 0))))
      place (no a) b = other (λ e. a (omega arith))
      place (yes a) (no b) = other (λ e. b (omega arith))

  own_none : (n k s : ℕ) (x : ℕ → ℤ) → (s ≡ k → ⊥) → sum n (λ c. own k s c *ℤ x c) ≡ pos 0
  unfolding own
  own_none n k s x h = sum_zero n _ (λ c l. rw (ne_eqb s k h) (zero-*ℤ (x c)))

  own_one : (n k : ℕ) (x : ℕ → ℤ) → i < n → sum n (λ c. own k k c *ℤ x c) ≡ negsuc 4095 *ℤ x i
  unfolding own
  own_one n k x h =
      sum_single n i (λ c. own k k c *ℤ x c) h (λ c z. rw (eq-eqb k k refl, ne_eqb c i z) (zero-*ℤ (x c)))
      ∙ rw (eq-eqb k k refl, eq-eqb i i refl) refl

  carried_none : (n k s : ℕ) (x : ℕ → ℤ) → (s + 1 ≡ k → ⊥) → sum n (λ c. carried k s c *ℤ x c) ≡ pos 0
  unfolding carried
  carried_none n k s x h = sum_zero n _ (λ c l. rw (ne_eqb (s + 1) k h) (zero-*ℤ (x c)))

  carried_one : (n k : ℕ) (x : ℕ → ℤ) → sum n (λ c. carried (k + 1) k c *ℤ x c) ≡ sum n (λ c. A i c *ℤ x c)
  unfolding carried
  carried_one n k x = sum_cong n _ _ (λ c l. rw (eq-eqb (k + 1) (k + 1) refl) refl)

  state_parts : (n k s : ℕ) (x : ℕ → ℤ)
      → sum n (λ c. state_coefficient A k i s c *ℤ x c) ≡ sum n (λ c. carried k s c *ℤ x c) +ℤ sum n (λ c. own k s c *ℤ x c)
  state_parts n k s x =
      sum_cong n _ _ (λ c l. rw (parts k s c) (ring 3 (λ a b z. (a ⊕ b) ⊗ z ≐ a ⊗ z ⊕ b ⊗ z) tt (carried k s c) (own k s c) (x c)))
      ∙ sum-add n (λ c. carried k s c *ℤ x c) (λ c. own k s c *ℤ x c)

  -- over all steps
  pub input-terms : (N m k : ℕ) (u : ℕ → ℕ → ℤ) → k < N → sum N (λ s. sum m (λ c. input_coefficient B k i s c *ℤ u s c)) ≡ sum m (λ c. B i c *ℤ u k c)
  unfolding input_coefficient
  input-terms N m k u h =
      sum_single N k _ h (λ s z. sum_zero m _ (λ c l. rw (ne_eqb s k z) (zero-*ℤ (u s c))))
      ∙ sum_cong m _ _ (λ c l. rw (eq-eqb k k refl) refl)

  pub state-terms-first : (N n : ℕ) (x : ℕ → ℕ → ℤ) → 0 < N → i < n → sum N (λ s. sum n (λ c. state_coefficient A 0 i s c *ℤ x s c)) ≡ negsuc 4095 *ℤ x 0 i
  state-terms-first N n x h l =
      sum_cong N _ _ (λ s _. state_parts n 0 s (x s) ∙ ap (λ (z : ℤ). z +ℤ sum n (λ c. own 0 s c *ℤ x s c)) (carried_none n 0 s (x s) (λ z. omega arith)) ∙ +ℤ_idl _)
      ∙ sum_single N 0 (λ s. sum n (λ c. own 0 s c *ℤ x s c)) h (λ s z. own_none n 0 s (x s) z)
      ∙ own_one n 0 (x 0) l

  pub state-terms : (N n k : ℕ) (x : ℕ → ℕ → ℤ) → k + 1 < N → i < n
      → sum N (λ s. sum n (λ c. state_coefficient A (k + 1) i s c *ℤ x s c)) ≡ sum n (λ c. A i c *ℤ x k c) +ℤ negsuc 4095 *ℤ x (k + 1) i
  state-terms N n k x h l =
      sum_cong N _ _ (λ s _. state_parts n (k + 1) s (x s))
      ∙ double N k (λ s. sum n (λ c. carried (k + 1) s c *ℤ x s c)) (λ s. sum n (λ c. own (k + 1) s c *ℤ x s c)) h
      (λ s z. carried_none n (k + 1) s (x s) (λ y. z (omega arith))) (λ s z. own_none n (k + 1) s (x s) z)
      ∙ ap₂ ◌+ℤ◌ (carried_one n k (x k)) (own_one n (k + 1) (x (k + 1)) l)

-- What a residual has besides its coefficients times the plan's numbers.
unfoldable pub fixed_part : Problem → ℕ → ℕ → ℤ
fixed_part q zero i = sum q.n (λ j. q.A i j *ℤ q.start j) +ℤ q.w i
fixed_part q (suc k) i = q.w i

pub residual-terms : (q : Problem) (v : Plan) (k i : ℕ) → k < q.horizon → i < q.n
    → residual q v k i
    ≡ fixed_part q k i
    +ℤ (sum q.horizon (λ s. sum q.m (λ c. input_coefficient q.B k i s c *ℤ v.u s c))
    +ℤ sum q.horizon (λ s. sum q.n (λ c. state_coefficient q.A k i s c *ℤ v.x s c)))
unfolding residual model_sum state_at fixed_part
residual-terms q v zero i h l =
    ring 4 (λ p r w x. p ⊕ r ⊕ w ⊖ K 4096 ⊗ x ≐ p ⊕ w ⊕ (r ⊕ con (negsuc 4095) ⊗ x)) tt
    (sum q.n (λ j. q.A i j *ℤ q.start j)) (sum q.m (λ c. q.B i c *ℤ v.u 0 c)) (q.w i) (v.x 0 i)
    ∙ ap (λ (z : ℤ). fixed_part q 0 i +ℤ z)
    (sym (ap₂ ◌+ℤ◌ (input-terms q.A q.B i q.horizon q.m 0 v.u h) (state-terms-first q.A q.B i q.horizon q.n v.x h l)))
residual-terms q v (suc k) i h l =
    ring 4 (λ p r w x. p ⊕ r ⊕ w ⊖ K 4096 ⊗ x ≐ w ⊕ (r ⊕ (p ⊕ con (negsuc 4095) ⊗ x))) tt
    (sum q.n (λ j. q.A i j *ℤ v.x k j)) (sum q.m (λ c. q.B i c *ℤ v.u (suc k) c)) (q.w i) (v.x (suc k) i)
    ∙ ap (λ (z : ℤ). q.w i +ℤ z)
    (sym (ap₂ ◌+ℤ◌ (input-terms q.A q.B i q.horizon q.m (suc k) v.u h) (rw add-one at (state-terms q.A q.B i q.horizon q.n k v.x (omega arith) l))))
