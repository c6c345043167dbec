-- A rival's numbers stand for V / D: the same fractions in finer units, as k V over k D, are a rival too, at the same cost. In units of
-- 1/(k D)² that is k² times the number.
use Prim.Native.Nat.{ℕ, zero, suc, ◌<◌}
use mathlib.Core.Path.{◌≡◌, refl, sym, ◌∙◌, ap, ap₂}
use mathlib.Core.List.{List, map}
use native.Mathlib.Omega.{arith}
use lib.ListN.{get_or, length-map, get_or-map}
use lib.IntN.{ℤ, pos, neg_ℤ, ◌+ℤ◌, ◌-ℤ◌, ◌*ℤ◌, *ℤ-zero}
use Rattle.integer.specs.Order.{◌≼◌}
use Rattle.integer.specs.Places.{at}
use Rattle.integer.specs.Sum.{sum}
use Rattle.integer.proofs.Ring.{ring, K, ⊝, ◌⊕◌, ◌⊖◌, ◌⊗◌, ◌≐◌}
use Rattle.integer.proofs.Order.{order, mul-from_one, mul-le}
use Rattle.integer.proofs.Sum.{sum_cong, sum-mul}
use Rattle.problem.specs.declared.Term.{Term}
use Rattle.problem.specs.Model.{Problem, Plan, input_place, state_place, plan_of, state_at, model_sum, residual}
use Rattle.problem.specs.Cost.{square, cost, plan_cost, Within}
use Rattle.problem.specs.Rival.{finer_term, finer, Rival, rival_cost}
use Rattle.problem.proofs.Total.{total_cong, total-mul}
use Rattle.problem.proofs.Scaled.{scaled-same}

-- ---- k times the numbers of a list, and of a plan

abbrev pub multiple : ℤ → List ℤ → List ℤ
multiple k v = map (λ z. k *ℤ z) v

abbrev finer_plan : ℤ → Plan → Plan
finer_plan k v = record { u = λ a j. k *ℤ v.u a j; x = λ a i. k *ℤ v.x a i }

at_multiple : (k : ℤ) (v : List ℤ) (p : ℕ) → at (multiple k v) p ≡ k *ℤ at v p
at_multiple k v p = ap (get_or (multiple k v) p) (sym (*ℤ-zero k)) ∙ get_or-map (λ z. k *ℤ z) v p (pos 0)

plan_multiple : (n m : ℕ) (k : ℤ) (v : List ℤ) → plan_of n m (multiple k v) ≡ finer_plan k (plan_of n m v)
plan_multiple n m k v = λ i. record { u = λ a j. at_multiple k v (input_place n m a j) i; x = λ a j. at_multiple k v (state_place n m a j) i }

-- ---- A problem in units of 1/(k D) is the one in units of 1/D in units of 1/k

apart : (k D z : ℤ) → k *ℤ D *ℤ z ≡ k *ℤ (D *ℤ z)
apart k D z = ring 3 (λ k D z. k ⊗ D ⊗ z ≐ k ⊗ (D ⊗ z)) tt k D z

finer_apart : (k D : ℤ) (q : Problem) → finer (k *ℤ D) q ≡ finer k (finer D q)
finer_apart k D = scaled-same (λ z. k *ℤ D *ℤ z) (λ z. k *ℤ (D *ℤ z)) (apart k D)

-- ---- Residuals grow by k, costs by k²

module _ (k : ℤ) (q : Problem) (v : Plan) where
  state-finer : (a i : ℕ) → state_at (finer k q).start (finer_plan k v).x a i ≡ k *ℤ state_at q.start v.x a i
  unfolding state_at
  state-finer zero i = refl
  state-finer (suc a) i = refl

  residual-finer : (a i : ℕ) → residual (finer k q) (finer_plan k v) a i ≡ k *ℤ residual q v a i
  unfolding residual model_sum
  residual-finer a i =
      let x : ℕ → ℤ = state_at q.start v.x a in
      let u = v.u a in
      let moved : (c z : ℤ) → c *ℤ (k *ℤ z) ≡ k *ℤ (c *ℤ z) = λ c z. ring 3 (λ c k z. c ⊗ (k ⊗ z) ≐ k ⊗ (c ⊗ z)) tt c k z in
      ap₂ (λ (b c : ℤ). b +ℤ c +ℤ k *ℤ q.w i -ℤ pos 4096 *ℤ (k *ℤ v.x a i))
      (sum_cong q.n _ _ (λ j _. ap (λ (z : ℤ). q.A i j *ℤ z) (state-finer a j) ∙ moved (q.A i j) (x j)) ∙ sum-mul q.n k (λ j. q.A i j *ℤ x j))
      (sum_cong q.m _ _ (λ j _. moved (q.B i j) (u j)) ∙ sum-mul q.m k (λ j. q.B i j *ℤ u j))
      ∙ ring 5 (λ k b c w x. k ⊗ b ⊕ k ⊗ c ⊕ k ⊗ w ⊖ K 4096 ⊗ (k ⊗ x) ≐ k ⊗ (b ⊕ c ⊕ w ⊖ K 4096 ⊗ x)) tt k (sum q.n (λ j. q.A i j *ℤ x j))
      (sum q.m (λ j. q.B i j *ℤ u j)) (q.w i) (v.x a i)

  cost-finer : plan_cost (finer k q) (finer_plan k v) ≡ square k *ℤ plan_cost q v
  unfolding plan_cost cost
  cost-finer =
      let each : (t : Term) (z : ℤ) → cost (finer_term k t) (k *ℤ z) ≡ square k *ℤ cost t z =
      λ t z. ring 4 (λ k p r z. p ⊗ ((k ⊗ z ⊖ k ⊗ r) ⊗ (k ⊗ z ⊖ k ⊗ r)) ≐ k ⊗ k ⊗ (p ⊗ ((z ⊖ r) ⊗ (z ⊖ r)))) tt k t.penalty t.reference z
      in
      total_cong q.n q.m q.horizon _ _ _ _ (λ a j _ _. each (q.input_term a j) (v.u a j)) (λ a i _ _. each (q.state_term a i) (v.x a i))
      ∙ total-mul q.n q.m q.horizon (square k) _ _

-- ---- So do a rival's

module _ (q : Problem) (k D : ℤ) (v : List ℤ) where
  abbrev plan : Plan
  plan = plan_of q.n q.m v

  pub cost_multiple : rival_cost q (k *ℤ D) (multiple k v) ≡ square k *ℤ rival_cost q D v
  cost_multiple = ap₂ plan_cost (finer_apart k D q) (plan_multiple q.n q.m k v) ∙ cost-finer k (finer D q) plan

  pub rival_multiple : pos 1 ≼ k → Rival q D v → Rival q (k *ℤ D) (multiple k v)
  rival_multiple one r = record {
    from_one = mul-from_one one r.from_one;
    long = length-map v (λ z. k *ℤ z) ∙ r.long;
    inputs-within = λ a j h l. rw (at_multiple k v (input_place q.n q.m a j)) (within (q.input_term a j) (r.inputs-within a j h l));
    states-within = λ a i h l. rw (at_multiple k v (state_place q.n q.m a i)) (within (q.state_term a i) (r.states-within a i h l));
    residuals_within = residuals;
  }
    where
      times : {a b : ℤ} → a ≼ b → k *ℤ a ≼ k *ℤ b
      times h = mul-le k (omega (arith, order)) h

      within : (t : Term) {z : ℤ} → Within (finer_term D t) z → Within (finer_term (k *ℤ D) t) (k *ℤ z)
      within t h = rw (apart k D t.low, apart k D t.high) (times h.0, times h.1)

      residuals : (a i : ℕ) → a < q.horizon → i < q.n →
          let e = residual (finer (k *ℤ D) q) (plan_of q.n q.m (multiple k v)) a i in
          (neg_ℤ (pos 2048 *ℤ (k *ℤ D)) ≼ e) × (e ≼ pos 2048 *ℤ (k *ℤ D))
      residuals a i h l =
          let e : residual (finer (k *ℤ D) q) (plan_of q.n q.m (multiple k v)) a i ≡ k *ℤ residual (finer D q) plan a i =
          ap₂ (λ (p : Problem) (w : Plan). residual p w a i) (finer_apart k D q) (plan_multiple q.n q.m k v) ∙ residual-finer k (finer D q) plan a i
          in
          let most : pos 2048 *ℤ (k *ℤ D) ≡ k *ℤ (pos 2048 *ℤ D) = ring 2 (λ k D. K 2048 ⊗ (k ⊗ D) ≐ k ⊗ (K 2048 ⊗ D)) tt k D in
          let least : neg_ℤ (pos 2048 *ℤ (k *ℤ D)) ≡ k *ℤ neg_ℤ (pos 2048 *ℤ D) = ring 2 (λ k D. ⊝ (K 2048 ⊗ (k ⊗ D)) ≐ k ⊗ ⊝ (K 2048 ⊗ D)) tt k D in
          let b = r.residuals_within a i h l in
          rw (e, least, most) (times b.0, times b.1)
