-- Rivals in whole units, D = 1: a plan that follows the tape is one and costs the same as one, and but for a residual of 2048 no other
-- list is.
use Prim.Native.Nat.{ℕ, ◌+◌, ◌*◌, ◌<◌}
use mathlib.Core.Path.{◌≡◌, ap, subst, subst⁻¹}
use mathlib.Core.List.{List}
use mathlib.Core.Logic.{◌⊎◌, inl, inr}
use native.Mathlib.Omega.{arith}
use lib.ListN.{length}
use lib.IntN.{ℤ, pos, negsuc, ◌+ℤ◌, ◌-ℤ◌, ◌*ℤ◌}
use Rattle.integer.specs.Order.{◌≼◌, ◌≺◌}
use Rattle.integer.specs.Quotient.{◌÷◌}
use Rattle.integer.proofs.Parts.{plus, minus, times}
use Rattle.integer.proofs.Ring.{ring, K, ◌⊗◌, ◌≐◌}
use Rattle.integer.proofs.Order.{order, le_or_lt}
use Rattle.integer.proofs.Quotient.{quotient_low, quotient_high, quotient_unique}
use Rattle.problem.specs.Model.{Problem, Plan, plan_of, rounded, sum_at, residual}
use Rattle.problem.specs.Cost.{Within, Follows, plan_cost}
use Rattle.problem.specs.Rival.{finer, Rival, rival_cost}
use Rattle.problem.proofs.Scaled.{scaled-same}

-- ---- The problem in units of 1 is the problem

pub finer_one : (q : Problem) → finer (pos 1) q ≡ q
finer_one = scaled-same (λ z. pos 1 *ℤ z) (λ z. z) (λ z. ring 1 (λ z. K 1 ⊗ z ≐ z) tt z)

pub cost_one : (q : Problem) (v : List ℤ) → rival_cost q (pos 1) v ≡ plan_cost q (plan_of q.n q.m v)
cost_one q v = ap (λ (p : Problem). plan_cost p (plan_of q.n q.m v)) (finer_one q)

-- ---- A state meets the model, or its residual is 2048

-- rounding to the nearest, halves upward, leaves −2048 to 2047
residual-range : (S : ℤ) → (negsuc 2047 ≼ S -ℤ pos 4096 *ℤ rounded S) × (S -ℤ pos 4096 *ℤ rounded S ≺ pos 2048)
unfolding rounded
residual-range S =
    let x = (S +ℤ pos 2048) ÷ pos 4096 in
    let one : pos 1 ≼ pos 4096 = omega (arith, order) in
    let l = quotient_low (S +ℤ pos 2048) (pos 4096) one in
    let h = quotient_high (S +ℤ pos 2048) (pos 4096) one in
    let s = plus S (pos 2048) in
    let e = minus S (pos 4096 *ℤ x) in
    (omega (arith, order), omega (arith, order, times (pos 4096) x, times (pos 4096) (x +ℤ pos 1), plus x (pos 1)))

-- the model's number, or the one below where halves are rounded up to it
abbrev pub Meets : ℤ → ℤ → Type 0
Meets S x = (x ≡ rounded S) ⊎ (S -ℤ pos 4096 *ℤ x ≡ pos 2048)

meets-range : (S x : ℤ) → Meets S x → (negsuc 2047 ≼ S -ℤ pos 4096 *ℤ x) × (S -ℤ pos 4096 *ℤ x ≼ pos 2048)
meets-range S x (inl e) = rw e (let r = residual-range S in (r.0, omega (arith, order)))
meets-range S x (inr e) = rw e (omega (arith, order), omega (arith, order))

range-meets : (S x : ℤ) → negsuc 2047 ≼ S -ℤ pos 4096 *ℤ x → S -ℤ pos 4096 *ℤ x ≼ pos 2048 → Meets S x
unfolding rounded
range-meets S x l h = go (le_or_lt (pos 2048) (S -ℤ pos 4096 *ℤ x))
  where
    go : (pos 2048 ≼ S -ℤ pos 4096 *ℤ x) ⊎ (S -ℤ pos 4096 *ℤ x ≺ pos 2048) → Meets S x
    go (inl k) = inr (omega (arith, order))
    go (inr k) =
        inl
        (quotient_unique (S +ℤ pos 2048) (pos 4096) x (omega (arith, order)) (omega (arith, order, minus S (pos 4096 *ℤ x), plus S (pos 2048)))
        (omega (arith, order, minus S (pos 4096 *ℤ x), plus S (pos 2048), times (pos 4096) x, times (pos 4096) (x +ℤ pos 1), plus x (pos 1))))

-- ---- Document 01's rivals, but for that residual

pub record WholeRival (q : Problem) (v : List ℤ) : Type 0 where
  pub long : length v ≡ q.horizon * (q.n + q.m)
  pub inputs-within : (k j : ℕ) → k < q.horizon → j < q.m → Within (q.input_term k j) ((plan_of q.n q.m v).u k j)
  pub states_meet : (k i : ℕ) → k < q.horizon → i < q.n → Meets (sum_at q (plan_of q.n q.m v) k i) ((plan_of q.n q.m v).x k i)
  pub states-within : (k i : ℕ) → k < q.horizon → i < q.n → Within (q.state_term k i) ((plan_of q.n q.m v).x k i)

module _ (q : Problem) (v : List ℤ) where
  abbrev plan : Plan
  plan = plan_of q.n q.m v

  pub whole_rival : WholeRival q v → Rival q (pos 1) v
  unfolding residual
  whole_rival r = record {
    from_one = omega (arith, order);
    long = r.long;
    inputs-within = λ k j h l. subst⁻¹ (λ (p : Problem). Within (p.input_term k j) (plan.u k j)) (finer_one q) (r.inputs-within k j h l);
    states-within = λ k i h l. subst⁻¹ (λ (p : Problem). Within (p.state_term k i) (plan.x k i)) (finer_one q) (r.states-within k i h l);
    residuals_within = λ k i h l. rw (finer_one q) (meets-range (sum_at q plan k i) (plan.x k i) (r.states_meet k i h l));
  }

  pub rival_whole : Rival q (pos 1) v → WholeRival q v
  unfolding residual
  rival_whole r = record {
    long = r.long;
    inputs-within = λ k j h l. subst (λ (p : Problem). Within (p.input_term k j) (plan.u k j)) (finer_one q) (r.inputs-within k j h l);
    states_meet = λ k i h l. let e = rw (finer_one q) at (r.residuals_within k i h l) in range-meets (sum_at q plan k i) (plan.x k i) e.0 e.1;
    states-within = λ k i h l. subst (λ (p : Problem). Within (p.state_term k i) (plan.x k i)) (finer_one q) (r.states-within k i h l);
  }

  pub follows_rival : length v ≡ q.horizon * (q.n + q.m) → Follows q plan → Rival q (pos 1) v
  follows_rival long f =
      whole_rival (record {
        long = long;
        inputs-within = f.inputs-within;
        states_meet = λ k i h l. inl (f.states_meet k i h l);
        states-within = f.states-within;
      })
