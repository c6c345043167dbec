-- S, the cost and the floor depend only on numbers within the sizes: on those of the states, inputs and steps that there are.
use Prim.Native.Nat.{ℕ, ◌+◌, ◌<◌, ◌≤◌}
use mathlib.Core.Path.{◌≡◌, refl, ap, ap₂}
use mathlib.Core.Bool.{Bool, true, false, cond}
use native.Mathlib.Omega.{arith}
use lib.Dec.{ltb}
use lib.IntN.{ℤ, pos, negsuc, nat_abs, ◌+ℤ◌, ◌*ℤ◌}
use borrow.Author.Tests.{ltb-true}
use Rattle.integer.specs.Sum.{sum}
use Rattle.integer.proofs.Sum.{sum_cong}
use Rattle.problem.specs.Model.{Problem, Plan, model_sum}
use Rattle.problem.specs.Cost.{cost, plan_cost}
use Rattle.problem.specs.Dual.{input_slope, adjoint, carried, state_slope, piece, pieces, constant, sizes, floor}
use Rattle.problem.proofs.Total.{total_cong}

pub model_cong : (n m : ℕ) (A B : ℕ → ℕ → ℤ) (w : ℕ → ℤ) (x x' u u' : ℕ → ℤ) (i : ℕ) →
    ((j : ℕ) → j < n → x j ≡ x' j) → ((j : ℕ) → j < m → u j ≡ u' j) → model_sum n m A B w x u i ≡ model_sum n m A B w x' u' i
unfolding model_sum
model_cong n m A B w x x' u u' i hx hu =
    ap₂ (λ (p q : ℤ). p +ℤ q +ℤ w i) (sum_cong n _ _ (λ j h. ap (λ (v : ℤ). A i j *ℤ v) (hx j h)))
    (sum_cong m _ _ (λ j h. ap (λ (v : ℤ). B i j *ℤ v) (hu j h)))

pub cost_cong : (q : Problem) (v v' : Plan) → ((k j : ℕ) → k < q.horizon → j < q.m → v.u k j ≡ v'.u k j) →
    ((k i : ℕ) → k < q.horizon → i < q.n → v.x k i ≡ v'.x k i) → plan_cost q v ≡ plan_cost q v'
unfolding plan_cost
cost_cong q v v' hu hx =
    total_cong q.n q.m q.horizon _ _ _ _ (λ k j h l. ap (cost (q.input_term k j)) (hu k j h l))
    (λ k i h l. ap (cost (q.state_term k i)) (hx k i h l))

module _ (q : Problem) (y z : ℕ → ℕ → ℤ) (stepped : 1 ≤ q.horizon)
    (same : (k i : ℕ) → k < q.horizon → i < q.n → y k i ≡ z k i) where
  -- a step's multipliers, each times a number: slopes and the drift's part are such sums
  products_cong : (k : ℕ) (c : ℕ → ℤ) → k < q.horizon → sum q.n (λ i. y k i *ℤ c i) ≡ sum q.n (λ i. z k i *ℤ c i)
  products_cong k c h = sum_cong q.n _ _ (λ i l. ap (λ (v : ℤ). v *ℤ c i) (same k i h l))

  pub input_slope_cong : (k j : ℕ) → k < q.horizon → input_slope q.n q.B y k j ≡ input_slope q.n q.B z k j
  unfolding input_slope
  input_slope_cong k j h = products_cong k (λ i. q.B i j) h

  adjoint_cong : (k j : ℕ) → k < q.horizon → adjoint q.n q.A y k j ≡ adjoint q.n q.A z k j
  unfolding adjoint
  adjoint_cong k j h = products_cong k (λ i. q.A i j) h

  carried_cong : (k i : ℕ) → carried q.n q.horizon q.A y k i ≡ carried q.n q.horizon q.A z k i
  unfolding carried
  carried_cong k i = go (ltb (k + 1) q.horizon) refl
    where
      go : (t : Bool) → ltb (k + 1) q.horizon ≡ t →
          cond t (adjoint q.n q.A y (k + 1) i) (pos 0) ≡ cond t (adjoint q.n q.A z (k + 1) i) (pos 0)
      go true e = adjoint_cong (k + 1) i (ltb-true (k + 1) q.horizon e)
      go false e = refl

  pub state_slope_cong : (k i : ℕ) → k < q.horizon → i < q.n → state_slope q.n q.horizon q.A y k i ≡ state_slope q.n q.horizon q.A z k i
  unfolding state_slope
  state_slope_cong k i h l = ap₂ (λ (v c : ℤ). negsuc 4095 *ℤ v +ℤ c) (same k i h l) (carried_cong k i)

  pieces_cong : pieces q y ≡ pieces q z
  unfolding pieces
  pieces_cong =
      total_cong q.n q.m q.horizon _ _ _ _ (λ k j h l. ap (piece (q.input_term k j)) (input_slope_cong k j h))
      (λ k i h l. ap (piece (q.state_term k i)) (state_slope_cong k i h l))

  constant_cong : constant q y ≡ constant q z
  unfolding constant
  constant_cong =
      ap₂ (λ (a b : ℤ). a +ℤ b) (sum_cong q.horizon _ _ (λ k h. products_cong k q.w h))
      (sum_cong q.n _ _ (λ j _. ap (λ (v : ℤ). v *ℤ q.start j) (adjoint_cong 0 j (omega arith))))

  sizes_cong : sizes q.n q.horizon y ≡ sizes q.n q.horizon z
  unfolding sizes
  sizes_cong = sum_cong q.horizon _ _ (λ k h. sum_cong q.n _ _ (λ i l. ap (λ (v : ℤ). pos (nat_abs v)) (same k i h l)))

  pub floor_cong : floor q y ≡ floor q z
  unfolding floor
  floor_cong = rw (pieces_cong, constant_cong, sizes_cong)
