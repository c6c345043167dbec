-- Floor and ceiling bound the cost of every rival, for any problem with weights from 0 on, any multipliers and any D from 1. A rival's
-- numbers are in units of 1/D, its cost in units of 1/D².
use Prim.Native.Nat.{ℕ, suc, ◌<◌, ◌≤◌}
use mathlib.Core.Path.{◌≡◌, sym, ◌∙◌, ap, ap₂}
use mathlib.Core.List.{List}
use native.Mathlib.Omega.{arith}
use lib.IntN.{ℤ, pos, negsuc, neg_ℤ, nat_abs, ◌+ℤ◌, ◌-ℤ◌, ◌*ℤ◌}
use Rattle.integer.specs.Order.{◌≼◌}
use Rattle.integer.specs.Sum.{sum}
use Rattle.integer.proofs.Parts.{minus}
use Rattle.integer.proofs.Ring.{ring, K, ⊝, mul-add, ◌⊕◌, ◌⊖◌, ◌⊗◌, ◌≐◌}
use Rattle.integer.proofs.Order.{order, le_by, le_trans, diff_nonneg, mul_nonneg, mul-from_one, mul_cancel_le}
use Rattle.integer.proofs.Sum.{sum_cong, sum-mul, sum-le}
use Rattle.problem.specs.Model.{Problem, Plan, plan_of, residual}
use Rattle.problem.specs.Cost.{total, square, plan_cost}
use Rattle.problem.specs.Rival.{finer, Rival, rival_cost}
use Rattle.problem.specs.Dual.{input_slope, adjoint, state_slope, piece, pieces, constant, sizes, floor, most, ceiling}
use Rattle.problem.proofs.Total.{total-add, total-sub, total-mul, total-le, total_nonneg}
use Rattle.problem.proofs.Lagrangian.{lagrangian}
use Rattle.problem.proofs.Piece.{slack, slack_nonneg}
use Rattle.problem.proofs.Ceiling.{cost-most}

-- a step at least, and weights from 0 on
pub record Sound (q : Problem) : Type 0 where
  pub stepped : 1 ≤ q.horizon
  pub inputs : (k j : ℕ) → j < q.m → pos 0 ≼ (q.input_term k j).penalty
  pub states : (k i : ℕ) → i < q.n → pos 0 ≼ (q.state_term k i).penalty

-- y e is at most B |y| where e lies in −B to B
pub weighted : (y e B : ℤ) → neg_ℤ B ≼ e → e ≼ B → y *ℤ e ≼ B *ℤ pos (nat_abs y)
weighted (pos a) e B l h =
    le_by (pos a *ℤ (B -ℤ e)) (mul_nonneg {a = pos a} (omega (arith, order)) (diff_nonneg h))
    (ring 3 (λ a e b. a ⊗ e ⊕ a ⊗ (b ⊖ e) ≐ b ⊗ a) tt (pos a) e B)
weighted (negsuc a) e B l h =
    le_by (pos (suc a) *ℤ (e -ℤ neg_ℤ B)) (mul_nonneg {a = pos (suc a)} (omega (arith, order)) (diff_nonneg l))
    (ring 3 (λ a e b. ⊝ a ⊗ e ⊕ a ⊗ (e ⊖ ⊝ b) ≐ b ⊗ a) tt (pos (suc a)) e B)

module _ (q : Problem) (y : ℕ → ℕ → ℤ) (D : ℤ) where
  -- ---- The gap of any numbers: their slacks, and what their residuals leave of the allowance

  -- the slopes of u(k,j) and of x(k+1,i)
  abbrev u_slope : ℕ → ℕ → ℤ
  u_slope k j = input_slope q.n q.B y k j

  abbrev x_slope : ℕ → ℕ → ℤ
  x_slope k i = state_slope q.n q.horizon q.A y k i

  constant-finer : constant (finer D q) y ≡ D *ℤ constant q y
  unfolding constant
  constant-finer =
      let drift : ℕ → ℤ = λ k. sum q.n (λ i. y k i *ℤ q.w i) in
      let start : ℕ → ℤ = λ j. adjoint q.n q.A y 0 j *ℤ q.start j in
      let scaled : (a z : ℤ) → a *ℤ (D *ℤ z) ≡ D *ℤ (a *ℤ z) = λ a z. ring 3 (λ a D z. a ⊗ (D ⊗ z) ≐ D ⊗ (a ⊗ z)) tt a D z in
      ap₂ (λ (a b : ℤ). a +ℤ b)
      (sum_cong q.horizon _ _ (λ k _. sum_cong q.n _ _ (λ i _. scaled (y k i) (q.w i)) ∙ sum-mul q.n D (λ i. y k i *ℤ q.w i))
      ∙ sum-mul q.horizon D drift)
      (sum_cong q.n _ _ (λ j _. scaled (adjoint q.n q.A y 0 j) (q.start j)) ∙ sum-mul q.n D start)
      ∙ sym (mul-add D (sum q.horizon drift) (sum q.n start))

  module _ (v : Plan) where
    abbrev pub u_slack : ℕ → ℕ → ℤ
    u_slack k j = slack D (q.input_term k j) (u_slope k j) (v.u k j)

    abbrev pub x_slack : ℕ → ℕ → ℤ
    x_slack k i = slack D (q.state_term k i) (x_slope k i) (v.x k i)

    abbrev pub slacks : ℤ
    slacks = total q.n q.m q.horizon u_slack x_slack

    -- the numbers, each times its slope
    abbrev sloped : ℤ
    sloped = total q.n q.m q.horizon (λ k j. u_slope k j *ℤ v.u k j) (λ k i. x_slope k i *ℤ v.x k i)

    slacks_sum : slacks ≡ plan_cost (finer D q) v +ℤ D *ℤ sloped -ℤ square D *ℤ pieces q y
    unfolding plan_cost pieces
    slacks_sum =
        let n = q.n in
        let m = q.m in
        let N = q.horizon in
        total-sub n m N _ _ (λ k j. square D *ℤ piece (q.input_term k j) (u_slope k j)) (λ k i. square D *ℤ piece (q.state_term k i) (x_slope k i))
        ∙ ap₂ (λ (a b : ℤ). a -ℤ b)
        (total-add n m N _ _ (λ k j. D *ℤ (u_slope k j *ℤ v.u k j)) (λ k i. D *ℤ (x_slope k i *ℤ v.x k i))
        ∙ ap (λ (z : ℤ). plan_cost (finer D q) v +ℤ z) (total-mul n m N D _ _))
        (total-mul n m N (square D) _ _)

    -- the residuals, each times its multiplier
    abbrev residuals : ℤ
    residuals = sum q.horizon (λ k. sum q.n (λ i. y k i *ℤ residual (finer D q) v k i))

    rearranged : 1 ≤ q.horizon → residuals ≡ sloped +ℤ constant (finer D q) y
    unfolding residual constant
    rearranged stepped = lagrangian q.n q.m q.A q.B (finer D q).w (finer D q).start v.u v.x y q.horizon stepped

    -- what the residuals leave of the allowance
    abbrev pub unused : ℤ
    unused = pos 2048 *ℤ D *ℤ sizes q.n q.horizon y -ℤ residuals

    pub gap-sum : 1 ≤ q.horizon → plan_cost (finer D q) v -ℤ square D *ℤ floor q y ≡ slacks +ℤ D *ℤ unused
    unfolding floor
    gap-sum stepped =
        rw (slacks_sum, rearranged stepped, constant-finer)
        (ring 6
        (λ D k p c z s. k ⊖ D ⊗ D ⊗ (p ⊕ c ⊖ K 2048 ⊗ z) ≐ (k ⊕ D ⊗ s ⊖ D ⊗ D ⊗ p) ⊕ D ⊗ (K 2048 ⊗ D ⊗ z ⊖ (s ⊕ D ⊗ c))) tt
        D (plan_cost (finer D q) v) (pieces q y) (constant q y) (sizes q.n q.horizon y) sloped)

  -- ---- Of a rival both are from 0 on

  module _ (ok : Sound q) (rival : List ℤ) (f : Rival q D rival) where
    abbrev v : Plan
    v = plan_of q.n q.m rival

    some : pos 0 ≼ D
    some = let o = f.from_one in omega (arith, order)

    pub u_slack_nonneg : (k j : ℕ) → k < q.horizon → j < q.m → pos 0 ≼ u_slack v k j
    u_slack_nonneg k j h l = slack_nonneg D (q.input_term k j) (u_slope k j) (v.u k j) (ok.inputs k j l) some (f.inputs-within k j h l)

    pub x_slack_nonneg : (k i : ℕ) → k < q.horizon → i < q.n → pos 0 ≼ x_slack v k i
    x_slack_nonneg k i h l = slack_nonneg D (q.state_term k i) (x_slope k i) (v.x k i) (ok.states k i l) some (f.states-within k i h l)

    residuals_most : residuals v ≼ pos 2048 *ℤ D *ℤ sizes q.n q.horizon y
    unfolding sizes
    residuals_most =
        rw (← sum-mul q.horizon (pos 2048 *ℤ D) (λ k. sum q.n (λ i. pos (nat_abs (y k i)))))
        (sum-le q.horizon _ _
        (λ k h.
        rw (← sum-mul q.n (pos 2048 *ℤ D) (λ i. pos (nat_abs (y k i))))
        (sum-le q.n _ _ (λ i l. let r = f.residuals_within k i h l in weighted (y k i) _ (pos 2048 *ℤ D) r.0 r.1))))

    -- so the slacks together are at most the gap
    pub slacks_most : slacks v ≼ rival_cost q D rival -ℤ square D *ℤ floor q y
    slacks_most = le_by (D *ℤ unused v) (mul_nonneg some (diff_nonneg residuals_most)) (sym (gap-sum v ok.stepped))

    -- and the floor is at most the cost
    pub floor-below : square D *ℤ floor q y ≼ rival_cost q D rival
    floor-below =
        let a = total_nonneg q.n q.m q.horizon (u_slack v) (x_slack v) u_slack_nonneg x_slack_nonneg in
        let b = slacks_most in
        omega (arith, order, minus (rival_cost q D rival) (square D *ℤ floor q y))

-- ---- The cost of a rival is at most the ceiling

module _ (q : Problem) (ok : Sound q) (D : ℤ) (rival : List ℤ) (f : Rival q D rival) where
  pub cost-below : rival_cost q D rival ≼ square D *ℤ ceiling q
  unfolding plan_cost ceiling
  cost-below =
      rw (← total-mul q.n q.m q.horizon (square D) (λ k j. most (q.input_term k j)) (λ k i. most (q.state_term k i)))
      (total-le q.n q.m q.horizon _ _ _ _ (λ k j h l. cost-most D (q.input_term k j) _ (ok.inputs k j l) (f.inputs-within k j h l))
      (λ k i h l. cost-most D (q.state_term k i) _ (ok.states k i l) (f.states-within k i h l)))

  -- so where there is a rival the floor of any multipliers is too
  pub floor-below-ceiling : (y : ℕ → ℕ → ℤ) → floor q y ≼ ceiling q
  floor-below-ceiling y =
      mul_cancel_le (square D) (mul-from_one f.from_one f.from_one) (le_trans (floor-below q y D ok rival f) cost-below)
