-- The slack of a number V, in units of 1/D, over its piece: by how much P (V − D r)² + D s V exceeds D² times the piece. It is from 0 on
-- for each V from D lo to D hi, any D from 0 on and any P from 0 on.
use mathlib.Core.Path.{◌≡◌}
use mathlib.Core.Logic.{◌⊎◌, inl, inr}
use native.Mathlib.Omega.{arith}
use lib.IntN.{ℤ, pos, ◌+ℤ◌, ◌-ℤ◌, ◌*ℤ◌}
use lib.Signed.{le_z}
use Rattle.integer.specs.Order.{◌≼◌}
use Rattle.integer.specs.Quotient.{quotient_up}
use Rattle.integer.proofs.Parts.{times}
use Rattle.integer.proofs.Ring.{ring, K, ◌⊕◌, ◌⊖◌, ◌⊗◌, ◌≐◌}
use Rattle.integer.proofs.Order.{order, le_by, le_trans, diff_nonneg, diff_nonpos, mul_nonneg, mul_nonpos, square_nonneg, mul_cancel_nonneg}
use Rattle.integer.proofs.Quotient.{up_enough}
use Rattle.integer.proofs.Tests.{by_test, not_at-most}
use Rattle.problem.specs.declared.Term.{Term}
use Rattle.problem.specs.Cost.{square, cost, Within}
use Rattle.problem.specs.Rival.{finer_term}
use Rattle.problem.specs.Dual.{weightless, unweighted, conjugate, tilt, piece}

-- ---- The quotient of the third piece

-- the quotient itself, where P divides
pub conjugate-is : (p s : ℤ) → pos 1 ≼ p → conjugate p s ≡ quotient_up (square s) (pos 4 *ℤ p)
unfolding conjugate
conjugate-is p s h = rw (not_at-most p (pos 0) (omega (arith, order)))

-- it is at least s² / 4P
pub conjugate-enough : (p s : ℤ) → pos 1 ≼ p → square s ≼ pos 4 *ℤ p *ℤ conjugate p s
conjugate-enough p s h = rw (conjugate-is p s h) (up_enough (square s) (pos 4 *ℤ p) (omega (arith, order, times (pos 4) p)))

-- ---- The number of a column of weight 0

-- where s is from 0 on D times it is at most every number within the limits, else at least
outermost : (D lo hi s v : ℤ) → D *ℤ lo ≼ v → v ≼ D *ℤ hi →
    ((pos 0 ≼ s) × (D *ℤ unweighted lo hi s ≼ v)) ⊎ ((s ≼ pos 0) × (v ≼ D *ℤ unweighted lo hi s))
unfolding unweighted
outermost D lo hi s v l h =
    by_test (λ a. ((pos 0 ≼ s) × (D *ℤ a ≼ v)) ⊎ ((s ≼ pos 0) × (v ≼ D *ℤ a))) (le_z (pos 0) s)
    (λ e. inl (omega (arith, order))) (λ e. inr (omega (arith, order)))

-- so none of them has a lesser s v
least : (D lo hi s v : ℤ) → D *ℤ lo ≼ v → v ≼ D *ℤ hi → pos 0 ≼ s *ℤ (v -ℤ D *ℤ unweighted lo hi s)
least D lo hi s v l h = go (D *ℤ unweighted lo hi s) (outermost D lo hi s v l h)
  where
    go : (a : ℤ) → ((pos 0 ≼ s) × (a ≼ v)) ⊎ ((s ≼ pos 0) × (v ≼ a)) → pos 0 ≼ s *ℤ (v -ℤ a)
    go a (inl k) = mul_nonneg k.0 (diff_nonneg k.1)
    go a (inr k) = mul_nonpos k.0 (diff_nonpos k.1)

-- it is one of the limits
pub one_limit : (P : ℤ → Type 0) (lo hi s : ℤ) → P lo → P hi → P (unweighted lo hi s)
unfolding unweighted
one_limit P lo hi s a b = by_test P (le_z (pos 0) s) (λ _. a) (λ _. b)

-- ---- Slack

module _ (D : ℤ) (t : Term) (s v : ℤ) where
  abbrev p : ℤ
  p = t.penalty

  abbrev r : ℤ
  r = t.reference

  -- over any number z in the piece's place
  abbrev pub over : ℤ → ℤ
  over z = cost (finer_term D t) v +ℤ D *ℤ (s *ℤ v) -ℤ square D *ℤ z

  abbrev pub slack : ℤ
  slack = over (piece t s)

  -- P (V − D r)² + D s V is convex: from a D a where it does not fall it rises by at least P (V − D a)²
  pub above : (a : ℤ) → pos 0 ≼ D → pos 0 ≼ (v -ℤ D *ℤ a) *ℤ tilt t s a → p *ℤ square (v -ℤ D *ℤ a) ≼ over (cost t a +ℤ s *ℤ a)
  unfolding tilt cost
  above a some h =
      le_by (D *ℤ ((v -ℤ D *ℤ a) *ℤ tilt t s a)) (mul_nonneg some h)
      (ring 6
      (λ D p r s a v. p ⊗ ((v ⊖ D ⊗ a) ⊗ (v ⊖ D ⊗ a)) ⊕ D ⊗ ((v ⊖ D ⊗ a) ⊗ (K 2 ⊗ p ⊗ (a ⊖ r) ⊕ s))
      ≐ p ⊗ ((v ⊖ D ⊗ r) ⊗ (v ⊖ D ⊗ r)) ⊕ D ⊗ (s ⊗ v) ⊖ D ⊗ D ⊗ (p ⊗ ((a ⊖ r) ⊗ (a ⊖ r)) ⊕ s ⊗ a)) tt D p r s a v)

  -- over the third piece 4P times the slack is at least (2P (V − D r) + D s)²
  pub between : pos 1 ≼ p → square (tilt (finer_term D t) (D *ℤ s) v) ≼ pos 4 *ℤ p *ℤ over (s *ℤ r -ℤ conjugate p s)
  unfolding tilt cost
  between h =
      let c = conjugate p s in
      le_by (square D *ℤ (pos 4 *ℤ p *ℤ c -ℤ square s)) (mul_nonneg (square_nonneg D) (diff_nonneg (conjugate-enough p s h)))
      (ring 6
      (λ D p r s v c. (K 2 ⊗ p ⊗ (v ⊖ D ⊗ r) ⊕ D ⊗ s) ⊗ (K 2 ⊗ p ⊗ (v ⊖ D ⊗ r) ⊕ D ⊗ s) ⊕ D ⊗ D ⊗ (K 4 ⊗ p ⊗ c ⊖ s ⊗ s)
      ≐ K 4 ⊗ p ⊗ (p ⊗ ((v ⊖ D ⊗ r) ⊗ (v ⊖ D ⊗ r)) ⊕ D ⊗ (s ⊗ v) ⊖ D ⊗ D ⊗ (s ⊗ r ⊖ c))) tt D p r s v c)

  anywhere : pos 1 ≼ p → pos 0 ≼ over (s *ℤ r -ℤ conjugate p s)
  anywhere h =
      mul_cancel_nonneg (pos 4 *ℤ p) (omega (arith, order, times (pos 4) p))
      (le_trans (square_nonneg (tilt (finer_term D t) (D *ℤ s) v)) (between h))

  module _ (weighed : pos 0 ≼ p) (some : pos 0 ≼ D) (within : Within (finer_term D t) v) where
    cost_nonneg : (a : ℤ) → pos 0 ≼ p *ℤ square (v -ℤ a)
    cost_nonneg a = mul_nonneg weighed (square_nonneg (v -ℤ a))

    -- so it is at least what it is there: at lo and at hi where the tests say so
    rises : (a : ℤ) → pos 0 ≼ (v -ℤ D *ℤ a) *ℤ tilt t s a → pos 0 ≼ over (cost t a +ℤ s *ℤ a)
    rises a h = le_trans (cost_nonneg (D *ℤ a)) (above a some h)

    from_low : (a : ℤ) → D *ℤ a ≼ v → pos 0 ≼ tilt t s a → pos 0 ≼ over (cost t a +ℤ s *ℤ a)
    from_low a l h = rises a (mul_nonneg (diff_nonneg l) h)

    from-high : (a : ℤ) → v ≼ D *ℤ a → tilt t s a ≼ pos 0 → pos 0 ≼ over (cost t a +ℤ s *ℤ a)
    from-high a l h = rises a (mul_nonpos (diff_nonpos l) h)

    -- and at least D² s a where s V is at least D s a, whatever P is
    linear : (a : ℤ) → pos 0 ≼ s *ℤ (v -ℤ D *ℤ a) → pos 0 ≼ over (s *ℤ a)
    unfolding cost
    linear a h =
        le_trans (cost_nonneg (D *ℤ r))
        (le_by (D *ℤ (s *ℤ (v -ℤ D *ℤ a))) (mul_nonneg some h)
        (ring 5 (λ c D s a v. c ⊕ D ⊗ (s ⊗ (v ⊖ D ⊗ a)) ≐ c ⊕ D ⊗ (s ⊗ v) ⊖ D ⊗ D ⊗ (s ⊗ a)) tt (p *ℤ square (v -ℤ D *ℤ r)) D s a v))

    pub slack_nonneg : pos 0 ≼ slack
    unfolding piece
    slack_nonneg =
        let Over : ℤ → Type 0 = λ z. pos 0 ≼ over z in
        let low = within.0 in
        let high = within.1 in
        by_test Over (weightless p) (λ _. linear _ (least D t.low t.high s v (omega (arith, order)) (omega (arith, order))))
        (λ w. by_test Over (le_z (pos 0) (tilt t s t.low)) (λ e. from_low _ (omega (arith, order)) (omega (arith, order)))
        (λ _. by_test Over (le_z (tilt t s t.high) (pos 0)) (λ e. from-high _ (omega (arith, order)) (omega (arith, order)))
        (λ _. anywhere (omega (arith, order)))))
