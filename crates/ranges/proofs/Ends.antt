-- The three inequalities are one, by the centre and the reach; so a number that is near lies in its range, and no whole numbers are tighter.
use mathlib.Core.Path.{◌≡◌, refl}
use mathlib.Core.Logic.{◌⊎◌, inl, inr, ⊎_elim}
use native.Mathlib.Omega.{arith}
use lib.IntN.{ℤ, pos, negsuc, neg_ℤ, nat_abs, ◌+ℤ◌, ◌-ℤ◌, ◌*ℤ◌}
use lib.Signed.{le_z, clash_ℤ as clash}
use Rattle.integer.specs.Order.{◌≼◌, ◌≺◌}
use Rattle.integer.specs.Limited.{limited}
use Rattle.integer.specs.Quotient.{◌÷◌, quotient_up}
use Rattle.integer.proofs.Parts.{plus, minus, times}
use Rattle.integer.proofs.Ring.{ring, K, ⊝, ◌⊕◌, ◌⊖◌, ◌⊗◌, ◌≐◌}
use Rattle.integer.proofs.Order.{order, le_by, le_or_lt, le_trans, diff_nonneg, add_nonneg, mul_nonneg, mul-le, mul-from_one, mul_cancel_le, square_nonneg, square_cancel}
use Rattle.integer.proofs.Quotient.{quotient_low, quotient_high, up_enough, up_least}
use Rattle.integer.proofs.Root.{root_least}
use Rattle.integer.proofs.Sizes.{size_parts}
use Rattle.integer.proofs.Limited.{by_tests}
use Rattle.integer.proofs.Tests.{by_test, at_most, not_at-most}
use Rattle.problem.specs.declared.Term.{Term}
use Rattle.problem.specs.Cost.{square}
use Rattle.problem.specs.Dual.{weightless, tilt}
use Rattle.ranges.specs.declared.range.Range.{Range}
use Rattle.ranges.specs.Near.{Near}
use Rattle.ranges.specs.Range.{centre, reach, lowest, highest, range_of, Inside, HoldsNear, Allowed, Tightest}

-- ---- The reach

module _ (p gap : ℤ) (weighed : pos 0 ≼ p) (some : pos 0 ≼ gap) where
  -- 4P gap
  abbrev room : ℤ
  room = pos 4 *ℤ p *ℤ gap

  room_size : room ≡ pos (nat_abs room)
  room_size =
      let n = mul_nonneg {a = pos 4 *ℤ p} (omega (arith, order, times (pos 4) p)) some in
      omega (arith, order, size_parts room)

  pub reach-enough : room ≼ square (reach p gap)
  unfolding reach
  reach-enough = omega (arith, order, room_size, (root_least (nat_abs room)).enough)

  pub reach-least : (c : ℤ) → pos 0 ≼ c → room ≼ square c → reach p gap ≼ c
  unfolding reach
  reach-least (pos c) h k = omega (arith, order, (root_least (nat_abs room)).least c (omega (arith, order, room_size)))
  reach-least (negsuc c) h k = absurd h.le

-- ---- One formula for the three

module _ (t : Term) (s gap D v : ℤ) (weighed : pos 1 ≼ t.penalty) where
  abbrev p : ℤ
  p = t.penalty

  four : pos 1 ≼ pos 4 *ℤ p
  four = omega (arith, order, times (pos 4) p)

  -- how far 2P V lies from D c
  abbrev pub off : ℤ → ℤ
  off c = pos 2 *ℤ p *ℤ v -ℤ D *ℤ c

  abbrev pub Off : ℤ → Type 0
  Off c = square (off c) ≼ pos 4 *ℤ p *ℤ gap *ℤ square D

  abbrev AtLimit : ℤ → Type 0
  AtLimit a = p *ℤ square (v -ℤ D *ℤ a) ≼ gap *ℤ square D

  -- 4P times both sides
  limit_square : (a : ℤ) → square (off (pos 2 *ℤ p *ℤ a)) ≡ pos 4 *ℤ p *ℤ (p *ℤ square (v -ℤ D *ℤ a))
  limit_square a =
      ring 4
      (λ D p v a. (K 2 ⊗ p ⊗ v ⊖ D ⊗ (K 2 ⊗ p ⊗ a)) ⊗ (K 2 ⊗ p ⊗ v ⊖ D ⊗ (K 2 ⊗ p ⊗ a)) ≐ K 4 ⊗ p ⊗ (p ⊗ ((v ⊖ D ⊗ a) ⊗ (v ⊖ D ⊗ a)))) tt
      D p v a

  gap_times : pos 4 *ℤ p *ℤ gap *ℤ square D ≡ pos 4 *ℤ p *ℤ (gap *ℤ square D)
  gap_times = ring 3 (λ p g d. K 4 ⊗ p ⊗ g ⊗ d ≐ K 4 ⊗ p ⊗ (g ⊗ d)) tt p gap (square D)

  limit_off : (a : ℤ) → AtLimit a → Off (pos 2 *ℤ p *ℤ a)
  limit_off a h = rw (limit_square a, gap_times) (mul-le (pos 4 *ℤ p) (let o = four in omega (arith, order)) h)

  off_limit : (a : ℤ) → Off (pos 2 *ℤ p *ℤ a) → AtLimit a
  off_limit a h = mul_cancel_le (pos 4 *ℤ p) four (rw (limit_square a, gap_times) at h)

  between_off : pos 2 *ℤ p *ℤ (v -ℤ D *ℤ t.reference) +ℤ D *ℤ s ≡ off (pos 2 *ℤ p *ℤ t.reference -ℤ s)
  between_off = ring 5 (λ D p r s v. K 2 ⊗ p ⊗ (v ⊖ D ⊗ r) ⊕ D ⊗ s ≐ K 2 ⊗ p ⊗ v ⊖ D ⊗ (K 2 ⊗ p ⊗ r ⊖ s)) tt D p t.reference s v

  pub near_off : Near t s gap D v → Off (centre t s)
  unfolding centre
  near_off n =
      by_test Off (le_z (pos 0) (tilt t s t.low)) (λ e. limit_off t.low (n.first (omega (arith, order))))
      (λ e. by_test Off (le_z (tilt t s t.high) (pos 0)) (λ f. limit_off t.high (n.second (omega (arith, order)) (omega (arith, order))))
      (λ f. rw between_off at (n.third (omega (arith, order)) (omega (arith, order)))))

  pub off_near : Off (centre t s) → Near t s gap D v
  unfolding centre
  off_near o = record {
    first = λ h. off_limit t.low (rw (at_most _ _ h) at o);
    second = λ l h. off_limit t.high (rw (not_at-most _ _ l, at_most _ _ h) at o);
    third = λ l h. rw between_off (rw (not_at-most _ _ l, not_at-most _ _ h) at o);
  }

module _ (t : Term) (s gap : ℤ) (weighed : pos 1 ≼ t.penalty) (some : pos 0 ≼ gap) where
  abbrev double : ℤ
  double = pos 2 *ℤ t.penalty

  double_one : pos 1 ≼ double
  double_one = omega (arith, order, times (pos 2) t.penalty)

  abbrev c : ℤ
  c = centre t s

  abbrev b : ℤ
  b = reach t.penalty gap

  from_zero : pos 0 ≼ t.penalty
  from_zero = omega (arith, order)

  b-from_zero : pos 0 ≼ b
  unfolding reach
  b-from_zero = omega (arith, order)

  -- ---- A number that is near lies between the ends

  module _ (D v : ℤ) (positive : pos 0 ≼ D) (near : Near t s gap D v) where
    abbrev away : ℤ
    away = off t s gap D v weighed c

    far : pos 0 ≼ D *ℤ b
    far = mul_nonneg positive b-from_zero

    away_square : square away ≼ square (D *ℤ b)
    away_square =
        le_trans (near_off t s gap D v weighed near)
        (le_by (square D *ℤ (square b -ℤ pos 4 *ℤ t.penalty *ℤ gap))
        (mul_nonneg (square_nonneg D) (diff_nonneg (reach-enough t.penalty gap from_zero some)))
        (ring 4 (λ D p g b. K 4 ⊗ p ⊗ g ⊗ (D ⊗ D) ⊕ D ⊗ D ⊗ (b ⊗ b ⊖ K 4 ⊗ p ⊗ g) ≐ D ⊗ b ⊗ (D ⊗ b)) tt D t.penalty gap b))

    low_near : D *ℤ lowest t s gap ≼ v
    unfolding lowest
    low_near =
        let q = (c -ℤ b) ÷ double in
        let o : neg_ℤ away ≼ D *ℤ b = square_cancel (neg_ℤ away) (D *ℤ b) far (rw (ring 1 (λ a. ⊝ a ⊗ ⊝ a ≐ a ⊗ a) tt away) away_square) in
        mul_cancel_le double double_one
        (le_by (D *ℤ b -ℤ neg_ℤ away +ℤ D *ℤ (c -ℤ b -ℤ double *ℤ q))
        (add_nonneg (diff_nonneg o) (mul_nonneg positive (diff_nonneg (quotient_low (c -ℤ b) double double_one))))
        (ring 6 (λ e v D c b q. e ⊗ (D ⊗ q) ⊕ (D ⊗ b ⊖ ⊝ (e ⊗ v ⊖ D ⊗ c) ⊕ D ⊗ (c ⊖ b ⊖ e ⊗ q)) ≐ e ⊗ v) tt double v D c b q))

    high-near : v ≼ D *ℤ highest t s gap
    unfolding highest
    high-near =
        let q = quotient_up (c +ℤ b) double in
        mul_cancel_le double double_one
        (le_by (D *ℤ b -ℤ away +ℤ D *ℤ (double *ℤ q -ℤ (c +ℤ b)))
        (add_nonneg (diff_nonneg (square_cancel away (D *ℤ b) far away_square)) (mul_nonneg positive (diff_nonneg (up_enough (c +ℤ b) double double_one))))
        (ring 6 (λ e v D c b q. e ⊗ v ⊕ (D ⊗ b ⊖ (e ⊗ v ⊖ D ⊗ c) ⊕ D ⊗ (e ⊗ q ⊖ (c ⊕ b))) ≐ e ⊗ (D ⊗ q)) tt double v D c b q))

  -- ---- One unit further in there is a number that is near

  -- the centre itself, in units of 1/2P
  abbrev central : Allowed t s gap
  central = record {
    D = double;
    v = c;
    from_one = double_one;
    near =
        off_near t s gap double c weighed
        (rw (ring 2 (λ e c. (e ⊗ c ⊖ e ⊗ c) ⊗ (e ⊗ c ⊖ e ⊗ c) ≐ K 0) tt double c)
        (mul_nonneg {a = pos 4 *ℤ t.penalty *ℤ gap} (mul_nonneg {a = pos 4 *ℤ t.penalty} (omega (arith, order, times (pos 4) t.penalty)) some) (square_nonneg double)));
  }

  -- a whole number z with 2P z less than the reach from the centre is not the last: 1/D beyond it is near too, with D = 4P (x + 1), where
  -- x is how far 2P z lies from the centre
  module _ (x : ℤ) (h : pos 0 ≼ x) (l : x ≺ b) where
    abbrev fine : ℤ
    fine = pos 4 *ℤ t.penalty *ℤ (x +ℤ pos 1)

    fine_one : pos 1 ≼ fine
    fine_one = mul-from_one {a = pos 4 *ℤ t.penalty} (omega (arith, order, times (pos 4) t.penalty)) (omega (arith, order, plus x (pos 1)))

    inner : square x +ℤ pos 1 ≼ pos 4 *ℤ t.penalty *ℤ gap
    inner =
        ⊎_elim (λ m. clash l (reach-least t.penalty gap from_zero some x h m)) (λ m. omega (arith, order, plus (square x) (pos 1)))
        (le_or_lt (pos 4 *ℤ t.penalty *ℤ gap) (square x))

    beyond : square (fine *ℤ x +ℤ double) ≼ pos 4 *ℤ t.penalty *ℤ gap *ℤ square fine
    beyond =
        le_by (square fine *ℤ (pos 4 *ℤ t.penalty *ℤ gap -ℤ (square x +ℤ pos 1)) +ℤ pos 4 *ℤ t.penalty *ℤ (t.penalty *ℤ (pos 4 *ℤ x +ℤ pos 3)))
        (add_nonneg (mul_nonneg (square_nonneg fine) (diff_nonneg inner))
        (mul_nonneg {a = pos 4 *ℤ t.penalty} (omega (arith, order, times (pos 4) t.penalty))
        (mul_nonneg from_zero (omega (arith, order, times (pos 4) x, plus (pos 4 *ℤ x) (pos 3))))))
        (ring 3
        (λ p g x. let D = K 4 ⊗ p ⊗ (x ⊕ K 1) in
        (D ⊗ x ⊕ K 2 ⊗ p) ⊗ (D ⊗ x ⊕ K 2 ⊗ p) ⊕ (D ⊗ D ⊗ (K 4 ⊗ p ⊗ g ⊖ (x ⊗ x ⊕ K 1)) ⊕ K 4 ⊗ p ⊗ (p ⊗ (K 4 ⊗ x ⊕ K 3))) ≐ K 4 ⊗ p ⊗ g ⊗ (D ⊗ D)) tt
        t.penalty gap x)

    -- on either side of the centre
    abbrev beside : (v : ℤ) → square (off t s gap fine v weighed c) ≡ square (fine *ℤ x +ℤ double) → Allowed t s gap
    beside v e = record { D = fine; v = v; from_one = fine_one; near = off_near t s gap fine v weighed (rw e beyond) }

  low_end : (a : Allowed t s gap) × (a.v ≺ a.D *ℤ (lowest t s gap +ℤ pos 1))
  unfolding lowest
  low_end = go (le_or_lt (double *ℤ z) c)
    where
      z : ℤ
      z = (c -ℤ b) ÷ double +ℤ pos 1

      go : (double *ℤ z ≼ c) ⊎ (c ≺ double *ℤ z) → (a : Allowed t s gap) × (a.v ≺ a.D *ℤ z)
      go (inl h) =
          let x = c -ℤ double *ℤ z in
          let l : x ≺ b = omega (arith, order, quotient_high (c -ℤ b) double double_one, minus c b, minus c (double *ℤ z)) in
          let D = fine x (diff_nonneg h) l in
          let less : D *ℤ z -ℤ pos 1 ≺ D *ℤ z = omega (arith, order, minus (D *ℤ z) (pos 1)) in (
            beside x (diff_nonneg h) l (D *ℤ z -ℤ pos 1)
                (ring 4
                (λ D c e z. (e ⊗ (D ⊗ z ⊖ K 1) ⊖ D ⊗ c) ⊗ (e ⊗ (D ⊗ z ⊖ K 1) ⊖ D ⊗ c) ≐ (D ⊗ (c ⊖ e ⊗ z) ⊕ e) ⊗ (D ⊗ (c ⊖ e ⊗ z) ⊕ e)) tt D c double z),
            less,
          )
      go (inr h) = (central, h)

  high_end : (a : Allowed t s gap) × (a.D *ℤ (highest t s gap -ℤ pos 1) ≺ a.v)
  unfolding highest
  high_end = go (le_or_lt c (double *ℤ z))
    where
      q : ℤ
      q = quotient_up (c +ℤ b) double

      z : ℤ
      z = q -ℤ pos 1

      below : double *ℤ z ≺ c +ℤ b
      below =
          ⊎_elim (λ m. let n = up_least (c +ℤ b) double z double_one m in let e : ⊥ = omega (arith, order, minus q (pos 1)) in absurd e) (λ m. m)
          (le_or_lt (c +ℤ b) (double *ℤ z))

      go : (c ≼ double *ℤ z) ⊎ (double *ℤ z ≺ c) → (a : Allowed t s gap) × (a.D *ℤ z ≺ a.v)
      go (inl h) =
          let x = double *ℤ z -ℤ c in
          let l : x ≺ b = omega (arith, order, below, plus c b, minus (double *ℤ z) c) in
          let D = fine x (diff_nonneg h) l in
          let more : D *ℤ z ≺ D *ℤ z +ℤ pos 1 = omega (arith, order, plus (D *ℤ z) (pos 1)) in (
            beside x (diff_nonneg h) l (D *ℤ z +ℤ pos 1)
                (ring 4
                (λ D c e z. (e ⊗ (D ⊗ z ⊕ K 1) ⊖ D ⊗ c) ⊗ (e ⊗ (D ⊗ z ⊕ K 1) ⊖ D ⊗ c) ≐ (D ⊗ (e ⊗ z ⊖ c) ⊕ e) ⊗ (D ⊗ (e ⊗ z ⊖ c) ⊕ e)) tt D c double z),
            more,
          )
      go (inr h) = (central, h)

  pub range_tightest : Tightest t s gap (range_of t s gap)
  unfolding range_of
  range_tightest =
      rw (not_at-most t.penalty (pos 0) (omega (arith, order)))
      (record {
        low = lowest t s gap;
        high = highest t s gap;
        low-limited = refl;
        high-limited = refl;
        low_tight = low_end;
        high_tight = high_end;
      })

-- ---- The range

-- D times a limited number, against a number within D times the limits
module _ (D lo hi z v : ℤ) (positive : pos 0 ≼ D) where
  limited_under : D *ℤ lo ≼ v → D *ℤ z ≼ v → D *ℤ limited lo hi z ≼ v
  limited_under l h = by_tests lo hi z (λ a. D *ℤ a ≼ v) (λ _. l) (λ _ above. le_trans (mul-le D positive (omega (arith, order))) h) (λ _ _. h)

  limited_over : v ≼ D *ℤ hi → v ≼ D *ℤ z → v ≼ D *ℤ limited lo hi z
  limited_over l h = by_tests lo hi z (λ a. v ≼ D *ℤ a) (λ below. le_trans h (mul-le D positive (omega (arith, order)))) (λ _ _. l) (λ _ _. h)

pub range-holds : (t : Term) (s gap : ℤ) → pos 0 ≼ gap → HoldsNear t s gap (range_of t s gap)
unfolding range_of
range-holds t s gap some = record {
  each = λ D v one within near.
      let positive : pos 0 ≼ D = omega (arith, order) in
      by_test (λ range. Inside D range v) (weightless t.penalty) (λ _. within)
      (λ w. let p : pos 1 ≼ t.penalty = omega (arith, order) in (
        limited_under D t.low t.high (lowest t s gap) v positive within.0 (low_near t s gap p some D v positive (near p)),
        limited_over D t.low t.high (highest t s gap) v positive within.1 (high-near t s gap p some D v positive (near p)),
      ));
}

-- all clauses of a promise from the first
pub range_promise : (t : Term) (s gap : ℤ) {range : Range} → pos 0 ≼ gap → range ≡ range_of t s gap →
    (range ≡ range_of t s gap) × (HoldsNear t s gap range × (pos 1 ≼ t.penalty → Tightest t s gap range))
range_promise t s gap some e = (e, (rw e (range-holds t s gap some), λ p. rw e (range_tightest t s gap p some)))
