-- Lent multipliers: read as i64, tested for their range, and put at padded places.
use Prim.Native.Nat.{ℕ, ◌+◌, ◌*◌, ◌≤◌}
use mathlib.Core.Path.{◌≡◌, refl, ◌∙◌}
use mathlib.Core.Bool.{false, cond}
use mathlib.Core.Logic.{inl, inr, ⊎_elim}
use mathlib.Core.List.{List}
use native.Mathlib.Omega.{arith}
use lib.Dec.{ltb}
use lib.ListN.{length}
use lib.IntN.{ℤ, pos, nat_abs, neg_ℤ}
use borrow.Author.Tests.{ltb-true, ltb-false, lt-ltb, le-ltb}
use Rattle.integer.specs.Places.{at, Bounded, Stretch, Steps}
use Rattle.integer.proofs.Sizes.{size_low, size-high}
use Rattle.integer.proofs.Places.{lt_or_le, all_bounded, steps-bounded}
use Rattle.integer.proofs.Tests.{in_size, not_outside, by_test, any_none, any_all}
use Rattle.commands.specs.Ranges.{most_multiplier}
use Rattle.problem.specs.Model.{multipliers_of}
use Rattle.primal.specs.Held.{HeldMultipliers}
use Rattle.lent.specs.Checks.{wrong_multipliers}

-- ---- The test of their range

pub multipliers_bounded : (l : List ℤ) → wrong_multipliers l ≡ false → Bounded most_multiplier l
multipliers_bounded l e = all_bounded l (length l) refl (λ p h. in_size most_multiplier (at l p) (any_none (length l) p _ h e))

pub bounded_multipliers : (l : List ℤ) → Bounded most_multiplier l → wrong_multipliers l ≡ false
bounded_multipliers l b =
    any_all (length l) _ (λ p h. not_outside (neg_ℤ (pos most_multiplier)) (pos most_multiplier) (at l p) (size_low (at l p) (b.each p), size-high (at l p) (b.each p)))

-- ---- Padded places

-- f below n, and 0 from n on
unfoldable pub up_to : ℕ → (ℕ → ℤ) → ℕ → ℤ
up_to n f i = cond (ltb i n) (f i) (pos 0)

-- n places filled where 0 stood are w places, 0 from n on
pub stretch_up_to : (o n w : ℕ) (f : ℕ → ℤ) (old new : List ℤ) → n ≤ w → ((p : ℕ) → o ≤ p → at old p ≡ pos 0) →
    Stretch o n f old new → Stretch o w (up_to n f) old new
unfolding up_to
stretch_up_to o n w f old new h blank s = record {
  inside = λ i _.
      by_test (λ z. at new (o + i) ≡ z) (ltb i n) (λ t. s.inside i (ltb-true i n t))
      (λ t. s.outside (o + i) (inr (omega (arith, ltb-false i n t))) ∙ blank (o + i) (omega arith));
  outside = λ p. ⊎_elim (λ l. s.outside p (inl l)) (λ l. s.outside p (inr (omega arith)));
  same = s.same;
}

pub held : (n N : ℕ) (l y : List ℤ) → n ≤ 6 → wrong_multipliers l ≡ false → Steps 6 N (λ k. up_to n (multipliers_of n l k)) y → HeldMultipliers n N (multipliers_of n l) y
unfolding up_to
held n N l y h e s = record {
  same = λ k i a b. s.each k i a (omega arith) ∙ rw (lt-ltb i n b);
  blank = record { each = λ k i a b. ⊎_elim (λ c. s.each k i c b ∙ rw (le-ltb i n a)) (λ c. s.rest (6 * k + i) (omega arith)) (lt_or_le k N) };
  bounded =
      steps-bounded 6 N _ y (omega arith) s
      (λ k i _ _. by_test (λ z. nat_abs z ≤ most_multiplier) (ltb i n) (λ _. (multipliers_bounded l e).each (k * n + i)) (λ _. omega arith));
}
