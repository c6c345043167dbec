-- The next multiplier, by the three tests on d.
use Prim.Native.Nat.{◌*◌, ◌≤◌}
use mathlib.Core.Path.{◌≡◌, refl, sym}
use mathlib.Core.Bool.{true, false, true≢false}
use native.Mathlib.Omega.{arith}
use lib.IntN.{ℤ, pos, negsuc, nat_abs, ◌+ℤ◌, ◌*ℤ◌, *ℤ-one, one, +ℤ_idr}
use lib.Ieee.{Float, nan, inf, fin, le}
use Rattle.integer.specs.Order.{◌≼◌, ◌≺◌}
use Rattle.integer.specs.Quotient.{◌÷◌}
use Rattle.integer.proofs.Limited.{limited-inside, limited_top, limited_bottom}
use Rattle.integer.proofs.Order.{order, le→, lt→}
use Rattle.integer.proofs.Parts.{plus, negated}
use Rattle.integer.proofs.Sizes.{size_by, size_low, size-high}
use Rattle.commands.specs.Ranges.{most_multiplier}
use Rattle.float.specs.Value.{finite, Finite, numerator, denominator}
use Rattle.float.specs.Nearest.{nearest_whole, Within}
use Rattle.float.proofs.Values.{own, denominator_pos, value-most, value-above}
use Rattle.float.proofs.Rounded.{nearest-least, nearest-most}
use Rattle.steps.specs.Steps.{ascended}
use Rattle.ascent.specs.Correction.{whole_nearest}

-- 2^25 and −2^25
abbrev top : Float
top = fin false 1 (pos 25)

abbrev bottom : Float
bottom = fin true 1 (pos 25)

not_finite-is : (d : Float) → finite d ≡ false → whole_nearest d ≡ pos 0
unfolding whole_nearest ◌÷◌
not_finite-is nan h = refl
not_finite-is (inf s) h = refl
not_finite-is (fin s m e) h = absurd (true≢false h)

-- ---- The tests against 2^25 and −2^25

module _ (d : Float) (f : Finite d) where
  one_times : numerator d *ℤ pos 1 ≡ numerator d
  unfolding one
  one_times = *ℤ-one (numerator d)

  top_tested : le top d ≡ true → pos 33554432 *ℤ pos (denominator d) ≼ numerator d
  top_tested t = rw one_times at (value-most (own top tt) (own d f) (omega arith) (denominator_pos d) t)

  top_passed : le top d ≡ false → numerator d ≺ pos 33554432 *ℤ pos (denominator d)
  top_passed t = rw one_times at (value-above (own top tt) (own d f) (omega arith) (denominator_pos d) t)

  bottom_tested : le d bottom ≡ true → numerator d ≼ negsuc 33554431 *ℤ pos (denominator d)
  bottom_tested t = rw one_times at (value-most (own d f) (own bottom tt) (denominator_pos d) (omega arith) t)

  bottom_passed : le d bottom ≡ false → negsuc 33554431 *ℤ pos (denominator d) ≺ numerator d
  bottom_passed t = rw one_times at (value-above (own d f) (own bottom tt) (denominator_pos d) (omega arith) t)

-- ---- The cases of `next_multiplier`

module _ (y : ℤ) (d : Float) (small : nat_abs y ≤ most_multiplier) where
  pub not_finite-next : finite d ≡ false → y ≡ ascended y (whole_nearest d)
  unfolding ascended
  not_finite-next h =
      rw (not_finite-is d h, +ℤ_idr y) (sym (limited-inside (negsuc 16777215) (pos 16777216) y (size_low y small) (size-high y small)))

  pub top_next : Finite d → le top d ≡ true → pos 16777216 ≡ ascended y (whole_nearest d)
  unfolding ascended whole_nearest
  top_next f t =
      let k = nearest-least (numerator d) (denominator d) (pos 33554432) (denominator_pos d) (top_tested d f t) in
      sym (limited_top (negsuc 16777215) (pos 16777216) (y +ℤ nearest_whole (numerator d) (denominator d)) (omega (arith, order))
      (omega (arith, order, le→ k, le→ (size_low y small), plus y (nearest_whole (numerator d) (denominator d)))))

  pub bottom_next : Finite d → le d bottom ≡ true → negsuc 16777215 ≡ ascended y (whole_nearest d)
  unfolding ascended whole_nearest
  bottom_next f t =
      let k = nearest-most (numerator d) (denominator d) (negsuc 33554431) (denominator_pos d) (bottom_tested d f t) in
      sym (limited_bottom (negsuc 16777215) (pos 16777216) (y +ℤ nearest_whole (numerator d) (denominator d)) (omega (arith, order))
      (omega (arith, order, le→ k, le→ (size-high y small), plus y (nearest_whole (numerator d) (denominator d)))))

module _ (d : Float) (f : Finite d) (t : le top d ≡ false) (b : le d bottom ≡ false) where
  pub within : Within 67108864 d
  within = record {
    finite = f;
    size = size_by {z = numerator d} {B = 67108864 * denominator d}
        (omega (arith, order, lt→ (bottom_passed d f b), negated (pos (33554432 * denominator d)), negated (pos (67108864 * denominator d))))
        (omega (arith, order, lt→ (top_passed d f t)));
  }

  pub nearest-size : nat_abs (nearest_whole (numerator d) (denominator d)) ≤ 33554432
  nearest-size =
      size_by (nearest-least (numerator d) (denominator d) (negsuc 33554431) (denominator_pos d) (omega (arith, order, lt→ (bottom_passed d f b))))
      (nearest-most (numerator d) (denominator d) (pos 33554432) (denominator_pos d) (omega (arith, order, lt→ (top_passed d f t))))
