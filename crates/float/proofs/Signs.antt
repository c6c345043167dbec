-- A size with its sign, as a float holds a number: sums, products and tests of such numbers are those of ℤ.
use Rattle.std.proofs.Common.{◌≡◌, ℕ, zero, suc, ◌+◌, ◌-◌, ◌*◌, Bool, true, false, not, ◌&&◌, ◌||◌, T, eqb, ◌⊎◌, ℤ, pos, ◌*ℤ◌, neg_ℤ, nat_abs, sym, refl, ap, subst, inl, inr, zero-mul, arith, eqb→eq, ltb→lt, nltb→le, T_not}
use mathlib.Core.Bool.{beq}
use lib.Dec.{eqb_refl}
use lib.Ieee.{below, level}
use lib.Ieee.Fits.{and_l, and_r}
use Rattle.integer.specs.Order.{◌≼◌, ◌≺◌}
use Rattle.integer.proofs.Parts.{negated}
use Rattle.integer.proofs.Order.{order, le→, lt→, eq→, le_or_lt}
use Rattle.integer.proofs.Sizes.{size-neg}
use Rattle.float.specs.Value.{signed}

pub signed_mul : (s : Bool) (a b : ℕ) → signed s (a * b) ≡ signed s a *ℤ pos b
signed_mul false a b = refl
signed_mul true zero b = rw zero-mul refl
signed_mul true (suc a) b = refl

pub signed_not : (s : Bool) (a : ℕ) → signed (not s) a ≡ neg_ℤ (signed s a)
signed_not false a = refl
signed_not true zero = refl
signed_not true (suc a) = refl

pub signed-size : (s : Bool) (a : ℕ) → nat_abs (signed s a) ≡ a
signed-size false a = refl
signed-size true a = size-neg (pos a)

-- ---- Tests

below_true : (s : Bool) (a : ℕ) (t : Bool) (b : ℕ) → T (below s a t b) → signed s a ≺ signed t b
below_true false a false b h = omega (arith, order, ltb→lt a b h)
below_true false a true b h = absurd h
below_true true a false b h = omega (arith, order, negated (pos a), ltb→lt 0 (a + b) h)
below_true true a true b h = omega (arith, order, negated (pos a), negated (pos b), ltb→lt b a h)

below_false : (s : Bool) (a : ℕ) (t : Bool) (b : ℕ) → T (not (below s a t b)) → signed t b ≼ signed s a
below_false false a false b h = omega (arith, order, nltb→le a b h)
below_false false a true b h = omega (arith, order, negated (pos b))
below_false true a false b h = omega (arith, order, negated (pos a), nltb→le 0 (a + b) h)
below_false true a true b h = omega (arith, order, negated (pos a), negated (pos b), nltb→le b a h)

level_true : (s : Bool) (a : ℕ) (t : Bool) (b : ℕ) → T (level s a t b) → signed s a ≡ signed t b
level_true s a t b h = go s t (eqb→eq a b (and_l (eqb a b) (beq s t || eqb a 0) h)) (and_r (eqb a b) (beq s t || eqb a 0) h)
  where
    go : (s t : Bool) → a ≡ b → T (beq s t || eqb a 0) → signed s a ≡ signed t b
    go false false e z = ap pos e
    go false true e z = let y = eqb→eq a 0 z in omega (arith, order, negated (pos b))
    go true false e z = let y = eqb→eq a 0 z in omega (arith, order, negated (pos a))
    go true true e z = ap (λ (n : ℕ). neg_ℤ (pos n)) e

same : (a b : ℕ) → a ≡ b → T (eqb a b)
same a b e = subst (λ (n : ℕ). T (eqb a n)) e (eqb_refl a)

both : (b c d : Bool) → T b → T d → T (b && (c || d))
both false c d h k = elim h [ ]
both true true d h k = tt
both true false d h k = k

first : (b : Bool) → T b → T (b && true)
first false h = elim h [ ]
first true h = tt

level_holds : (s : Bool) (a : ℕ) (t : Bool) (b : ℕ) → signed s a ≡ signed t b → T (level s a t b)
level_holds false a false b h = first (eqb a b) (same a b (omega (arith, order, eq→ h)))
level_holds false a true b h = both (eqb a b) false (eqb a 0) (same a b (omega (arith, eq→ h, negated (pos b)))) (same a 0 (omega (arith, eq→ h, negated (pos b))))
level_holds true a false b h = both (eqb a b) false (eqb a 0) (same a b (omega (arith, eq→ h, negated (pos a)))) (same a 0 (omega (arith, eq→ h, negated (pos a))))
level_holds true a true b h = first (eqb a b) (same a b (omega (arith, eq→ h, negated (pos a), negated (pos b))))

either_true : (b c : Bool) → T (b || c) → T b ⊎ T c
either_true true c h = inl tt
either_true false c h = inr h

either_false : (b c : Bool) → T (not (b || c)) → T (not b) × T (not c)
either_false true c h = absurd h
either_false false c h = (tt, h)

at-most_true : (s : Bool) (a : ℕ) (t : Bool) (b : ℕ) → T (below s a t b || level s a t b) → signed s a ≼ signed t b
at-most_true s a t b h = go (either_true (below s a t b) (level s a t b) h)
  where
    go : T (below s a t b) ⊎ T (level s a t b) → signed s a ≼ signed t b
    go (inl k) = omega (arith, order, lt→ (below_true s a t b k))
    go (inr k) = omega (arith, order, eq→ (level_true s a t b k))

at-most_false : (s : Bool) (a : ℕ) (t : Bool) (b : ℕ) → T (not (below s a t b || level s a t b)) → signed t b ≺ signed s a
at-most_false s a t b h = go (le_or_lt (signed s a) (signed t b))
  where
    k : T (not (below s a t b)) × T (not (level s a t b))
    k = either_false (below s a t b) (level s a t b) h

    go : (signed s a ≼ signed t b) ⊎ (signed t b ≺ signed s a) → signed t b ≺ signed s a
    go (inl m) = absurd (T_not (level s a t b) k.1 (level_holds s a t b (omega (arith, order, le→ m, le→ (below_false s a t b k.0)))))
    go (inr l) = l

pub passed : {b : Bool} → b ≡ true → T b
passed e = subst T (sym e) tt

pub failed : {b : Bool} → b ≡ false → T (not b)
failed e = subst (λ (b : Bool). T (not b)) (sym e) tt

pub sign_less : (s : Bool) (a : ℕ) (t : Bool) (b : ℕ) → below s a t b ≡ true → signed s a ≺ signed t b
sign_less s a t b e = below_true s a t b (passed e)

pub sign_not_less : (s : Bool) (a : ℕ) (t : Bool) (b : ℕ) → below s a t b ≡ false → signed t b ≼ signed s a
sign_not_less s a t b e = below_false s a t b (failed e)

pub sign_most : (s : Bool) (a : ℕ) (t : Bool) (b : ℕ) → (below s a t b || level s a t b) ≡ true → signed s a ≼ signed t b
sign_most s a t b e = at-most_true s a t b (passed e)

pub sign_above : (s : Bool) (a : ℕ) (t : Bool) (b : ℕ) → (below s a t b || level s a t b) ≡ false → signed t b ≺ signed s a
sign_above s a t b e = at-most_false s a t b (failed e)

pub sign_equal : (s : Bool) (a : ℕ) (t : Bool) (b : ℕ) → level s a t b ≡ true → signed s a ≡ signed t b
sign_equal s a t b e = level_true s a t b (passed e)

pub sign_unequal : (s : Bool) (a : ℕ) (t : Bool) (b : ℕ) → level s a t b ≡ false → signed s a ≡ signed t b → ⊥
sign_unequal s a t b e h = T_not (level s a t b) (failed e) (level_holds s a t b h)
