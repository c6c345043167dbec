-- How a float's test for being finite is made: a − a is 0 for a finite a, and not a number for another.
use Rattle.std.proofs.Common.{◌≡◌, ℕ, ◌^◌, ◌<◌, Bool, true, false, not, T, pos, ◌-ℤ◌, nat_abs, sym, refl, subst, true≢false, arith, pow_pos}
use lib.Ieee.{Float, nan, inf, fin, binary64, sub, add, neg, fits, eq, ne}
use Rattle.integer.proofs.Order.{order}
use Rattle.integer.proofs.Parts.{minus}
use Rattle.float.specs.Value.{finite, Finite, numerator, Equals}
use Rattle.float.proofs.Values.{own, value_unequal}
use Rattle.float.proofs.Exact.{exact_sub, shape}

abbrev zero_float_lem : Float
zero_float_lem = fin false 0 (pos 0)

pub finite_of : (a : Float) → ne (sub binary64 a a) zero_float_lem ≡ false → finite a ≡ true
unfolding ne eq sub add neg
finite_of nan h = absurd (true≢false h)
finite_of (inf false) h = absurd (true≢false h)
finite_of (inf true) h = absurd (true≢false h)
finite_of (fin s m e) h = refl

flip : (b : Bool) → not b ≡ true → b ≡ false
flip true e = sym e
flip false e = refl

unequal_of : (x y : Float) → ne x y ≡ true → eq x y ≡ false
unfolding ne
unequal_of x y h = flip (eq x y) h

own_difference : (a : Float) → Finite a → T (fits binary64 a) → ne (sub binary64 a a) zero_float_lem ≡ true → ⊥
own_difference a f g h =
    let s = shape a f g in
    let n = numerator a in
    let v : Equals a n (2 ^ s.places) = subst (λ (d : ℕ). Equals a n d) s.is (own a f) in
    let z : n -ℤ n ≡ pos 0 = omega (arith, order, minus n n) in
    let small : nat_abs (n -ℤ n) < 2 ^ 53 = rw z (omega arith) in
    let w = exact_sub v v s.few small in
    value_unequal w (own zero_float_lem tt) (pow_pos s.places) (omega arith) (unequal_of (sub binary64 a a) zero_float_lem h)
    (rw z (omega (arith, order)))

pub not_finite : (a : Float) → T (fits binary64 a) → ne (sub binary64 a a) zero_float_lem ≡ true → finite a ≡ false
not_finite nan g h = refl
not_finite (inf s) g h = refl
not_finite (fin s m e) g h = absurd (own_difference (fin s m e) tt g h)
