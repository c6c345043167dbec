-- The digits of a number, as the code makes them.
use Prim.Native.Nat.{ℕ, zero, suc, ◌/◌, ◌%◌, ◌^◌, ◌<◌, ◌≤◌}
use mathlib.Core.Path.{◌≡◌, refl, sym, ◌∙◌, ap}
use mathlib.Core.Logic.{⊎_elim}
use mathlib.Core.List.{List, [], ◌∷◌, ◌++◌}
use native.Mathlib.Omega.{arith}
use lib.ListN.{length, length-append}
use lib.IntN.{ℤ, pos, negsuc, nat_abs}
use borrow.Author.Tests.{lt-ltb, le-ltb}
use Rattle.integer.specs.Order.{◌≼◌, ◌≺◌}
use Rattle.integer.proofs.Order.{order}
use Rattle.integer.proofs.Places.{lt_or_le}
use Rattle.slip_text.specs.Decimal.{text, digit, digits, decimal, signed_decimal}

-- a number below 10, whatever the divisions
one : (k x : ℕ) → x < 10 → digits k x ≡ digit x ∷ []
unfolding digits
one zero x h = refl
one (suc k) x h = rw (lt-ltb x 10 h)

more : (k x : ℕ) → 10 ≤ x → digits (suc k) x ≡ digits k (x / 10) ++ (digit (x % 10) ∷ [])
unfolding digits
more k x h = rw (le-ltb x 10 h)

-- more divisions than x change nothing
enough : (k l x : ℕ) → x ≤ k → x ≤ l → digits k x ≡ digits l x
enough zero l x h g = one zero x (omega arith) ∙ sym (one l x (omega arith))
enough (suc k) zero x h g = one (suc k) x (omega arith) ∙ sym (one zero x (omega arith))
enough (suc k) (suc l) x h g =
    ⊎_elim (λ s. one (suc k) x s ∙ sym (one (suc l) x s))
    (λ s. more k x s ∙ ap (λ d. d ++ (digit (x % 10) ∷ [])) (enough k l (x / 10) (omega arith) (omega arith)) ∙ sym (more l x s))
    (lt_or_le x 10)

pub decimal_one : (x : ℕ) → x < 10 → decimal x ≡ digit x ∷ []
decimal_one x = one x x

pub decimal_more : (x : ℕ) → 10 ≤ x → decimal x ≡ decimal (x / 10) ++ (digit (x % 10) ∷ [])
decimal_more zero h = let z : ⊥ = omega arith in absurd z
decimal_more (suc x) h = more x (suc x) h ∙ ap (λ (d : List ℕ). d ++ (digit (suc x % 10) ∷ [])) (enough x (suc x / 10) (suc x / 10) (omega arith) (omega arith))

-- k + 1 digits are enough below 10 ^ (k + 1)
pub decimal-length : (k x : ℕ) → x < 10 ^ suc k → length (decimal x) ≤ suc k
decimal-length zero x h = rw (decimal_one x (omega arith)) (omega arith)
decimal-length (suc k) x h =
    ⊎_elim (λ s. rw (decimal_one x s) (omega arith))
    (λ s. rw (decimal_more x s, length-append) (omega (arith, decimal-length k (x / 10) (omega arith))))
    (lt_or_le x 10)

pub signed_below : (x : ℤ) → x ≺ pos 0 → signed_decimal x ≡ text "-" ++ decimal (nat_abs x)
signed_below (pos x) h = let z : ⊥ = omega (arith, order) in absurd z
signed_below (negsuc x) h = refl

pub signed-from : (x : ℤ) → pos 0 ≼ x → signed_decimal x ≡ decimal (nat_abs x)
signed-from (pos x) h = refl
signed-from (negsuc x) h = let z : ⊥ = omega (arith, order) in absurd z
