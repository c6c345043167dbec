-- A whole number is the difference of its positive part `up` and its negative part `dn`, two natural numbers. The parts decide
-- equality and order, so that a fact about ℤ becomes one about ℕ, which `omega` proves.
use Prim.Native.Nat.{ℕ, zero, suc, ◌+◌, ◌*◌, ◌-◌, ◌<◌, ◌≤◌, min}
use mathlib.Core.Path.{◌≡◌, refl, ap}
use mathlib.Core.Bool.{Bool, true, false, not, cond}
use native.Mathlib.Omega.{arith}
use lib.Dec.{T, ltb, ltb→lt, nltb→le}
use lib.IntN.{ℤ, pos, negsuc, neg_ℤ, sub_ℕ, ◌+ℤ◌, ◌-ℤ◌, ◌*ℤ◌}

abbrev pub up : ℤ → ℕ
up (pos n) = n
up (negsuc n) = 0

abbrev pub dn : ℤ → ℕ
dn (pos n) = 0
dn (negsuc n) = suc n

-- one of the parts is 0
pub apart : (z : ℤ) → min (up z) (dn z) ≡ 0
apart (pos n) = omega arith
apart (negsuc n) = omega arith

-- the parts decide equality
pub same_parts : (a b : ℤ) → up a + dn b ≡ up b + dn a → a ≡ b
same_parts (pos m) (pos n) h = ap pos (omega arith)
same_parts (pos m) (negsuc n) h = let z : ⊥ = omega arith in absurd z
same_parts (negsuc m) (pos n) h = let z : ⊥ = omega arith in absurd z
same_parts (negsuc m) (negsuc n) h = ap negsuc (omega arith)

-- ---- The parts of a sum, a difference, a negation and a product, for `omega`'s list

by_test : (c : Bool) (x y : ℤ) (P : ℤ → Type 0) → (T c → P x) → (T (not c) → P y) → P (cond c x y)
by_test true x y P f g = f tt
by_test false x y P f g = g tt

less : (p n : ℕ) → up (sub_ℕ p n) + n ≡ p + dn (sub_ℕ p n)
less p n =
    by_test (ltb p n) (negsuc (n - suc p)) (pos (p - n)) (λ z. up z + n ≡ p + dn z)
    (λ t. let h : p < n = ltb→lt p n t in omega arith)
    (λ t. let h : n ≤ p = nltb→le p n t in omega arith)

pub plus : (a b : ℤ) → up (a +ℤ b) + (dn a + dn b) ≡ up a + up b + dn (a +ℤ b)
plus (pos m) (pos n) = omega arith
plus (pos m) (negsuc n) = omega (arith, less m (suc n))
plus (negsuc m) (pos n) = omega (arith, less n (suc m))
plus (negsuc m) (negsuc n) = omega arith

pub negated : (a : ℤ) → (up (neg_ℤ a) ≡ dn a) × (dn (neg_ℤ a) ≡ up a)
negated (pos zero) = (refl, refl)
negated (pos (suc n)) = (refl, refl)
negated (negsuc n) = (refl, refl)

pub minus : (a b : ℤ) → up (a -ℤ b) + (dn a + up b) ≡ up a + dn b + dn (a -ℤ b)
minus a b = omega (arith, plus a (neg_ℤ b), negated b)

pub times : (a b : ℤ) → (up (a *ℤ b) ≡ up a * up b + dn a * dn b) × (dn (a *ℤ b) ≡ up a * dn b + dn a * up b)
times (pos m) (pos n) = (omega arith, omega arith)
times (pos m) (negsuc n) = let h = negated (pos (m * suc n)) in (omega arith, omega arith)
times (negsuc m) (pos n) = let h = negated (pos (suc m * n)) in (omega arith, omega arith)
times (negsuc m) (negsuc n) = (omega arith, omega arith)
