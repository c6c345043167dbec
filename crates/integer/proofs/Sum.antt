-- Finite sums.
use Prim.Native.Nat.{ℕ, zero, suc, ◌+◌, ◌*◌, ◌-◌, ◌^◌, ◌<◌, ◌≤◌}
use mathlib.Core.Path.{◌≡◌, refl, sym, ◌∙◌, ap, ap₂}
use native.Mathlib.Numerals.{add-one}
use native.Mathlib.Omega.{arith}
use lib.IntN.{ℤ, pos, nat_abs, ◌+ℤ◌, ◌-ℤ◌, ◌*ℤ◌, +ℤ_idl, +ℤ_idr, +ℤ_assoc, +ℤ_comm, *ℤ-zero, *ℤ_comm}
use Rattle.integer.specs.Order.{◌≼◌}
use Rattle.integer.specs.Sum.{sum}
use Rattle.integer.proofs.Ring.{ring, mul-add, ◌⊕◌, ◌⊖◌, ◌⊗◌, ◌≐◌}
use Rattle.integer.proofs.Order.{order, add-le}
use Rattle.integer.proofs.Sizes.{size-add, Formed, formed}

pub sum-none : (f : ℕ → ℤ) → sum 0 f ≡ pos 0
unfolding sum
sum-none f = refl

-- the last term, as a loop's `i += 1` adds it
pub sum_last : (n : ℕ) (f : ℕ → ℤ) → sum (n + 1) f ≡ sum n f +ℤ f n
unfolding sum
sum_last n f = ap (λ (m : ℕ). sum m f) (add-one n)

-- the first n terms, then m more
pub sum_split : (n m : ℕ) (f : ℕ → ℤ) → sum (n + m) f ≡ sum n f +ℤ sum m (λ j. f (n + j))
unfolding sum
sum_split n zero f = let e : n + 0 ≡ n = omega arith in ap (λ (k : ℕ). sum k f) e ∙ sym (+ℤ_idr (sum n f))
sum_split n (suc m) f =
    let e : n + suc m ≡ suc (n + m) = omega arith in
    ap (λ (k : ℕ). sum k f) e ∙ ap (λ (x : ℤ). x +ℤ f (n + m)) (sum_split n m f) ∙ +ℤ_assoc (sum n f) (sum m (λ j. f (n + j))) (f (n + m))

pub sum_first : (n : ℕ) (f : ℕ → ℤ) → sum (n + 1) f ≡ f 0 +ℤ sum n (λ j. f (j + 1))
unfolding sum
sum_first zero f = +ℤ_comm (pos 0) (f 0)
sum_first (suc n) f =
    let e : n + 1 ≡ suc n = omega arith in
    ap (λ (k : ℕ). sum k f) (add-one (suc n)) ∙ ap (λ (k : ℕ). sum k f +ℤ f (suc n)) (sym e)
    ∙ ap (λ (x : ℤ). x +ℤ f (suc n)) (sum_first n f)
    ∙ ap (λ (k : ℕ). f 0 +ℤ sum n (λ j. f (j + 1)) +ℤ f k) (sym e) ∙ +ℤ_assoc (f 0) (sum n (λ j. f (j + 1))) (f (n + 1))

-- ---- Congruence and linearity

pub sum_cong : (n : ℕ) (f g : ℕ → ℤ) → ((j : ℕ) → j < n → f j ≡ g j) → sum n f ≡ sum n g
unfolding sum
sum_cong zero f g h = refl
sum_cong (suc n) f g h = ap₂ (λ (x y : ℤ). x +ℤ y) (sum_cong n f g (λ j p. h j (omega arith))) (h n (omega arith))

pub sum_zero : (n : ℕ) (f : ℕ → ℤ) → ((j : ℕ) → j < n → f j ≡ pos 0) → sum n f ≡ pos 0
unfolding sum
sum_zero zero f h = refl
sum_zero (suc n) f h = ap₂ (λ (x y : ℤ). x +ℤ y) (sum_zero n f (λ j p. h j (omega arith))) (h n (omega arith))

pub sum-add : (n : ℕ) (f g : ℕ → ℤ) → sum n (λ j. f j +ℤ g j) ≡ sum n f +ℤ sum n g
unfolding sum
sum-add zero f g = refl
sum-add (suc n) f g =
    ap (λ (x : ℤ). x +ℤ (f n +ℤ g n)) (sum-add n f g)
    ∙ ring 4 (λ a b c d. (a ⊕ b) ⊕ (c ⊕ d) ≐ (a ⊕ c) ⊕ (b ⊕ d)) tt (sum n f) (sum n g) (f n) (g n)

pub sum-sub : (n : ℕ) (f g : ℕ → ℤ) → sum n (λ j. f j -ℤ g j) ≡ sum n f -ℤ sum n g
unfolding sum
sum-sub zero f g = refl
sum-sub (suc n) f g =
    ap (λ (x : ℤ). x +ℤ (f n -ℤ g n)) (sum-sub n f g)
    ∙ ring 4 (λ a b c d. (a ⊖ b) ⊕ (c ⊖ d) ≐ (a ⊕ c) ⊖ (b ⊕ d)) tt (sum n f) (sum n g) (f n) (g n)

pub sum-mul : (n : ℕ) (k : ℤ) (f : ℕ → ℤ) → sum n (λ j. k *ℤ f j) ≡ k *ℤ sum n f
unfolding sum
sum-mul zero k f = sym (*ℤ-zero k)
sum-mul (suc n) k f = ap (λ (x : ℤ). x +ℤ k *ℤ f n) (sum-mul n k f) ∙ sym (mul-add k (sum n f) (f n))

pub sum-mul_right : (n : ℕ) (k : ℤ) (f : ℕ → ℤ) → sum n (λ j. f j *ℤ k) ≡ sum n f *ℤ k
sum-mul_right n k f = sum_cong n _ _ (λ j p. *ℤ_comm (f j) k) ∙ sum-mul n k f ∙ *ℤ_comm k (sum n f)

-- two sums change places
pub sum_swap : (n m : ℕ) (f : ℕ → ℕ → ℤ) → sum n (λ i. sum m (λ j. f i j)) ≡ sum m (λ j. sum n (λ i. f i j))
unfolding sum
sum_swap zero m f = sym (sum_zero m (λ j. pos 0) (λ j p. refl))
sum_swap (suc n) m f = ap (λ (x : ℤ). x +ℤ sum m (λ j. f n j)) (sum_swap n m f) ∙ sym (sum-add m (λ j. sum n (λ i. f i j)) (λ j. f n j))

-- Σ_i y(i) Σ_j c(i,j) z(j) is Σ_j (Σ_i y(i) c(i,j)) z(j)
pub sum_transpose : (n m : ℕ) (y z : ℕ → ℤ) (c : ℕ → ℕ → ℤ) →
    sum n (λ i. y i *ℤ sum m (λ j. c i j *ℤ z j)) ≡ sum m (λ j. sum n (λ i. y i *ℤ c i j) *ℤ z j)
sum_transpose n m y z c =
    sum_cong n _ _
    (λ i p. sym (sum-mul m (y i) (λ j. c i j *ℤ z j))
    ∙ sum_cong m _ _ (λ j q. ring 3 (λ a b d. a ⊗ (b ⊗ d) ≐ a ⊗ b ⊗ d) tt (y i) (c i j) (z j)))
    ∙ sum_swap n m (λ i j. y i *ℤ c i j *ℤ z j)
    ∙ sum_cong m _ _ (λ j q. sum-mul_right n (z j) (λ i. y i *ℤ c i j))

-- terms from n on that are 0 add nothing, so the sum over a longer fixed length is the same
pub sum_pad : (n N : ℕ) (f : ℕ → ℤ) → n ≤ N → ((j : ℕ) → n ≤ j → j < N → f j ≡ pos 0) → sum N f ≡ sum n f
sum_pad n N f l z =
    let e : N ≡ n + (N - n) = omega arith in
    ap (λ (m : ℕ). sum m f) e ∙ sum_split n (N - n) f
    ∙ ap (λ (x : ℤ). sum n f +ℤ x) (sum_zero (N - n) (λ j. f (n + j)) (λ j p. z (n + j) (omega arith) (omega arith))) ∙ +ℤ_idr (sum n f)

-- one term is left
pub sum_single : (n k : ℕ) (f : ℕ → ℤ) → k < n → ((j : ℕ) → (j ≡ k → ⊥) → f j ≡ pos 0) → sum n f ≡ f k
sum_single n k f h z =
    let r = n - (k + 1) in
    let e : n ≡ k + 1 + r = omega arith in
    ap (λ (m : ℕ). sum m f) e ∙ sum_pad (k + 1) (k + 1 + r) f (omega arith) (λ j a _. z j (λ y. omega arith))
    ∙ sum_last k f ∙ ap (λ (x : ℤ). x +ℤ f k) (sum_zero k f (λ j a. z j (λ y. omega arith))) ∙ +ℤ_idl (f k)

-- ---- Order and size

pub sum-le : (n : ℕ) (f g : ℕ → ℤ) → ((j : ℕ) → j < n → f j ≼ g j) → sum n f ≼ sum n g
unfolding sum
sum-le zero f g h = omega (arith, order)
sum-le (suc n) f g h = add-le (sum-le n f g (λ j p. h j (omega arith))) (h n (omega arith))

-- each term at most B, so n of them at most n times B
pub size-sum : (n B : ℕ) (f : ℕ → ℤ) → ((j : ℕ) → j < n → nat_abs (f j) ≤ B) → nat_abs (sum n f) ≤ n * B
unfolding sum
size-sum zero B f h = omega arith
size-sum (suc n) B f h = omega (arith, size-add (sum n f) (f n) (size-sum n B f (λ j p. h j (omega arith))) (h n (omega arith)))

-- a loop's total a, with the next term b
pub added : (n : ℕ) (f : ℕ → ℤ) {B : ℕ} {a b : ℤ} → ((j : ℕ) → j < n + 1 → nat_abs (f j) ≤ B) → (n + 1) * B < 2 ^ 63 → a ≡ sum n f → b ≡ f n →
    Formed (a +ℤ b) (sum (n + 1) f)
added n f {B} h k d e = formed (rw (d, e, sum_last n f)) (size-sum (n + 1) B f h) k
