-- Laws about tests: both branches of one, chains of `||`, of two numbers whose order is known, of a number and its range, any of
-- several, and how many of them.
use Prim.Native.Nat.{ℕ, zero, suc, ◌+◌, ◌-◌, ◌<◌, ◌≤◌}
use mathlib.Core.Path.{◌≡◌, refl, sym, ◌∙◌, ap, ap₂}
use mathlib.Core.Bool.{Bool, true, false, cond, ◌&&◌, ◌||◌, true≢false, or-true, or-false}
use mathlib.Core.Logic.{◌⊎◌, ⊎_elim}
use mathlib.Core.List.{List, [], ◌∷◌}
use native.Mathlib.Nat.{add-zero, add-suc, add_assoc}
use native.Mathlib.Numerals.{add-one}
use native.Mathlib.Omega.{arith}
use lib.Dec.{ltb}
use lib.IntN.{ℤ, pos, neg_ℤ, nat_abs}
use lib.Signed.{le_z, lt_z}
use borrow.Author.Tests.{lt-ltb, le-ltb}
use Rattle.integer.specs.Order.{◌≼◌, ◌≺◌}
use Rattle.integer.specs.Tests.{outside, any, count}
use Rattle.integer.proofs.Order.{order}
use Rattle.integer.proofs.Sizes.{size_by, size_parts}
use Rattle.integer.proofs.Places.{lt_or_le}

-- ---- Tests in a definition

-- what both branches of a test have
pub by_test : {A : Type 0} (P : A → Type 0) (test : Bool) {x y : A} → (test ≡ true → P x) → (test ≡ false → P y) → P (cond test x y)
by_test P true f g = f refl
by_test P false f g = g refl

-- tests that say the same
pub same_test : (a b c d : ℕ) → (a < b → c < d) → (c < d → a < b) → ltb a b ≡ ltb c d
same_test a b c d f g =
    ⊎_elim
    (λ l. lt-ltb a b l ∙ sym (lt-ltb c d (f l)))
    (λ l. le-ltb a b l ∙ sym (le-ltb c d (⊎_elim (λ h. let z : ⊥ = omega (arith, g h) in absurd z) (λ h. h) (lt_or_le c d))))
    (lt_or_le a b)

-- a first test and more, joined by `||`
abbrev pub joined : Bool → List Bool → Bool
joined a [] = a
joined a (b ∷ l) = joined (a || b) l

abbrev pub None : List Bool → Type 0
None [] = Unit {0}
None (a ∷ l) = (a ≡ false) × None l

pub none : (a : Bool) (l : List Bool) → joined a l ≡ false → None (a ∷ l)
none a [] e = (e, tt)
none a (b ∷ l) e = let o = none (a || b) l e in both a o.0 o.1
  where
    both : (a : Bool) → a || b ≡ false → None l → None (a ∷ b ∷ l)
    both true e n = absurd (true≢false e)
    both false e n = (refl, (e, n))

-- ---- The test of two numbers whose order is known

is_true : (test : Bool) → (test ≡ false → ⊥) → test ≡ true
is_true true n = refl
is_true false n = absurd (n refl)

is_false : (test : Bool) → (test ≡ true → ⊥) → test ≡ false
is_false true n = absurd (n refl)
is_false false n = refl

pub not_less : (a b : ℤ) → b ≼ a → lt_z a b ≡ false
not_less a b h = is_false (lt_z a b) (λ e. omega (arith, order))

pub at_most : (a b : ℤ) → a ≼ b → le_z a b ≡ true
at_most a b h = is_true (le_z a b) (λ e. omega (arith, order))

pub not_at-most : (a b : ℤ) → b ≺ a → le_z a b ≡ false
not_at-most a b h = is_false (le_z a b) (λ e. omega (arith, order))

-- ---- A number in its range

pub in_range : (lo hi v : ℤ) → outside lo hi v ≡ false → (lo ≼ v) × (v ≼ hi)
unfolding outside
in_range lo hi v e = let o = none (lt_z v lo) (lt_z hi v ∷ []) e in omega (arith, order)

-- and back
pub not_outside : (lo hi v : ℤ) → (lo ≼ v) × (v ≼ hi) → outside lo hi v ≡ false
unfolding outside
not_outside lo hi v h = rw (not_less v lo h.0, not_less hi v h.1)

pub in_size : (B : ℕ) (v : ℤ) → outside (neg_ℤ (pos B)) (pos B) v ≡ false → nat_abs v ≤ B
in_size B v e = let h = in_range (neg_ℤ (pos B)) (pos B) v e in size_by h.0 h.1

pub range_size : (lo hi v : ℤ) {B : ℕ} → nat_abs lo ≤ B → nat_abs hi ≤ B → outside lo hi v ≡ false → nat_abs v ≤ B
range_size lo hi v l h e = let w = in_range lo hi v e in omega (arith, order, size_parts lo, size_parts hi, size_parts v)

-- ---- p || y, where the code has found p to be q: it goes on with q where q holds, and with y where it does not

pub or_yes : {p q r : Bool} (y : Bool) → q ≡ p → q ≡ true → r ≡ q → r ≡ p || y
or_yes y e t f = rw (← e, t) (f ∙ t)

pub or_no : {p q r y : Bool} → q ≡ p → q ≡ false → r ≡ y → r ≡ p || y
or_no e t f = rw (← e, t) f

-- where the two ways have met again, with r
pub or_met : {A B : Type 0} {p q r y : Bool} → q ≡ p → A ⊎ B → (A → (q ≡ true) × (r ≡ q)) → (B → (q ≡ false) × (r ≡ y)) → r ≡ p || y
or_met {y = y} e w f g = ⊎_elim (λ a. or_yes y e (f a).0 (f a).1) (λ b. or_no e (g b).0 (g b).1) w

-- ---- Any of several

pub any_at : (count p : ℕ) (f : ℕ → Bool) → p < count → f p ≡ true → any count f ≡ true
unfolding any
any_at zero p f h e = let z : ⊥ = omega arith in absurd z
any_at (suc count) p f h e =
    ⊎_elim (λ l. rw (any_at count p f l e)) (λ l. let z : count ≡ p = omega arith in rw (z, e) (or-true (any p f))) (lt_or_le p count)

pub any_more : (count : ℕ) (f : ℕ → Bool) → any count f ≡ false → f count ≡ false → any (count + 1) f ≡ false
unfolding any
any_more count f e h = rw (add-one count, e, h)

pub any_none : (count p : ℕ) (f : ℕ → Bool) → p < count → any count f ≡ false → f p ≡ false
unfolding any
any_none zero p f h e = let z : ⊥ = omega arith in absurd z
any_none (suc count) p f h e =
    let o = none (any count f) (f count ∷ []) e in
    ⊎_elim (λ l. any_none count p f l o.0) (λ l. let z : p ≡ count = omega arith in rw z o.1.0) (lt_or_le p count)

pub any_all : (count : ℕ) (f : ℕ → Bool) → ((p : ℕ) → p < count → f p ≡ false) → any count f ≡ false
unfolding any
any_all zero f h = refl
any_all (suc count) f h = rw (any_all count f (λ p l. h p (omega arith)), h count (omega arith))

pub any_cong : (n : ℕ) (f g : ℕ → Bool) → ((p : ℕ) → p < n → f p ≡ g p) → any n f ≡ any n g
unfolding any
any_cong zero f g h = refl
any_cong (suc n) f g h = ap₂ ◌||◌ (any_cong n f g (λ p l. h p (omega arith))) (h n (omega arith))

-- ---- How many of several

pub count_cong : (n : ℕ) (f g : ℕ → Bool) → ((p : ℕ) → p < n → f p ≡ g p) → count n f ≡ count n g
unfolding count
count_cong zero f g h = refl
count_cong (suc n) f g h = ap₂ (λ (c : ℕ) (b : Bool). c + cond b 1 0) (count_cong n f g (λ p l. h p (omega arith))) (h n (omega arith))

pub count_none : (n : ℕ) (f : ℕ → Bool) → ((p : ℕ) → p < n → f p ≡ false) → count n f ≡ 0
unfolding count
count_none zero f h = refl
count_none (suc n) f h = rw (count_none n f (λ p l. h p (omega arith)), h n (omega arith))

pub count-le : (n : ℕ) (f : ℕ → Bool) → count n f ≤ n
unfolding count
count-le zero f = omega arith
count-le (suc n) f = go (f n) (count-le n f)
  where
    go : (b : Bool) → count n f ≤ n → count n f + cond b 1 0 ≤ suc n
    go true h = omega arith
    go false h = omega arith

-- those below a, and the b behind them
pub count_parts : (a b : ℕ) (f : ℕ → Bool) → count (a + b) f ≡ count a f + count b (λ p. f (a + p))
unfolding count
count_parts a zero f = rw (add-zero a) (sym (add-zero (count a f)))
count_parts a (suc b) f =
    rw (add-suc a b)
    (ap (λ (c : ℕ). c + cond (f (a + b)) 1 0) (count_parts a b f) ∙ add_assoc (count a f) (count b (λ p. f (a + p))) (cond (f (a + b)) 1 0))

-- those of w that are among the first n
pub count-first : (w n : ℕ) (f : ℕ → Bool) → n ≤ w → count w (λ p. ltb p n && f p) ≡ count n f
count-first w n f h =
    let first : ℕ → Bool = λ p. ltb p n && f p in
    let e : w ≡ n + (w - n) = omega arith in
    ap (λ (k : ℕ). count k first) e ∙ count_parts n (w - n) first
    ∙ ap₂ ◌+◌
    (count_cong n first f (λ p l. ap (λ (b : Bool). b && f p) (lt-ltb p n l)))
    (count_none (w - n) (λ p. first (n + p)) (λ p l. ap (λ (b : Bool). b && f (n + p)) (le-ltb (n + p) n (omega arith))))
    ∙ add-zero (count n f)

-- those of a stretch outside of which there are none
pub count_stretch : (a w n : ℕ) (f : ℕ → Bool) → n ≤ a + w → ((p : ℕ) → p < a → f p ≡ false) → ((p : ℕ) → n ≤ p → f p ≡ false)
    → count w (λ p. f (a + p)) ≡ count n f
count_stretch a w n f h before behind =
    let e : a + w ≡ n + (a + w - n) = omega arith in
    let none-behind = count_none (a + w - n) (λ p. f (n + p)) (λ p l. behind (n + p) (omega arith)) in
    omega (arith, count_none a f before, count_parts a w f, ap (λ (k : ℕ). count k f) e, count_parts n (a + w - n) f, none-behind)

-- any of them has f exactly when their count is above 0
pub any-count : (n : ℕ) (f : ℕ → Bool) → any n f ≡ ltb 0 (count n f)
unfolding any count
any-count zero f = refl
any-count (suc n) f = go (f n) (any-count n f)
  where
    go : (b : Bool) → any n f ≡ ltb 0 (count n f) → any n f || b ≡ ltb 0 (count n f + cond b 1 0)
    go true e = or-true (any n f) ∙ sym (lt-ltb 0 (count n f + 1) (omega arith))
    go false e = or-false (any n f) ∙ e ∙ ap (ltb 0) (sym (add-zero (count n f)))
