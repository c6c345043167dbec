-- Numbers listed, and steps joined: their length, what stands where, and when two such lists are the same.
use Prim.Native.Nat.{ℕ, zero, suc, ◌+◌, ◌*◌, ◌-◌, ◌<◌, ◌≤◌}
use mathlib.Core.Path.{◌≡◌, refl, sym, ◌∙◌, ap, ap₂}
use mathlib.Core.Logic.{⊎_elim}
use mathlib.Core.List.{List, [], ◌∷◌, ◌++◌}
use native.Mathlib.Numerals.{add-one}
use native.Mathlib.Omega.{arith}
use lib.ListN.{length, length-append, get_or, get_or-append}
use lib.Seq.{get_or_at, get_or-append-add, ext_get_or}
use lib.IntN.{ℤ, pos, nat_abs}
use Rattle.integer.specs.Places.{at, Bounded}
use Rattle.integer.proofs.Places.{lt_or_le, all_bounded, step_room}
use Rattle.problem.specs.Model.{Plan, plan_of, multipliers_of}
use Rattle.primal.specs.Lent.{listed, joined, lent_multipliers, lent_plan}

-- ---- Listed

module _ {A : Type 0} where
  pub length-listed : (n : ℕ) (f : ℕ → A) → length (listed n f) ≡ n
  unfolding listed
  length-listed zero f = refl
  length-listed (suc n) f = omega (arith, length-append (listed n f) (f n ∷ []), length-listed n f)

  -- d is what stands past the end
  pub get_d_listed : (d : A) (n : ℕ) (f : ℕ → A) (j : ℕ) → j < n → get_or (listed n f) j d ≡ f j
  unfolding listed
  get_d_listed d zero f j h = let z : ⊥ = omega arith in absurd z
  get_d_listed d (suc n) f j h =
      ⊎_elim (λ l. get_or-append (listed n f) (f n ∷ []) d j (omega (arith, length-listed n f)) ∙ get_d_listed d n f j l)
      (λ l. let e : j ≡ n = omega arith in rw e (get_or_at (listed n f) (f n) [] d n (length-listed n f))) (lt_or_le j n)

  pub listed_cong : (n : ℕ) (f g : ℕ → A) → ((j : ℕ) → j < n → f j ≡ g j) → listed n f ≡ listed n g
  unfolding listed
  listed_cong zero f g h = refl
  listed_cong (suc n) f g h = ap₂ (λ (l : List A) (z : A). l ++ z ∷ []) (listed_cong n f g (λ j l. h j (omega arith))) (h n (omega arith))

  pub listed-whole : (d : A) (l : List A) (n : ℕ) (f : ℕ → A) → length l ≡ n → ((j : ℕ) → j < n → get_or l j d ≡ f j) → l ≡ listed n f
  listed-whole d l n f e h =
      ext_get_or d l (listed n f) (e ∙ sym (length-listed n f)) (λ j k. let b : j < n = omega arith in h j b ∙ sym (get_d_listed d n f j b))

pub at_listed : (n : ℕ) (f : ℕ → ℤ) (j : ℕ) → j < n → at (listed n f) j ≡ f j
at_listed = get_d_listed (pos 0)

pub bounded-listed : {B : ℕ} (n : ℕ) (f : ℕ → ℤ) → ((j : ℕ) → j < n → nat_abs (f j) ≤ B) → Bounded B (listed n f)
bounded-listed n f b = all_bounded (listed n f) n (length-listed n f) (λ j h. rw (at_listed n f j h) (b j h))

-- ---- Two lists joined: places of the first, then of the second

at_second : (l r : List ℤ) (n j : ℕ) → length l ≡ n → at (l ++ r) (n + j) ≡ at r j
at_second l r n j e = rw (← e) (get_or-append-add l r j (pos 0))

bounded-append : {B : ℕ} (l r : List ℤ) → Bounded B l → Bounded B r → Bounded B (l ++ r)
bounded-append l r a b = record {
  each = λ p.
      ⊎_elim (λ h. rw (get_or-append l r (pos 0) p h) (a.each p))
      (λ h. let e : p ≡ length l + (p - length l) = omega arith in rw (e, get_or-append-add l r (p - length l) (pos 0)) (b.each (p - length l)))
      (lt_or_le p (length l));
}

-- ---- Joined

pub joined_more : (k : ℕ) (f : ℕ → List ℤ) → joined (k + 1) f ≡ joined k f ++ f k
unfolding joined
joined_more k f = ap (λ (c : ℕ). joined c f) (add-one k)

pub joined_cong : (N : ℕ) (f g : ℕ → List ℤ) → ((k : ℕ) → k < N → f k ≡ g k) → joined N f ≡ joined N g
unfolding joined
joined_cong zero f g h = refl
joined_cong (suc N) f g h = ap₂ (λ (l r : List ℤ). l ++ r) (joined_cong N f g (λ k l. h k (omega arith))) (h N (omega arith))

pub bounded-joined : {B : ℕ} (N : ℕ) (f : ℕ → List ℤ) → ((k : ℕ) → k < N → Bounded B (f k)) → Bounded B (joined N f)
unfolding joined
bounded-joined zero f b = record { each = λ p. omega arith }
bounded-joined (suc N) f b = bounded-append (joined N f) (f N) (bounded-joined N f (λ k h. b k (omega arith))) (b N (omega arith))

-- steps of d places each
pub length-joined : (d N : ℕ) (f : ℕ → List ℤ) → ((k : ℕ) → length (f k) ≡ d) → length (joined N f) ≡ N * d
unfolding joined
length-joined d zero f h = omega arith
length-joined d (suc N) f h = omega (arith, length-append (joined N f) (f N), length-joined d N f h, h N)

pub at_joined : (d N : ℕ) (f : ℕ → List ℤ) → ((k : ℕ) → length (f k) ≡ d) → (k j : ℕ) → k < N → j < d →
    at (joined N f) (k * d + j) ≡ at (f k) j
unfolding joined
at_joined d zero f h k j a b = let z : ⊥ = omega arith in absurd z
at_joined d (suc N) f h k j a b =
    ⊎_elim
    (λ l. get_or-append (joined N f) (f N) (pos 0) (k * d + j) (omega (arith, length-joined d N f h, step_room d k N l)) ∙ at_joined d N f h k j l b)
    (λ l. let e : k ≡ N = omega arith in rw e (at_second (joined N f) (f N) (N * d) j (length-joined d N f h))) (lt_or_le k N)

-- ---- Lent multipliers

pub length_lent_multipliers : (n N : ℕ) (y : ℕ → ℕ → ℤ) → length (lent_multipliers n N y) ≡ N * n
length_lent_multipliers n N y = length-joined n N _ (λ k. length-listed n (y k))

pub lent_multipliers_at : (n N : ℕ) (y : ℕ → ℕ → ℤ) (k i : ℕ) → k < N → i < n → multipliers_of n (lent_multipliers n N y) k i ≡ y k i
lent_multipliers_at n N y k i h l = at_joined n N _ (λ k. length-listed n (y k)) k i h l ∙ at_listed n (y k) i l

pub lent_multipliers_cong : (n N : ℕ) (y z : ℕ → ℕ → ℤ) → ((k i : ℕ) → k < N → i < n → y k i ≡ z k i) → lent_multipliers n N y ≡ lent_multipliers n N z
lent_multipliers_cong n N y z e = joined_cong N _ _ (λ k h. listed_cong n (y k) (z k) (λ i l. e k i h l))

pub lent_multipliers_bounded : {B : ℕ} (n N : ℕ) (y : ℕ → ℕ → ℤ) → ((k i : ℕ) → k < N → i < n → nat_abs (y k i) ≤ B) → Bounded B (lent_multipliers n N y)
lent_multipliers_bounded n N y b = bounded-joined N _ (λ k h. bounded-listed n (y k) (λ i l. b k i h l))

-- ---- Lent plans: a step's m inputs, then its n states

pub length-step : (n m : ℕ) (v : Plan) (k : ℕ) → length (listed m (v.u k) ++ listed n (v.x k)) ≡ n + m
length-step n m v k =
    omega (arith, length-append (listed m (v.u k)) (listed n (v.x k)), length-listed m (v.u k), length-listed n (v.x k))

pub length_lent_plan : (n m N : ℕ) (v : Plan) → length (lent_plan n m N v) ≡ N * (n + m)
length_lent_plan n m N v = length-joined (n + m) N _ (length-step n m v)

pub lent_plan_input : (n m N : ℕ) (v : Plan) (k j : ℕ) → k < N → j < m → (plan_of n m (lent_plan n m N v)).u k j ≡ v.u k j
lent_plan_input n m N v k j h l =
    at_joined (n + m) N _ (length-step n m v) k j h (omega arith)
    ∙ get_or-append (listed m (v.u k)) (listed n (v.x k)) (pos 0) j (omega (arith, length-listed m (v.u k)))
    ∙ at_listed m (v.u k) j l

pub lent_plan_state : (n m N : ℕ) (v : Plan) (k i : ℕ) → k < N → i < n → (plan_of n m (lent_plan n m N v)).x k i ≡ v.x k i
lent_plan_state n m N v k i h l =
    at_joined (n + m) N _ (length-step n m v) k (m + i) h (omega arith)
    ∙ at_second (listed m (v.u k)) (listed n (v.x k)) m i (length-listed m (v.u k)) ∙ at_listed n (v.x k) i l

pub lent_plan_cong : (n m N : ℕ) (v w : Plan) → ((k j : ℕ) → k < N → j < m → v.u k j ≡ w.u k j) →
    ((k i : ℕ) → k < N → i < n → v.x k i ≡ w.x k i) → lent_plan n m N v ≡ lent_plan n m N w
lent_plan_cong n m N v w eu ex =
    joined_cong N _ _
    (λ k h. ap₂ (λ (l r : List ℤ). l ++ r) (listed_cong m (v.u k) (w.u k) (λ j l. eu k j h l)) (listed_cong n (v.x k) (w.x k) (λ i l. ex k i h l)))
