-- The order of ℤ. A linear fact from hypotheses is one line, `omega (arith, order, plus a b, ..)`: `order` lets omega read and prove
-- `≼`, `≺` and `≡` of whole numbers and read the tests `lt_z a b ≡ true` and the like; the list has `plus a b` for each sum,
-- `minus a b` for each difference and `negated a` for each negation that occurs. A product counts as a number of its own.
use Prim.Native.Nat.{ℕ, suc, ◌+◌, ◌<◌, ◌≤◌}
use mathlib.Core.Path.{◌≡◌, refl, subst, subst⁻¹}
use mathlib.Core.Logic.{◌⊎◌, inl, inr}
use mathlib.Core.Bool.{Bool, true, false}
use native.Mathlib.Omega.{arith}
use native.Mathlib.Nat.{mul-le-mul_left}
use native.Mathlib.Decide.{dec_le}
use lib.Dec.{T, leb→le, le→leb, ltb→lt, lt→ltb}
use lib.IntN.{ℤ, pos, negsuc, ◌+ℤ◌, ◌-ℤ◌, ◌*ℤ◌, *ℤ-zero}
use lib.Signed.{le_z, lt_z}
use Rattle.integer.specs.Order.{◌≼◌, ◌≺◌}
use Rattle.integer.proofs.Ring.{ring, K, ◌⊕◌, ◌⊖◌, ◌⊗◌, ◌≐◌}
use Rattle.integer.proofs.Parts.{up, dn, same_parts, plus, minus, times}

-- ---- The order by the parts

le_parts : (a b : ℤ) → T (le_z a b) → up a + dn b ≤ up b + dn a
le_parts (pos m) (pos n) t = omega (arith, leb→le m n t)
le_parts (pos m) (negsuc n) t = absurd t
le_parts (negsuc m) (pos n) t = omega arith
le_parts (negsuc m) (negsuc n) t = omega (arith, leb→le n m t)

parts_le : (a b : ℤ) → up a + dn b ≤ up b + dn a → T (le_z a b)
parts_le (pos m) (pos n) h = le→leb m n (omega arith)
parts_le (pos m) (negsuc n) h = let z : ⊥ = omega arith in absurd z
parts_le (negsuc m) (pos n) h = tt
parts_le (negsuc m) (negsuc n) h = le→leb n m (omega arith)

lt_parts : (a b : ℤ) → T (lt_z a b) → up a + dn b < up b + dn a
lt_parts (pos m) (pos n) t = omega (arith, ltb→lt m n t)
lt_parts (pos m) (negsuc n) t = absurd t
lt_parts (negsuc m) (pos n) t = omega arith
lt_parts (negsuc m) (negsuc n) t = omega (arith, ltb→lt n m t)

parts_lt : (a b : ℤ) → up a + dn b < up b + dn a → T (lt_z a b)
parts_lt (pos m) (pos n) h = lt→ltb m n (omega arith)
parts_lt (pos m) (negsuc n) h = let z : ⊥ = omega arith in absurd z
parts_lt (negsuc m) (pos n) h = tt
parts_lt (negsuc m) (negsuc n) h = lt→ltb n m (omega arith)

-- ---- What `omega` is told: a hypothesis in ℕ (`le→ h`), and a goal from ℕ (`→le`)

pub le→ : {a b : ℤ} → a ≼ b → up a + dn b ≤ up b + dn a
le→ {a} {b} h = le_parts a b h.le

pub lt→ : {a b : ℤ} → a ≺ b → up a + dn b < up b + dn a
lt→ {a} {b} h = lt_parts a b h.lt

pub eq→ : {a b : ℤ} → a ≡ b → up a + dn b ≡ up b + dn a
eq→ {a} {b} h = subst (λ (x : ℤ). up a + dn x ≡ up x + dn a) h refl

pub →le : {a b : ℤ} → up a + dn b ≤ up b + dn a → a ≼ b
→le {a} {b} h = record { le = parts_le a b h }

pub →lt : {a b : ℤ} → up a + dn b < up b + dn a → a ≺ b
→lt {a} {b} h = record { lt = parts_lt a b h }

pub →eq : {a b : ℤ} → up a + dn b ≡ up b + dn a → a ≡ b
→eq {a} {b} h = same_parts a b h

passed : {b : Bool} → b ≡ true → T b
passed e = subst⁻¹ T e tt

failed : {b : Bool} → b ≡ false → T b → ⊥
failed e t = subst T e t

not_le : (x y : ℕ) → (x ≤ y → ⊥) → y < x
not_le x y f = go (dec_le x y)
  where
    go : Dec (x ≤ y) → y < x
    go (yes p) = absurd (f p)
    go (no n) = omega arith

pub le_z_true→ : (a b : ℤ) → le_z a b ≡ true → up a + dn b ≤ up b + dn a
le_z_true→ a b e = le_parts a b (passed e)

pub le_z_false→ : (a b : ℤ) → le_z a b ≡ false → up b + dn a < up a + dn b
le_z_false→ a b e = not_le (up a + dn b) (up b + dn a) (λ p. failed e (parts_le a b p))

pub lt_z_true→ : (a b : ℤ) → lt_z a b ≡ true → up a + dn b < up b + dn a
lt_z_true→ a b e = lt_parts a b (passed e)

pub lt_z_false→ : (a b : ℤ) → lt_z a b ≡ false → up b + dn a ≤ up a + dn b
lt_z_false→ a b e =
    let h : up b + dn a < suc (up a + dn b) = not_le (suc (up a + dn b)) (up b + dn a) (λ p. failed e (parts_lt a b p)) in
    omega arith

pub ruleset order = (le→, lt→, eq→, →le, →lt, →eq, le_z_true→, le_z_false→, lt_z_true→, lt_z_false→)

-- ---- Laws that `omega` is not asked for

pub le_or_lt : (a b : ℤ) → (a ≼ b) ⊎ (b ≺ a)
le_or_lt a b = go (dec_le (up a + dn b) (up b + dn a))
  where
    go : Dec (up a + dn b ≤ up b + dn a) → (a ≼ b) ⊎ (b ≺ a)
    go (yes p) = inl (→le p)
    go (no n) = inr (→lt (omega arith))

pub le_trans : {a b c : ℤ} → a ≼ b → b ≼ c → a ≼ c
le_trans h k = omega (arith, order)

-- a is at most b where b is a and something from 0 on; `ring` shows the equation
pub le_by : {a b : ℤ} (d : ℤ) → pos 0 ≼ d → a +ℤ d ≡ b → a ≼ b
le_by {a} {b} d h e = omega (arith, order, plus a d)

pub diff_nonneg : {a b : ℤ} → a ≼ b → pos 0 ≼ b -ℤ a
diff_nonneg {a} {b} h = omega (arith, order, minus b a)

pub diff_nonpos : {a b : ℤ} → a ≼ b → a -ℤ b ≼ pos 0
diff_nonpos {a} {b} h = omega (arith, order, minus a b)

pub add_nonneg : {a b : ℤ} → pos 0 ≼ a → pos 0 ≼ b → pos 0 ≼ a +ℤ b
add_nonneg {a} {b} h k = omega (arith, order, plus a b)

pub add-le : {a b c d : ℤ} → a ≼ b → c ≼ d → a +ℤ c ≼ b +ℤ d
add-le {a} {b} {c} {d} h k = omega (arith, order, plus a c, plus b d)

pub mul_nonneg : {a b : ℤ} → pos 0 ≼ a → pos 0 ≼ b → pos 0 ≼ a *ℤ b
mul_nonneg {a = pos m} {b = pos n} h k = omega (arith, order)
mul_nonneg {a = pos m} {b = negsuc n} h k = absurd k.le
mul_nonneg {a = negsuc m} h k = absurd h.le

pub mul_nonpos : {a b : ℤ} → a ≼ pos 0 → b ≼ pos 0 → pos 0 ≼ a *ℤ b
mul_nonpos {a} {b} h k = rw (ring 2 (λ a b. a ⊗ b ≐ (K 0 ⊖ a) ⊗ (K 0 ⊖ b)) tt a b) (mul_nonneg (diff_nonneg h) (diff_nonneg k))

pub square_nonneg : (a : ℤ) → pos 0 ≼ a *ℤ a
square_nonneg (pos n) = omega (arith, order)
square_nonneg (negsuc n) = omega (arith, order)

pub mul-from_one : {a b : ℤ} → pos 1 ≼ a → pos 1 ≼ b → pos 1 ≼ a *ℤ b
mul-from_one {a} {b} h k =
    le_by ((a -ℤ pos 1) *ℤ b +ℤ (b -ℤ pos 1)) (add_nonneg (mul_nonneg {b = b} (diff_nonneg h) (omega (arith, order))) (diff_nonneg k))
    (ring 2 (λ a b. K 1 ⊕ ((a ⊖ K 1) ⊗ b ⊕ (b ⊖ K 1)) ≐ a ⊗ b) tt a b)

-- a factor from 0 on keeps the order
pub mul-le : (k : ℤ) {a b : ℤ} → pos 0 ≼ k → a ≼ b → k *ℤ a ≼ k *ℤ b
mul-le (pos k) {a} {b} n h = omega (arith, order, times (pos k) a, times (pos k) b, mul-le-mul_left k (le→ h))
mul-le (negsuc k) n h = absurd n.le

-- and is taken off both sides
pub mul_cancel_lt : (k : ℤ) {a b : ℤ} → pos 0 ≼ k → k *ℤ a ≺ k *ℤ b → a ≺ b
mul_cancel_lt k {a} {b} p h = go (le_or_lt b a)
  where
    go : (b ≼ a) ⊎ (a ≺ b) → a ≺ b
    go (inl q) = let z : ⊥ = omega (arith, lt→ h, le→ (mul-le k p q)) in absurd z
    go (inr q) = q

-- a factor from 1 on does the same to < and, taken off, to ≤ and =
pub mul-lt : (k : ℤ) {a b : ℤ} → pos 1 ≼ k → a ≺ b → k *ℤ a ≺ k *ℤ b
mul-lt k {a} {b} p h =
    let l : a +ℤ pos 1 ≼ b = omega (arith, order, plus a (pos 1)) in
    let m : k *ℤ (a +ℤ pos 1) ≼ k *ℤ b = mul-le k (omega (arith, order)) l in
    let e : k *ℤ (a +ℤ pos 1) ≡ k *ℤ a +ℤ k = ring 2 (λ k a. k ⊗ (a ⊕ K 1) ≐ k ⊗ a ⊕ k) tt k a in
    omega (arith, order, eq→ e, le→ m, plus (k *ℤ a) k)

pub mul_cancel_le : (k : ℤ) {a b : ℤ} → pos 1 ≼ k → k *ℤ a ≼ k *ℤ b → a ≼ b
mul_cancel_le k {a} {b} p h = go (le_or_lt a b)
  where
    go : (a ≼ b) ⊎ (b ≺ a) → a ≼ b
    go (inl q) = q
    go (inr q) = let z : ⊥ = omega (arith, le→ h, lt→ (mul-lt k p q)) in absurd z

pub mul_cancel_nonneg : (k : ℤ) {a : ℤ} → pos 1 ≼ k → pos 0 ≼ k *ℤ a → pos 0 ≼ a
mul_cancel_nonneg k p h = mul_cancel_le k p (rw *ℤ-zero h)

pub mul_cancel : (k : ℤ) {a b : ℤ} → pos 1 ≼ k → k *ℤ a ≡ k *ℤ b → a ≡ b
mul_cancel k {a} {b} p e =
    let l : a ≼ b = mul_cancel_le k p (omega (arith, order, eq→ e)) in
    let m : b ≼ a = mul_cancel_le k p (omega (arith, order, eq→ e)) in
    omega (arith, order)

-- the order of squares is that of the numbers, where the larger is from 0 on
pub square_cancel : (a b : ℤ) → pos 0 ≼ b → a *ℤ a ≼ b *ℤ b → a ≼ b
square_cancel a b n h = go (le_or_lt a b)
  where
    go : (a ≼ b) ⊎ (b ≺ a) → a ≼ b
    go (inl q) = q
    go (inr q) =
        let l : a *ℤ b ≺ a *ℤ a = mul-lt a (omega (arith, order)) q in
        let m : b *ℤ b ≼ b *ℤ a = mul-le b n (omega (arith, order)) in
        let z : ⊥ = omega (arith, order, ring 2 (λ a b. b ⊗ a ≐ a ⊗ b) tt a b) in
        absurd z
