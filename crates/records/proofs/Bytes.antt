-- A record's bytes: how long its fields are, and what stands at each of their places.
use Prim.Native.Nat.{ℕ, suc, ◌+◌, ◌-◌, ◌*◌, ◌^◌, ◌<◌, ◌≤◌}
use mathlib.Core.Path.{◌≡◌, refl, sym, ap, ap₂, ◌∙◌}
use mathlib.Core.List.{List, [], ◌∷◌, ◌++◌, append_assoc, append-nil}
use native.Mathlib.Omega.{arith}
use native.Mathlib.Nat.{mul-le-mul}
use native.Mathlib.Numerals.{add-one}
use lib.ListN.{length, take, length-append, length-replicate, replicate}
use lib.Seq.{take-suc, take_at, drop_at}
use lib.IntN.{ℤ, pos, nat_abs}
use borrow.Rule.Slice.PartMut.{mid_of, put_mid}
use Rattle.integer.specs.Encoding.{unsigned_bytes, complement, signed_bytes}
use Rattle.integer.specs.Places.{at, Bounded}
use Rattle.integer.proofs.Encoding.{bytes_length, in_bytes, signed_back}
use Rattle.integer.proofs.Filled.{Filled, filled_none, filled_part, next_part, filled_end}
use Rattle.records.specs.declared.Sizes.{Sizes}
use Rattle.records.specs.Readers.{service_length, numbers_in, absent, number_bytes, head, duty_bytes, unproved, laboratory_bytes, plan_count, multiplier_count, sized, Proved}
use Rattle.records.specs.Held.{Fitting}

-- ---- Filled part by part

-- a part that a call fills with as many bytes as it has
module _ {L : ℕ} (a e w : ℕ) {done old zs : List ℕ} (h : a + w ≡ e) (l : e ≤ L) (f : Filled L a done old) where
  filled_as : (fill : ℕ → List ℕ) → length (fill w) ≡ w → zs ≡ fill (length (mid_of a (e - a) old)) → Filled L e (done ++ fill w) (put_mid a (e - a) old zs)
  filled_as fill n z = filled_part a e w (fill w) h l n f (z ∙ ap fill (next_part a e w h l f))

  pub filled_unsigned : (number : ℕ) → zs ≡ unsigned_bytes (length (mid_of a (e - a) old)) number →
      Filled L e (done ++ unsigned_bytes w number) (put_mid a (e - a) old zs)
  filled_unsigned number = filled_as (λ k. unsigned_bytes k number) (bytes_length w number)

  pub filled_absent : zs ≡ replicate (length (mid_of a (e - a) old)) 0xFF → Filled L e (done ++ absent w) (put_mid a (e - a) old zs)
  filled_absent = filled_as absent (length-replicate w 0xFF)

-- the last part, up to the list's end
module _ {L : ℕ} (a w : ℕ) {done old : List ℕ} (h : a + w ≡ L) (f : Filled L a done old) where
  pub last_part : length (mid_of a (length old - a) old) ≡ w
  last_part = next_part a (length old) w (h ∙ sym f.long) (omega (arith, f.long)) f

  pub filled_last : {zs : List ℕ} (from : List ℕ) → length from ≡ w → zs ≡ from → put_mid a (length old - a) old zs ≡ done ++ from
  filled_last from n z = filled_end f.long (filled_part a (length old) w from (h ∙ sym f.long) (omega (arith, f.long)) n f z)

  pub last_absent : {zs : List ℕ} → zs ≡ replicate (length (mid_of a (length old - a) old)) 0xFF → put_mid a (length old - a) old zs ≡ done ++ absent w
  last_absent z = filled_last (absent w) (length-replicate w 0xFF) (z ∙ ap absent last_part)

-- ---- Sizes

-- what fits sizes
pub service_room : (z : Sizes) → Fitting z → z.horizon * (2 * z.n + z.m) ≤ 192
service_room z f = omega (arith, mul-le-mul f.steps (let h : 2 * z.n + z.m ≤ 16 = omega (arith, f.states, f.inputs) in h))

pub counts_room : (z : Sizes) → Fitting z → (plan_count z ≤ 120) × (multiplier_count z ≤ 72)
counts_room z f =
    let h : z.n + z.m ≤ 10 = omega (arith, f.states, f.inputs) in
    (omega (arith, mul-le-mul f.steps h), omega (arith, mul-le-mul f.steps f.states))

pub service_split : (z : Sizes) → service_length z ≡ 19 + 4 * plan_count z + 4 * multiplier_count z
service_split z = omega arith

-- a plan has its first duties
pub duties_room : (z : Sizes) → 1 ≤ z.horizon → z.m ≤ plan_count z
duties_room z h = omega (arith, mul-le-mul h (let l : z.m ≤ z.n + z.m = omega arith in l))

-- ---- Lengths

pub number_bytes_length : (k : ℕ) (l : List ℤ) → length (number_bytes k l) ≡ k * length l
unfolding number_bytes
number_bytes_length k [] = omega arith
number_bytes_length k (z ∷ l) =
    length-append (signed_bytes k z) (number_bytes k l)
    ∙ ap₂ ◌+◌ (bytes_length k (complement (256 ^ k) z)) (number_bytes_length k l)
    ∙ omega arith

pub head-length : (kind duties rounds : ℕ) → length (head kind duties rounds) ≡ 4
unfolding unsigned_bytes
head-length kind duties rounds = refl

pub duty_bytes_length : (duties : List ℤ) → length duties ≤ 4 → length (duty_bytes duties) ≡ 8
duty_bytes_length duties h =
    length-append (number_bytes 2 duties) (absent (8 - 2 * length duties))
    ∙ omega (arith, number_bytes_length 2 duties, length-replicate {A = ℕ} (8 - 2 * length duties) 0xFF)

pub proved-length : (rounds : ℕ) (gap : ℤ) (duties : List ℤ) → length duties ≤ 4 → length (laboratory_bytes (Proved rounds gap duties)) ≡ 16
proved-length rounds gap duties h =
    length-append (head 1 (length duties) rounds ++ unsigned_bytes 4 (nat_abs gap)) (duty_bytes duties)
    ∙ ap₂ ◌+◌ (length-append (head 1 (length duties) rounds) (unsigned_bytes 4 (nat_abs gap)) ∙ ap₂ ◌+◌ (head-length 1 (length duties) rounds) (bytes_length 4 (nat_abs gap))) (duty_bytes_length duties h)

pub unproved-length : (kind rounds : ℕ) → length (unproved kind rounds) ≡ 16
unproved-length kind rounds =
    length-append (head kind 0 rounds ++ absent 4) (absent 8) ∙ ap₂ ◌+◌ (length-append (head kind 0 rounds) (absent 4) ∙ ap₂ ◌+◌ (head-length kind 0 rounds) refl) refl

pub sized-length : (laboratory : List ℕ) (z : Sizes) → length laboratory ≡ 16 → length (sized laboratory z) ≡ 19
unfolding unsigned_bytes
sized-length laboratory z h = simp (length-append, h)

-- the part of the service's bytes before the multipliers of a record without a plan
front_length : (kind rounds : ℕ) (z : Sizes) → length (sized (unproved kind rounds) z ++ absent (4 * plan_count z)) ≡ 19 + 4 * plan_count z
front_length kind rounds z =
    length-append (sized (unproved kind rounds) z) (absent (4 * plan_count z))
    ∙ ap₂ ◌+◌ (sized-length (unproved kind rounds) z (unproved-length kind rounds)) (length-replicate {A = ℕ} (4 * plan_count z) 0xFF)

-- the service's slice once they are written
pub front_filled : (kind rounds : ℕ) (z : Sizes) (service : List ℕ) {new : List ℕ} → length service ≡ service_length z → let p = plan_count z in
    new ≡ sized (unproved kind rounds) z ++ absent (4 * p) →
    Filled (service_length z) (19 + 4 * p) (sized (unproved kind rounds) z ++ absent (4 * p)) (put_mid 0 (19 + 4 * p - 0) service new)
front_filled kind rounds z service h e =
    let p = plan_count z in
    filled_part 0 (19 + 4 * p) (19 + 4 * p) (sized (unproved kind rounds) z ++ absent (4 * p)) (omega arith) (omega (arith, service_split z))
    (front_length kind rounds z) (filled_none (service_length z) {out = service} h) e

-- ---- Numbers, one after the other

number_bytes_append : (k : ℕ) (l r : List ℤ) → number_bytes k (l ++ r) ≡ number_bytes k l ++ number_bytes k r
unfolding number_bytes
number_bytes_append k [] r = refl
number_bytes_append k (z ∷ l) r = rw (number_bytes_append k l r, append_assoc (signed_bytes k z) (number_bytes k l) (number_bytes k r)) refl

pub numbers_next : (k : ℕ) (l : List ℤ) (i : ℕ) → i < length l → number_bytes k (take (i + 1) l) ≡ number_bytes k (take i l) ++ signed_bytes k (at l i)
unfolding number_bytes
numbers_next k l i h =
    ap (λ (n : ℕ). number_bytes k (take n l)) (add-one i)
    ∙ ap (number_bytes k) (take-suc l i (pos 0) h)
    ∙ number_bytes_append k (take i l) (at l i ∷ [])
    ∙ ap (λ (b : List ℕ). number_bytes k (take i l) ++ b) (append-nil (signed_bytes k (at l i)))

-- ---- Numbers are read back

pub numbers_back : (k : ℕ) (l : List ℤ) {B : ℕ} (behind : List ℕ) → Bounded B l → 2 * B < 256 ^ k → numbers_in k (length l) (number_bytes k l ++ behind) ≡ l
unfolding numbers_in number_bytes
numbers_back k [] behind b h = refl
numbers_back k (z ∷ l) {B} behind b h =
    let r = in_bytes k z (b.each 0) h in
    let w = bytes_length k (complement (256 ^ k) z) in
    rw (
      append_assoc (signed_bytes k z) (number_bytes k l) behind,
      take_at (signed_bytes k z) (number_bytes k l ++ behind) k w,
      drop_at (signed_bytes k z) (number_bytes k l ++ behind) k w,
      signed_back k z r.0 r.1,
      numbers_back k l {B = B} behind (record { each = λ p. b.each (suc p) }) h,
    )
