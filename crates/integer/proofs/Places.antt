-- Filling arrays: place by place, then stretch by stretch and step by step.
use Prim.Native.Nat.{ℕ, zero, suc, ◌+◌, ◌-◌, ◌*◌, ◌/◌, ◌%◌, ◌<◌, ◌≤◌, zero-le}
use mathlib.Core.Path.{◌≡◌, refl, sym, ◌∙◌, ap, subst}
use mathlib.Core.Logic.{◌⊎◌, inl, inr, ⊎_elim}
use mathlib.Core.List.{List, [], ◌∷◌}
use native.Mathlib.Omega.{arith}
use native.Mathlib.Decide.{dec_le}
use native.Mathlib.Nat.{div-add-mod, mod-lt, div-lt_iff_lt-mul}
use lib.ListN.{length, length-set, set, take, replicate, get_or-eq_default}
use lib.Seq.{get_or-set_same, get_or-set_other}
use lib.IntN.{ℤ, pos, nat_abs}
use Rattle.integer.specs.Places.{at, Bounded, Stretch, Steps}

pub lt_or_le : (a b : ℕ) → (a < b) ⊎ (b ≤ a)
lt_or_le a b = go (dec_le b a)
  where
    go : Dec (b ≤ a) → (a < b) ⊎ (b ≤ a)
    go (yes p) = inr p
    go (no n) = inl (omega arith)

-- ---- Bounds

-- past the end stands 0
pub all_bounded : {B : ℕ} (l : List ℤ) (n : ℕ) → length l ≡ n → ((p : ℕ) → p < n → nat_abs (at l p) ≤ B) → Bounded B l
all_bounded l n e h = record {
  each = λ p. ⊎_elim (h p) (λ k. let m : length l ≤ p = omega arith in rw (get_or-eq_default l (pos 0) m) (omega arith)) (lt_or_le p n);
}

pub bounded-none : {B : ℕ} → Bounded B []
bounded-none = record { each = λ p. omega arith }

-- one number more in front
pub bounded_more : {B : ℕ} {z : ℤ} {l : List ℤ} → nat_abs z ≤ B → Bounded B l → Bounded B (z ∷ l)
bounded_more {B} {z} {l} h b = record { each = go }
  where
    go : (p : ℕ) → nat_abs (at (z ∷ l) p) ≤ B
    go zero = h
    go (suc p) = b.each p

-- the first numbers of a list are within what all are within
pub take-bounded : {B : ℕ} (k : ℕ) (l : List ℤ) → Bounded B l → Bounded B (take k l)
take-bounded {B} k l b = record { each = go k l b.each }
  where
    go : (k : ℕ) (l : List ℤ) → ((p : ℕ) → nat_abs (at l p) ≤ B) → (p : ℕ) → nat_abs (at (take k l) p) ≤ B
    go zero l h p = zero-le
    go (suc k) [] h p = zero-le
    go (suc k) (z ∷ l) h zero = h 0
    go (suc k) (z ∷ l) h (suc p) = go k l (λ q. h (suc q)) p

-- ---- A stretch

pub stretch_none : (o : ℕ) (f : ℕ → ℤ) (l : List ℤ) → Stretch o 0 f l l
stretch_none o f l = record { inside = λ j h. let z : ⊥ = omega arith in absurd z; outside = λ p h. refl; same = refl }

-- one place more, by a store
pub stretch_store : (o w : ℕ) (f : ℕ → ℤ) (old new : List ℤ) (v : ℤ) → o + w < length old → Stretch o w f old new → v ≡ f w →
    Stretch o (w + 1) f old (set new (o + w) v)
stretch_store o w f old new v room s e = record { inside = λ j h. in_j j h (lt_or_le j w); outside = out_p; same = length-set new (o + w) v ∙ s.same }
  where
    other : (p : ℕ) → (p ≡ o + w → ⊥) → at (set new (o + w) v) p ≡ at new p
    other p h = get_or-set_other new (o + w) p v (pos 0) h

    in_j : (j : ℕ) → j < w + 1 → (j < w) ⊎ (w ≤ j) → at (set new (o + w) v) (o + j) ≡ f j
    in_j j h (inl l) = other (o + j) (λ q. omega arith) ∙ s.inside j l
    in_j j h (inr l) = let q : j ≡ w = omega arith in rw q (get_or-set_same new (o + w) v (pos 0) (omega (arith, s.same)) ∙ e)

    out_p : (p : ℕ) → (p < o) ⊎ (o + (w + 1) ≤ p) → at (set new (o + w) v) p ≡ at old p
    out_p p (inl h) = other p (λ q. omega arith) ∙ s.outside p (inl h)
    out_p p (inr h) = other p (λ q. omega arith) ∙ s.outside p (inr (omega arith))

-- a stretch, and one right after it
pub stretch_join : (o w v : ℕ) (f g h : ℕ → ℤ) (old mid new : List ℤ) → Stretch o w f old mid → Stretch (o + w) v g mid new →
    ((j : ℕ) → j < w → h j ≡ f j) → ((j : ℕ) → j < v → h (w + j) ≡ g j) → Stretch o (w + v) h old new
stretch_join o w v f g h old mid new s t first then =
    record { inside = λ j l. in_j j l (lt_or_le j w); outside = out_p; same = t.same ∙ s.same }
  where
    in_j : (j : ℕ) → j < w + v → (j < w) ⊎ (w ≤ j) → at new (o + j) ≡ h j
    in_j j l (inl k) = t.outside (o + j) (inl (omega arith)) ∙ s.inside j k ∙ sym (first j k)
    in_j j l (inr k) =
        let p : j ≡ w + (j - w) = omega arith in
        let q : o + j ≡ o + w + (j - w) = omega arith in
        ap (at new) q ∙ t.inside (j - w) (omega arith) ∙ sym (then (j - w) (omega arith)) ∙ ap h (sym p)

    out_p : (p : ℕ) → (p < o) ⊎ (o + (w + v) ≤ p) → at new p ≡ at old p
    out_p p (inl k) = t.outside p (inl (omega arith)) ∙ s.outside p (inl k)
    out_p p (inr k) = t.outside p (inr (omega arith)) ∙ s.outside p (inr (omega arith))

-- from place 0 on
module _ {w : ℕ} {f : ℕ → ℤ} {old new : List ℤ} (s : Stretch 0 w f old new) where
  pub fill_store : {v : ℤ} → w < length old → v ≡ f w → Stretch 0 (w + 1) f old (set new w v)
  fill_store {v} h e =
      let z : 0 + w ≡ w = omega arith in
      subst (λ (p : ℕ). Stretch 0 (w + 1) f old (set new p v)) z (stretch_store 0 w f old new v (omega arith) s e)

  pub fill_at : (p : ℕ) → p < w → at new p ≡ f p
  fill_at p h = let z : p ≡ 0 + p = omega arith in ap (at new) z ∙ s.inside p h

-- ---- Steps of d places

-- a step before step k lies before step k's places
pub step_room : (d q k : ℕ) → q < k → d * q + d ≤ d * k
step_room d q k h = let e : k ≡ q + 1 + (k - (q + 1)) = omega arith in subst (λ (x : ℕ). d * q + d ≤ d * x) (sym e) (omega arith)

-- of two places, in steps of w numbers each, the earlier one is of an earlier step, or of the same
pub earlier_step : (w k a l b : ℕ) → b < w → k * w + a < l * w + b → (k < l) ⊎ ((k ≡ l) × (a < b))
earlier_step w k a l b u h =
    ⊎_elim (λ e. inl e)
    (λ e. ⊎_elim (λ g. let z : ⊥ = omega (arith, step_room w l k g) in absurd z)
    (λ g. let same : k ≡ l = omega arith in let r = rw same at h in inr (same, omega (arith, r))) (lt_or_le l k))
    (lt_or_le k l)

pub zeros : (n p : ℕ) → at (replicate n (pos 0)) p ≡ pos 0
zeros zero p = refl
zeros (suc n) zero = refl
zeros (suc n) (suc p) = zeros n p

pub steps-none : (d n : ℕ) (g : ℕ → ℕ → ℤ) → Steps d 0 g (replicate n (pos 0))
steps-none d n g = record { each = λ q j h l. let z : ⊥ = omega arith in absurd z; rest = λ p h. zeros n p }

pub steps_more : (d k : ℕ) (g : ℕ → ℕ → ℤ) (old new : List ℤ) → Steps d k g old → Stretch (d * k) d (g k) old new → Steps d (k + 1) g new
steps_more d k g old new s t =
    record { each = λ q j h l. each q j h l (lt_or_le q k); rest = λ p h. t.outside p (inr (omega arith)) ∙ s.rest p (omega arith) }
  where
    each : (q j : ℕ) → q < k + 1 → j < d → (q < k) ⊎ (k ≤ q) → at new (d * q + j) ≡ g q j
    each q j h l (inl m) = t.outside (d * q + j) (inl (omega (arith, step_room d q k m))) ∙ s.each q j m l
    each q j h l (inr m) = let e : q ≡ k = omega arith in rw e (t.inside j l)

pub steps-bounded : {B : ℕ} (d k : ℕ) (g : ℕ → ℕ → ℤ) (l : List ℤ) → 0 < d → Steps d k g l →
    ((q j : ℕ) → q < k → j < d → nat_abs (g q j) ≤ B) → Bounded B l
steps-bounded {B} d k g l h s b = record { each = λ p. go p (lt_or_le p (d * k)) }
  where
    go : (p : ℕ) → (p < d * k) ⊎ (d * k ≤ p) → nat_abs (at l p) ≤ B
    go p (inl m) =
        let q : p / d < k = (div-lt_iff_lt-mul h).1 (omega arith) in
        rw (sym (div-add-mod p d), s.each (p / d) (p % d) q (mod-lt p h)) (b (p / d) (p % d) q (mod-lt p h))
    go p (inr m) = rw (s.rest p m) (omega arith)

pub stretch_bounded : {B o w : ℕ} {f : ℕ → ℤ} {old new : List ℤ} → Bounded B old → ((j : ℕ) → j < w → nat_abs (f j) ≤ B) →
    Stretch o w f old new → Bounded B new
stretch_bounded {B} {o} {w} {f} {old} {new} b h s = record { each = λ p. go p (lt_or_le p o) (lt_or_le p (o + w)) }
  where
    go : (p : ℕ) → (p < o) ⊎ (o ≤ p) → (p < o + w) ⊎ (o + w ≤ p) → nat_abs (at new p) ≤ B
    go p (inl l) _ = rw (s.outside p (inl l)) (b.each p)
    go p (inr l) (inr k) = rw (s.outside p (inr k)) (b.each p)
    go p (inr l) (inl k) = let e : p ≡ o + (p - o) = omega arith in rw (e, s.inside (p - o) (omega arith)) (h (p - o) (omega arith))

pub stretch_cong : {o w : ℕ} {f g : ℕ → ℤ} {old new : List ℤ} → Stretch o w f old new → ((j : ℕ) → j < w → f j ≡ g j) → Stretch o w g old new
stretch_cong s e = record { inside = λ j h. s.inside j h ∙ e j h; outside = s.outside; same = s.same }

pub stretch_beside : {o w : ℕ} {f : ℕ → ℤ} {old new : List ℤ} → Stretch o w f old new → (p : ℕ) → (o ≤ p → o + w ≤ p) → at new p ≡ at old p
stretch_beside {o} s p h = ⊎_elim (λ l. s.outside p (inl l)) (λ l. s.outside p (inr (h l))) (lt_or_le p o)
