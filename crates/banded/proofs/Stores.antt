-- Literals, and stores in lists of floats.
use Prim.Native.Nat.{ℕ, ◌+◌, ◌<◌, ◌≤◌}
use mathlib.Core.Path.{◌≡◌, refl, sym, ap, ◌∙◌, subst}
use mathlib.Core.Logic.{◌⊎◌, inl, inr}
use mathlib.Core.Bool.{true, false}
use mathlib.Core.List.{List}
use native.Mathlib.Omega.{arith}
use native.Mathlib.Decide.{dec_le}
use lib.ListN.{length, set, get_or}
use lib.Seq.{get_or-set_same, get_or-set_other}
use lib.Ieee as Ieee
use lib.Ieee.{Float, nan, inf, fin, binary64, of_bits, of_fields, odd, span, climb, size, units}
use Rattle.banded.specs.Floats.{float_at, zero_float, usable, ◌⊖◌, ◌⊗◌}
use Rattle.banded.specs.Rows.{Holds, Reduced}

-- 0.0, and the float beyond all finite ones
pub zero_bits : of_bits binary64 0 ≡ zero_float
unfolding of_bits of_fields odd span climb size units
zero_bits = refl

pub infinite_bits : of_bits binary64 9218868437227405312 ≡ inf false
unfolding of_bits of_fields odd span climb size units
infinite_bits = refl

pub usable-is : (x : Float) → Ieee.lt zero_float x ≡ true → Ieee.lt x (inf false) ≡ usable x
unfolding usable Ieee.lt
usable-is nan h = refl
usable-is (inf true) h = sym h
usable-is (inf false) h = refl
usable-is (fin s m e) h = sym h

pub unusable_is : (x : Float) → Ieee.lt zero_float x ≡ false → false ≡ usable x
unfolding usable Ieee.lt
unusable_is nan h = refl
unusable_is (inf s) h = refl
unusable_is (fin s m e) h = sym h

-- a place of a list after a store
pub stored : {A : Type 0} (d : A) (l : List A) (i : ℕ) (v : A) (k : ℕ) → i < length l → (P : A → Type 0) → (k ≡ i → P v) → ((k ≡ i → ⊥) → P (get_or l k d)) → P (get_or (set l i v) k d)
stored d l i v k room P h g = place (dec_le k i) (dec_le i k)
  where
    other : (k ≡ i → ⊥) → P (get_or (set l i v) k d)
    other n = subst P (sym (get_or-set_other l i k v d n)) (g n)

    place : Dec (k ≤ i) → Dec (i ≤ k) → P (get_or (set l i v) k d)
    place (yes a) (yes b) =
        let e : k ≡ i = omega arith in
        subst P (sym (ap (λ (m : ℕ). get_or (set l i v) m d) e ∙ get_or-set_same l i v d room)) (h e)
    place (no a) b = other (λ e. a (omega arith))
    place (yes a) (no b) = other (λ e. b (omega arith))

-- a place below j + 1 that is not j
pub below : (i j : ℕ) → i < j + 1 → (i ≡ j → ⊥) → i < j
below i j h n = go (dec_le j i)
  where
    go : Dec (j ≤ i) → i < j
    go (yes k) = absurd (n (omega arith))
    go (no k) = omega arith

module _ (f : ℕ → Float) where
  pub holds-none : (l : List Float) → Holds 0 f l
  holds-none l = record { each = λ p h. absurd (omega arith) }

  pub holds_store : (j : ℕ) (l : List Float) (v : Float) → j < length l → v ≡ f j → Holds j f l → Holds (j + 1) f (set l j v)
  holds_store j l v room e h = record {
    each = λ p k. stored nan l j v p room (λ x. x ≡ f p) (λ z. rw z e) (λ z. h.each p (below p j k z));
  }

module _ (q : ℕ) (f : Float) (couplings old : List Float) where
  pub reduced_none : Reduced 0 q f couplings old old
  reduced_none = record { inside = λ i h. absurd (omega arith); outside = λ s h. refl }

  pub reduced_store : (j : ℕ) (new : List Float) → q + 1 + j < length new → Reduced j q f couplings old new
      → Reduced (j + 1) q f couplings old (set new (q + 1 + j) (float_at old (q + 1 + j) ⊖ (f ⊗ float_at couplings j)))
  reduced_store j new room r = record {
    inside = λ i h. stored nan new (q + 1 + j) _ (q + 1 + i) room (λ v. v ≡ float_at old (q + 1 + i) ⊖ (f ⊗ float_at couplings i))
        (λ e. let g : i ≡ j = omega arith in rw g refl)
        (λ n. r.inside i (below i j h (λ e. n (omega arith))));
    outside = λ s h. get_or-set_other new (q + 1 + j) s _ nan (apart s h) ∙ r.outside s (widen s h);
  }
    where
      apart : (s : ℕ) → (s ≤ q) ⊎ (q + (j + 1) < s) → s ≡ q + 1 + j → ⊥
      apart s (inl h) e = omega arith
      apart s (inr h) e = omega arith

      widen : (s : ℕ) → (s ≤ q) ⊎ (q + (j + 1) < s) → (s ≤ q) ⊎ (q + j < s)
      widen s (inl h) = inl h
      widen s (inr h) = inr (omega arith)
