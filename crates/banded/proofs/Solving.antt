-- The right sides of the rows, and d from the last row up.
use Prim.Native.Nat.{ℕ, zero, suc, ◌+◌, ◌-◌, ◌<◌, ◌≤◌, min}
use mathlib.Core.Path.{◌≡◌, refl, sym, ap₂, ◌∙◌}
use mathlib.Core.List.{List}
use native.Mathlib.Numerals.{add-one}
use native.Mathlib.Omega.{arith}
use native.Mathlib.Decide.{dec_le}
use lib.ListN.{length, get_or, set}
use lib.Ieee.{Float, nan}
use borrow.Author.Tests.{eq-eqb, ne_eqb}
use Rattle.banded.specs.Floats.{float_at, zero_float, sum_from, ◌⊕◌, ◌⊖◌, ◌⊗◌, ◌⊘◌}
use Rattle.banded.specs.Elimination.{Matrix, sides, side}
use Rattle.banded.specs.Correction.{solved_row, solved}
use Rattle.banded.specs.Rows.{Holds, Factors, KeptRows, Solved}
use Rattle.banded.specs.declared.rows.Row.{Row}
use Rattle.banded.proofs.Stores.{stored, holds-none, holds_store}
use Rattle.banded.proofs.Taken.{follows_yes, sides_first}

-- ---- Sums

pub sum_more : (x : Float) (j : ℕ) (f : ℕ → Float) (s : Float) → s ≡ sum_from x j f → s ⊕ f j ≡ sum_from x (j + 1) f
unfolding sum_from
sum_more x j f s h = rw (add-one, h) refl

pub sum-with : (x : Float) (j : ℕ) (f : ℕ → Float) (s v : Float) → s ≡ sum_from x j f → v ≡ f j → s ⊕ v ≡ sum_from x (j + 1) f
unfolding sum_from
sum-with x j f s v h g = rw (add-one, h, g) refl

-- ---- The right side of row a

-- What `side_of` has at row p.
pub record Side (band a : ℕ) (factors s : List Float) (e : Float) (p : ℕ) (r : Float) : Type 0 where
  pub each : (w : Matrix) (right : ℕ → Float) → Factors band w a a factors → Holds a (side band w right) s → e ≡ right a → r ≡ sides band w right p a

module _ (band p a : ℕ) (factors s : List Float) (e r : Float) (q : ℕ) (here : p + 11 ≡ a + q) (before : p < a) (near : a ≤ p + band) where
  pub side-step : Side band a factors s e p r → Side band a factors s e (p + 1) (r ⊖ (float_at factors q ⊗ float_at s p))
  unfolding sides
  side-step h = record {
    each = λ w right f l g. rw (add-one, follows_yes band p a before near)
        (ap₂ ◌⊖◌ (h.each w right f l g) (ap₂ ◌⊗◌ (f.each p q here before before near) (l.each p before)));
  }

pub side-first : (band a : ℕ) (factors s : List Float) (e : Float) → Side band a factors s e (a - band) e
side-first band a factors s e = record { each = λ w right f l g. g ∙ sym (sides_first band w right a) }

-- What `sides_of` has at row a.
pub record SidesTo (band : ℕ) (rows : List Row) (e : List Float) (count a : ℕ) (s : List Float) : Type 0 where
  pub each : (w : Matrix) (right : ℕ → Float) → KeptRows band w count rows → Holds count right e → Holds a (side band w right) s

pub sides-none : (band : ℕ) (rows : List Row) (e : List Float) (count : ℕ) (s : List Float) → SidesTo band rows e count 0 s
sides-none band rows e count s = record { each = λ w right b g. holds-none (side band w right) s }

pub sides-step : (band : ℕ) (rows : List Row) (end : Row) (e : List Float) (count a : ℕ) (s : List Float) (v : Float) → a < count → a < length s
    → SidesTo band rows e count a s
    → ((w : Matrix) (right : ℕ → Float) → Factors band w a a (get_or rows a end).factors → Holds a (side band w right) s → float_at e a ≡ right a → v ≡ sides band w right a a)
    → SidesTo band rows e count (a + 1) (set s a v)
sides-step band rows end e count a s v h room o k = record {
  each = λ w right b g. holds_store (side band w right) a s v room (k w right (b.each a end h).factors (o.each w right b g) (g.each a h)) (o.each w right b g);
}

-- ---- d, from the last row up

pub sum_cong : (x : Float) (n : ℕ) (f g : ℕ → Float) → ((j : ℕ) → j < n → f j ≡ g j) → sum_from x n f ≡ sum_from x n g
unfolding sum_from
sum_cong x zero f g h = refl
sum_cong x (suc n) f g h = ap₂ ◌⊕◌ (sum_cong x n f g (λ j l. h j (omega arith))) (h n (omega arith))

-- What `solved_up` has when `t` rows are solved.
pub record SolvedTo (band : ℕ) (rows : List Row) (s : List Float) (count t : ℕ) (d : List Float) : Type 0 where
  pub each : (w : Matrix) (right : ℕ → Float) → KeptRows band w count rows → Holds count (side band w right) s → Solved count band w right t d

pub solved-none : (band : ℕ) (rows : List Row) (s : List Float) (count : ℕ) (d : List Float) → SolvedTo band rows s count 0 d
solved-none band rows s count d = record { each = λ w right b l. record { each = λ c h k. absurd (omega arith) } }

module _ (band count t : ℕ) (w : Matrix) (e : ℕ → Float) (c : ℕ) where
  pub solved-at : c ≡ count - (t + 1) → solved count band w e (t + 1) c ≡ solved_row band w e (count - (t + 1)) t (solved count band w e t)
  unfolding solved
  solved-at z =
      let y : c ≡ count - suc t = omega arith in
      let g : count - (t + 1) ≡ count - suc t = omega arith in
      rw (g, add-one t, eq-eqb c (count - suc t) y) refl

  pub solved_other : (c ≡ count - (t + 1) → ⊥) → solved count band w e (t + 1) c ≡ solved count band w e t c
  unfolding solved
  solved_other z = rw (add-one t, ne_eqb c (count - suc t) (λ y. z (omega arith))) refl

module _ (band : ℕ) (rows : List Row) (end : Row) (s : List Float) (count t : ℕ) (d : List Float) (sum : Float) (more : t < count)
    (summed : sum ≡ sum_from zero_float (min band t) (λ j. float_at (get_or rows (count - (t + 1)) end).couplings j ⊗ float_at d (count - (t + 1) + 1 + j))) where
  value-is : (w : Matrix) (right : ℕ → Float) → KeptRows band w count rows → Holds count (side band w right) s → Solved count band w right t d
      → (float_at s (count - (t + 1)) ⊖ sum) ⊘ (get_or rows (count - (t + 1)) end).pivot ≡ solved_row band w right (count - (t + 1)) t (solved count band w right t)
  unfolding solved_row
  value-is w right b l o =
      let k = b.each (count - (t + 1)) end (omega arith) in
      ap₂ ◌⊘◌
      (ap₂ ◌⊖◌ (l.each (count - (t + 1)) (omega arith))
      (summed ∙ sum_cong zero_float (min band t) _ _
      (λ j h. ap₂ ◌⊗◌ (k.couplings.each j (omega arith)) (o.each (count - (t + 1) + 1 + j) (omega arith) (omega arith)))))
      k.pivots

  pub solved-step : count - (t + 1) < length d → SolvedTo band rows s count t d
      → SolvedTo band rows s count (t + 1) (set d (count - (t + 1)) ((float_at s (count - (t + 1)) ⊖ sum) ⊘ (get_or rows (count - (t + 1)) end).pivot))
  solved-step room o = record {
    each = λ w right b l. record {
      each = λ c h k. stored nan d (count - (t + 1)) _ c room (λ y. y ≡ solved count band w right (t + 1) c)
          (λ z. value-is w right b l (o.each w right b l) ∙ sym (solved-at band count t w right c z))
          (λ z. (o.each w right b l).each c (over c h z (dec_le c (count - (t + 1)))) k ∙ sym (solved_other band count t w right c z));
    };
  }
    where
      over : (c : ℕ) → count ≤ c + (t + 1) → (c ≡ count - (t + 1) → ⊥) → Dec (c ≤ count - (t + 1)) → count ≤ c + t
      over c h z (yes g) = absurd (z (omega arith))
      over c h z (no g) = omega arith

-- all rows are solved
pub solved_all : (band : ℕ) (w : Matrix) (right : ℕ → Float) (count : ℕ) (d : List Float) → Solved count band w right count d
    → Holds count (solved count band w right count) d
solved_all band w right count d h = record { each = λ c l. h.each c (omega arith) l }
