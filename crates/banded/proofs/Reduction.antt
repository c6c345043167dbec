-- Row a, reduced by the rows before it and kept.
use Prim.Native.Nat.{ℕ, suc, ◌+◌, ◌-◌, ◌<◌, ◌≤◌}
use mathlib.Core.Path.{◌≡◌, refl, sym, ap, ap₂, ◌∙◌}
use mathlib.Core.Logic.{inl, inr}
use mathlib.Core.Bool.{Bool, ◌&&◌}
use mathlib.Core.List.{List}
use native.Mathlib.Numerals.{add-one}
use native.Mathlib.Omega.{arith}
use native.Mathlib.Decide.{dec_le}
use lib.ListN.{length, get_or, set}
use lib.Ieee.{Float, nan}
use Rattle.banded.specs.Floats.{usable, float_at, ◌⊖◌, ◌⊗◌, ◌⊘◌}
use Rattle.banded.specs.Elimination.{Matrix, factor, eliminated, usable_pivots}
use Rattle.banded.specs.Rows.{Holds, Working, Factors, Kept, KeptRows, Reduced}
use Rattle.banded.specs.declared.rows.Row.{Row}
use Rattle.banded.proofs.Stores.{stored, below}
use Rattle.banded.proofs.Taken.{follows_yes, follows_under, follows_past, taken-column, taken_entry, eliminated-first}

module _ (band p a : ℕ) (w : Matrix) (q : ℕ) (here : p + 11 ≡ a + q) (before : p < a) (near : a ≤ p + band) where
  module _ (x y : List Float) (row : Row) (k : Kept band w p row) (h : Working band w p a x) (r : Reduced band q (float_at x q ⊘ row.pivot) row.couplings x y) where
    -- the factor
    pub factor-is : float_at x q ⊘ row.pivot ≡ factor (eliminated band w p) p a
    factor-is = ap₂ ◌⊘◌ (h.each p q here (omega arith) near) k.pivots

    slot : (c s : ℕ) → c + 11 ≡ a + s → c ≤ a + band → a ≤ c + band → Dec (c ≤ p) → Dec (c ≤ p + band) → float_at y s ≡ eliminated band w (suc p) a c
    slot c s e l u (yes g) d = r.outside s (inl (omega arith)) ∙ h.each c s e l u ∙ sym (taken-column band w p a c (follows_under band p c g))
    slot c s e l u (no g) (no d) = r.outside s (inr (omega arith)) ∙ h.each c s e l u ∙ sym (taken-column band w p a c (follows_past band p c (omega arith)))
    slot c s e l u (no g) (yes d) =
        let j : ℕ = c - (p + 1) in
        let cj : p + 1 + j ≡ c = omega arith in
        let sj : q + 1 + j ≡ s = omega arith in
        let z = r.inside j (omega arith) in
        rw sj at z
        ∙ ap₂ ◌⊖◌ (h.each c s e l u) (ap₂ ◌⊗◌ factor-is (k.couplings.each j (omega arith) ∙ ap (λ (i : ℕ). eliminated band w p p i) cj))
        ∙ sym (taken_entry band w p a c (follows_yes band p a before near) (follows_yes band p c (omega arith) d))

    pub working_step : Working band w (p + 1) a y
    working_step = record { each = λ c s e l u. rw add-one (slot c s e l u (dec_le c p) (dec_le c (p + band))) }

    pub factors-step : (l : List Float) → q < length l → Factors band w p a l → Factors band w (p + 1) a (set l q (float_at x q ⊘ row.pivot))
    factors-step l room o = record {
      each = λ i s e b t u. stored nan l q _ s room (λ v. v ≡ factor (eliminated band w i) i a)
          (λ g. let z : i ≡ p = omega arith in rw z factor-is)
          (λ g. o.each i s e (below i p b (λ z. g (omega arith))) t u);
    }

pub working_first : (band a : ℕ) (w : Matrix) (x : List Float) → Working band w 0 a x → Working band w (a - band) a x
unfolding eliminated
working_first band a w x h = record { each = λ c s e l u. h.each c s e l u ∙ sym (eliminated-first band w a c) }

pub factors-first : (band a : ℕ) (w : Matrix) (l : List Float) → Factors band w (a - band) a l
factors-first band a w l = record { each = λ r q e b t u. absurd (omega arith) }

-- What `eliminated_row` has at row p.
pub record Reduction (band a : ℕ) (rows : List Row) (x : List Float) (p : ℕ) (y l : List Float) : Type 0 where
  pub row : (w : Matrix) → KeptRows band w a rows → Working band w 0 a x → Working band w p a y
  pub factors : (w : Matrix) → KeptRows band w a rows → Working band w 0 a x → Factors band w p a l

pub reduction_first : (band a : ℕ) (rows : List Row) (x l : List Float) → Reduction band a rows x (a - band) x l
reduction_first band a rows x l =
    record { row = λ w b h. working_first band a w x h; factors = λ w b h. factors-first band a w l }

pub reduction_step : (band p a q : ℕ) (rows : List Row) (end : Row) (x y z l : List Float) → p + 11 ≡ a + q → p < a → a ≤ p + band → q < length l
    → Reduction band a rows x p y l
    → Reduced band q (float_at y q ⊘ (get_or rows p end).pivot) (get_or rows p end).couplings y z
    → Reduction band a rows x (p + 1) z (set l q (float_at y q ⊘ (get_or rows p end).pivot))
reduction_step band p a q rows end x y z l here before near room o r = record {
  row = λ w b h. working_step band p a w q here before near y z _ (b.each p end before) (o.row w b h) r;
  factors = λ w b h. factors-step band p a w q here before near y z _ (b.each p end before) (o.row w b h) r l room (o.factors w b h);
}

pub kept_is : (band : ℕ) (w : Matrix) (a : ℕ) (x couplings factors : List Float) → band ≤ 11 → Holds 11 (λ i. float_at x (12 + i)) couplings → Working band w a a x → Factors band w a a factors
    → Kept band w a (record { pivot = float_at x 11; couplings = couplings; factors = factors })
kept_is band w a x couplings factors b k h f = record {
  pivots = h.each a 11 refl (omega arith) (omega arith);
  couplings = record { each = λ j l. k.each j (omega arith) ∙ h.each (a + 1 + j) (12 + j) (omega arith) (omega arith) (omega arith) };
  factors = f;
}

pub rows_none : (band : ℕ) (w : Matrix) (rows : List Row) → KeptRows band w 0 rows
rows_none band w rows = record { each = λ p end h. absurd (omega arith) }

pub rows_store : (band : ℕ) (w : Matrix) (p : ℕ) (rows : List Row) (row : Row) → p < length rows → Kept band w p row → KeptRows band w p rows
    → KeptRows band w (p + 1) (set rows p row)
rows_store band w p rows row room k b = record {
  each = λ i end h. stored end rows p row i room (λ r. Kept band w i r) (λ z. rw z k) (λ z. b.each i end (below i p h z));
}

pub usable_more : (band : ℕ) (w : Matrix) (p : ℕ) (u g : Bool) (row : Row) → Kept band w p row → u ≡ usable_pivots band w p → g ≡ usable row.pivot
    → (u && g) ≡ usable_pivots band w (p + 1)
unfolding usable_pivots
usable_more band w p u g row k e f = rw (e, f, k.pivots, add-one) refl
