-- A table that holds the row of every place.
use Prim.Native.Nat.{ℕ, zero, suc, ◌*◌, ◌<◌, ◌≤◌}
use mathlib.Core.Path.{◌≡◌, sym, ◌∙◌, ap, subst⁻¹}
use mathlib.Core.List.{List, [], ◌∷◌}
use native.Mathlib.Omega.{arith}
use native.Mathlib.Nat.{add-zero}
use lib.IntN.{ℤ, nat_abs}
use Rattle.integer.specs.Places.{at, Bounded, Steps}
use Rattle.integer.proofs.Places.{steps-bounded}
use Rattle.problem.specs.declared.Term.{Term}
use Rattle.primal.specs.Padded.{term_at}
use Rattle.primal.specs.Ranges.{Ranged, Tables}
use Rattle.lookup.specs.Table.{term_in, centre, span, inverse, row, Whole, Rows, RowsOf}
use Rattle.lookup.proofs.RowSizes.{size-centre, size-span, size-inverse}

bounded-none : {B : ℕ} → Bounded B []
bounded-none = record { each = λ p. omega arith }

-- one number more in front
bounded_more : {B : ℕ} {z : ℤ} {l : List ℤ} → nat_abs z ≤ B → Bounded B l → Bounded B (z ∷ l)
bounded_more {B} {z} {l} h b = record { each = go }
  where
    go : (p : ℕ) → nat_abs (at (z ∷ l) p) ≤ B
    go zero = h
    go (suc p) = b.each p

row-bounded : {t : Term} → Ranged t → Bounded 2748779069440000 (row t)
row-bounded g =
    let p = g.penalty in
    let l = g.low in
    let h = g.high in
    let r = g.reference in
    bounded_more (omega arith)
    (bounded_more (omega arith)
    (bounded_more (omega arith)
    (bounded_more (omega arith)
    (bounded_more (omega (arith, size-centre g)) (bounded_more (omega (arith, size-span g)) (bounded_more (size-inverse g) bounded-none))))))

module _ {terms : List Term} (g : Tables terms) (w : (p : ℕ) → p < 120 → Whole (term_at terms p).penalty) where
  abbrev term : ℕ → Term
  term = term_at terms

  module _ {table : List ℤ} (s : Steps 7 120 (λ p. at (row (term p))) table) where
    first : (p : ℕ) → p < 120 → at table (7 * p) ≡ (term p).penalty
    first p h = rw add-zero at (s.each p 0 h (omega arith))

    same : (p : ℕ) → p < 120 → term_in table p ≡ term p
    same p h = rw (first p h, s.each p 1 h (omega arith), s.each p 2 h (omega arith), s.each p 3 h (omega arith))

    rows : Rows table
    rows = record {
      ranged = λ p h. subst⁻¹ Ranged (same p h) (g.each p h);
      whole = λ p h. rw (first p h) (w p h);
      centred = λ p h. s.each p 4 h (omega arith) ∙ ap centre (sym (same p h));
      spanned = λ p h. s.each p 5 h (omega arith) ∙ ap span (sym (same p h));
      inverted = λ p h. s.each p 6 h (omega arith) ∙ ap inverse (sym (same p h));
      bounded = steps-bounded 7 120 (λ p. at (row (term p))) table (omega arith) s (λ p j h l. (row-bounded (g.each p h)).each j);
    }

    pub rows_are : RowsOf terms table
    rows_are = record { rows = rows; same = same }
