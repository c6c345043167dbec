use Prim.Native.Nat.{ℕ, ◌+◌, ◌*◌}
use mathlib.Core.Path.{◌≡◌, sym, ap, ◌∙◌}
use mathlib.Core.Bool.{Bool, ◌&&◌, ◌||◌, and-true, and-false, or_assoc, or-false}
use native.Mathlib.Numerals.{add-one}
use native.Mathlib.Omega.{arith}
use Rattle.integer.specs.Tests.{any}
use Rattle.words.proofs.Bits.{bit-none}
use Rattle.commands.specs.Marks.{column_place, start_place, rounds_place, reference_place}
use Rattle.commands.specs.Required.{among, on_curve, required}
use Rattle.marks.proofs.required_words.Invariants.{asked, on}
use Rattle.marks.proofs.required_words.Goals as goal
use Rattle.marks.proofs.required_words.Goals.{then-is_curved, else-is_curved}

-- with one column more
one_more : (A : Bool) (column : ℕ) (f : ℕ → Bool) {t : Bool} → f column ≡ t → (A || any column f) || t ≡ A || any (column + 1) f
unfolding any
one_more A column f {t} e = or_assoc A (any column f) t ∙ ap (λ (r : Bool). A || r) (rw (add-one column) (ap (λ (r : Bool). any column f || r) (sym e)))

pub loop-column-init : goal.loop-column-init
unfolding any
loop-column-init c =
    let one = c.with_span-columns in
    let two = c.with_span-starts in
    let three = c.with_span-words in
    let a = c.args in
    record {
      each = λ i h.
          three.ensures.each i h
          ∙ ap (λ (t : Bool). t || among rounds_place 1 (column_place + i))
          (two.ensures.each i h
          ∙ ap (λ (t : Bool). t || among start_place a.n (column_place + i))
          (one.ensures.each i h ∙ ap (λ (t : Bool). t || among column_place (a.n + a.m) (column_place + i)) (bit-none 3 i h)))
          ∙ sym (or-false (asked a.n a.m (column_place + i)));
    }

pub loop-column-preserved : goal.loop-column-preserved
loop-column-preserved c =
    let a = c.args in
    let loop = c.loop-column in
    let own : ℕ → Bool = λ i. asked a.n a.m (column_place + i) in
    let steps : ℕ → Bool = λ i. among (reference_place + 12 * loop.column) a.horizon (column_place + i) in
    let curve = sym c.is_curved.ensures in
    let f : ℕ → ℕ → Bool = λ i. on a.horizon a.given.now (column_place + i) in
    elim c.if-is_curved.branch [
      | then-is_curved w ↦ rw w.words-is (record {
        each = λ i h.
            w.with_span-words-then-is_curved.ensures.each i h ∙ ap (λ (t : Bool). t || steps i) (loop.invariant.each i h)
            ∙ one_more (own i) loop.column (f i) (ap (λ (t : Bool). steps i && t) (curve ∙ w.if-is_curved.true) ∙ and-true (steps i));
      })
      | else-is_curved w ↦ rw w.words-is (record {
        each = λ i h.
            loop.invariant.each i h ∙ sym (or-false (own i || any loop.column (f i)))
            ∙ one_more (own i) loop.column (f i) (ap (λ (t : Bool). steps i && t) (curve ∙ w.if-is_curved.false) ∙ and-false (steps i));
      })
    ]

pub returns : goal.returns
unfolding required on_curve
returns c =
    let a = c.args in
    let z : c.loop-column.column ≡ a.n + a.m = omega arith in
    rw z at c.loop-column.invariant
