use Prim.Native.Nat.{ℕ, ◌+◌, ◌*◌, ◌%◌, ◌^◌, ◌≤◌, ◌<◌}
use mathlib.Core.Path.{◌≡◌, sym, ap, ap₂, ◌∙◌}
use mathlib.Core.Bool.{Bool, true, false, ◌&&◌, ◌||◌, and-true, and-false, or-false}
use mathlib.Core.Logic.{⊎_elim}
use native.Mathlib.Omega.{arith}
use lib.Bits.{bit_or}
use lib.Dec.{ltb, eqb}
use lib.ListN.{get_or}
use borrow.Author.Tests.{lt-ltb, le-ltb, eq-eqb, ne_eqb}
use Rattle.integer.proofs.Places.{lt_or_le}
use Rattle.words.specs.Words.{bit}
use Rattle.words.proofs.Bits.{bit_zero, bit_or_lem, bit_one, shifted_one}
use Rattle.words.proofs.pack.Invariants.{Below}
use Rattle.words.proofs.pack.Goals as goal
use Rattle.words.proofs.pack.Goals.{then-is_marked, else-is_marked}

-- bit b, as f has it, and those below it
one_more : (f : ℕ → Bool) (b j : ℕ) → (ltb j b && f j) || (eqb j b && f b) ≡ ltb j (b + 1) && f j
one_more f b j =
    ⊎_elim
    (λ l. rw (lt-ltb j b l, ne_eqb j b (λ e. omega arith), lt-ltb j (b + 1) (omega arith)) (or-false (f j)))
    (λ l. ⊎_elim
    (λ (g : b < j). rw (le-ltb j b l, ne_eqb j b (λ e. omega arith), le-ltb j (b + 1) (omega arith)))
    (λ (g : j ≤ b). let e : j ≡ b = omega arith in rw (le-ltb j b l, eq-eqb j b e, lt-ltb j (b + 1) (omega arith), e))
    (lt_or_le b j))
    (lt_or_le j b)

module _ (f : ℕ → Bool) (b word : ℕ) (below : Below f b word) where
  with_bit : b < 64 → f b ≡ true → Below f (b + 1) (bit_or word (1 * 2 ^ b % 2 ^ 64))
  with_bit h e j =
      ap (λ (x : ℕ). bit (bit_or word x) j) (shifted_one 64 b h) ∙ bit_or_lem word (2 ^ b) j
      ∙ ap₂ ◌||◌ (below j) (bit_one b j ∙ sym (ap (λ (t : Bool). eqb j b && t) e ∙ and-true (eqb j b))) ∙ one_more f b j

  without_bit : f b ≡ false → Below f (b + 1) word
  without_bit e j =
      below j ∙ sym (or-false (ltb j b && f j)) ∙ ap (λ (t : Bool). (ltb j b && f j) || t) (sym (ap (λ (t : Bool). eqb j b && t) e ∙ and-false (eqb j b)))
      ∙ one_more f b j

pub loop-b-init : goal.loop-b-init
loop-b-init c =
    let f : ℕ → Bool = λ j. get_or c.args.marks.now (c.args.first + j) false in
    λ j. bit_zero j ∙ sym (ap (λ (t : Bool). t && f j) (le-ltb j 0 (omega arith)))

pub loop-b-preserved : goal.loop-b-preserved
loop-b-preserved c =
    let a = c.args in
    let loop = c.loop-b in
    let f : ℕ → Bool = λ j. get_or a.marks.now (a.first + j) false in
    elim c.if-is_marked.branch [
      | then-is_marked w ↦ rw w.word-is (with_bit f loop.b loop.word loop.invariant (omega arith) (sym c.is_marked.ensures ∙ w.if-is_marked.true))
      | else-is_marked w ↦ rw w.word-is (without_bit f loop.b loop.word loop.invariant (sym c.is_marked.ensures ∙ w.if-is_marked.false))
    ]

pub returns : goal.returns
returns c =
    let z : c.loop-b.b ≡ c.args.count = omega arith in
    record { each = λ j h. rw z at (c.loop-b.invariant j) }
