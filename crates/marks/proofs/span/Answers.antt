use Prim.Native.Nat.{ℕ, ◌+◌, ◌-◌}
use mathlib.Core.Path.{◌≡◌, ap₂, ◌∙◌}
use mathlib.Core.Bool.{Bool, not, ◌&&◌, and-true}
use mathlib.Core.Logic.{⊎_elim}
use native.Mathlib.Omega.{arith}
use lib.Dec.{ltb}
use borrow.Author.Tests.{lt-ltb, le-ltb, le-leb, lt-leb}
use Rattle.integer.proofs.Places.{lt_or_le}
use Rattle.integer.proofs.Tests.{same_test}
use Rattle.words.proofs.Bits.{bit_without}
use Rattle.commands.specs.Required.{among}
use Rattle.marks.proofs.span.Goals as goal

-- before the end of the places, and not before their first
between : (p count q : ℕ) → ltb q (p + count) && not (ltb q p) ≡ among p count q
unfolding among
between p count q =
    ⊎_elim
    (λ l. rw (lt-ltb q p l, lt-leb p q l, lt-ltb q (p + count) (omega arith)))
    (λ l. rw (le-ltb q p l, le-leb p q l, same_test q (p + count) (q - p) count (λ h. omega arith) (λ h. omega arith)) (and-true (ltb (q - p) count)))
    (lt_or_le q p)

pub returns : goal.returns
returns c =
    let a = c.args in
    let end = c.below in
    let from = c.below-2 in
    record {
      each = λ b h.
          bit_without 64 end.result from.result b (omega arith) h
          ∙ ap₂ (λ (s t : Bool). s && not t) (end.ensures.each b h) (from.ensures.each b h) ∙ between a.p a.count (a.first + b);
    }
