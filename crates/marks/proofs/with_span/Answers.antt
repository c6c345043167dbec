use Prim.Native.Nat.{ℕ, ◌+◌, ◌*◌, ◌<◌}
use mathlib.Core.Path.{◌≡◌, sym, ap, ap₂, ◌∙◌}
use mathlib.Core.Bool.{◌||◌}
use native.Mathlib.Nat.{add_assoc}
use lib.Bits.{bit_or}
use lib.ListN.{get_or}
use Rattle.std.proofs.Common.{rules}
use Rattle.commands.specs.Marks.{column_place}
use Rattle.commands.specs.Required.{among}
use Rattle.words.specs.Words.{Holds, bit, bit_of}
use Rattle.words.proofs.Bits.{bit_or_lem, bit_of_lem, by_words}
use Rattle.marks.proofs.with_span.Goals as goal

-- each word is the old one and the span's
joined : (c : goal.After-from_fn) (w : ℕ) → w < 3
    → (x : ℕ) × (get_or c.from_fn.result w 0 ≡ bit_or (get_or c.args.words.now w 0) x) × Holds x (λ b. among c.args.p c.args.count (column_place + 64 * w + b))
joined c w l = let told = c.from_fn.ensures.items.at w 0 l in search rules

pub returns : goal.returns
returns c =
    let a = c.args in
    let old = a.words.now in
    by_words (λ i. bit_of old i || among a.p a.count (column_place + i)) c.from_fn.result
    (λ w l.
    let j = joined c w l in
    record {
      each = λ b h.
          ap (λ y. bit y b) j.1 ∙ bit_or_lem (get_or old w 0) j.0 b
          ∙ ap₂ ◌||◌ (sym (bit_of_lem old w b h)) (j.2.each b h ∙ ap (among a.p a.count) (add_assoc column_place (64 * w) b));
    })
