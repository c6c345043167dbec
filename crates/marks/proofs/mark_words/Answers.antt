use Rattle.std.proofs.Common.{rules}
use Prim.Native.Nat.{ℕ, ◌+◌, ◌*◌, ◌<◌}
use mathlib.Core.Path.{ap, ◌∙◌}
use mathlib.Core.Bool.{false, ◌&&◌}
use lib.Dec.{ltb}
use native.Mathlib.Nat.{add_assoc}
use lib.ListN.{get_or}
use borrow.Author.Tests.{lt-ltb}
use Rattle.commands.specs.Marks.{column_place, marked}
use Rattle.words.specs.Words.{Holds}
use Rattle.words.proofs.Bits.{by_words}
use Rattle.marks.proofs.mark_words.Goals as goal

-- what `pack` says of each word
packed : (c : goal.After-from_fn) (w : ℕ) → w < 3 → Holds (get_or c.from_fn.result w 0) (λ b. ltb b 64 && get_or c.args.given.now (column_place + 64 * w + b) false)
packed c w l = let told = c.from_fn.ensures.items.at w 0 l in search rules

pub returns : goal.returns
returns c =
    let given = c.args.given.now in
    by_words (λ i. marked given (column_place + i)) c.from_fn.result
    (λ w l. record {
      each = λ b h.
          (packed c w l).each b h ∙ ap (λ t. t && marked given (column_place + 64 * w + b)) (lt-ltb b 64 h)
          ∙ ap (marked given) (add_assoc column_place (64 * w) b);
    })
