use Prim.Native.Nat.{ℕ}
use lib.IntN.{ℤ}
use mathlib.Core.Path.{◌≡◌, refl, ap, ap₂, ◌∙◌}
use mathlib.Core.List.{List, [], ◌∷◌}
use native.Mathlib.Omega.{arith}
use lib.ListN.{length, set}
use mir.Facts.{to_z-of_z}
use borrow.Rule.Slice.PartMut.{mid_of, put_mid}
use Rattle.integer.specs.Encoding.{unsigned_bytes, complement, signed_bytes}
use Rattle.integer.proofs.Encoding.{bytes_length}
use Rattle.integer.proofs.Filled.{Filled, filled_none, filled_next, filled_part, next_part, filled_whole}
use Rattle.models.proofs.write_command.Goals as goal

-- the first three bytes, and then the part behind them
module _ (byte row column : ℕ) (number : ℤ) (out : List ℕ) (h : length out ≡ 5) where
  three : Filled 5 3 (byte ∷ row ∷ column ∷ []) (set (set (set out 0 byte) 1 row) 2 column)
  three = filled_next column (filled_next row (filled_next byte (filled_none 5 {out = out} h) (omega arith)) (omega arith)) (omega arith)

  five : {word : ℕ} {part : List ℕ} →
      part ≡ unsigned_bytes (length (mid_of 3 2 (set (set (set out 0 byte) 1 row) 2 column))) word → word ≡ complement 65536 number →
      Filled 5 5 (byte ∷ row ∷ column ∷ signed_bytes 2 number) (put_mid 3 2 (set (set (set out 0 byte) 1 row) 2 column) part)
  five e f =
      filled_part 3 5 2 (signed_bytes 2 number) refl (omega arith) (bytes_length 2 (complement 65536 number)) three
      (e ∙ ap₂ unsigned_bytes (next_part 3 5 2 refl (omega arith) three) f)

pub twos_complement-word-requires : goal.twos_complement-word-requires
twos_complement-word-requires c = (rw (to_z-of_z c.ranges.number) (omega (arith, c.requires.3)), omega arith)

pub returns : goal.returns
returns c =
    let a = c.args in
    filled_whole (five a.byte a.row a.column a.number a.out.now c.requires.0 c.write_unsigned.ensures
    (c.twos_complement-word.ensures ∙ ap (complement 65536) (to_z-of_z c.ranges.number)))
