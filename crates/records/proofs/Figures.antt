-- Bytes worked out by hand: a gap and duties of FF throughout, beside records that have none.
use Prim.Native.Nat.{ℕ}
use mathlib.Core.Path.{◌≡◌, refl}
use mathlib.Core.List.{List, [], ◌∷◌, map}
use lib.IntN.{pos, negsuc}
use Rattle.integer.specs.Encoding.{unsigned_bytes, complement}
use Rattle.records.specs.Readers.{number_bytes, Proved, Impossible, Open, laboratory_bytes}

abbrev table : List (List ℕ × List ℕ)
table =
    -- 258 rounds, a gap of 66,051, duties −2, 300 and −32,768
    (
      laboratory_bytes (Proved 258 (pos 66051) (negsuc 1 ∷ pos 300 ∷ negsuc 32767 ∷ [])),
      0x01 ∷ 0x03 ∷ 0x02 ∷ 0x01 ∷ 0x03 ∷ 0x02 ∷ 0x01 ∷ 0x00 ∷ 0xFE ∷ 0xFF ∷ 0x2C ∷ 0x01 ∷ 0x00 ∷ 0x80 ∷ 0xFF ∷ 0xFF ∷ [],
    )
    -- the widest gap, with one duty of −1 and with four: the number of duties tells them apart
    ∷ (
      laboratory_bytes (Proved 10000 (pos 4294967295) (negsuc 0 ∷ [])),
      0x01 ∷ 0x01 ∷ 0x10 ∷ 0x27 ∷ 0xFF ∷ 0xFF ∷ 0xFF ∷ 0xFF ∷ 0xFF ∷ 0xFF ∷ 0xFF ∷ 0xFF ∷ 0xFF ∷ 0xFF ∷ 0xFF ∷ 0xFF ∷ [],
    )
    ∷ (
      laboratory_bytes (Proved 10000 (pos 4294967295) (negsuc 0 ∷ negsuc 0 ∷ negsuc 0 ∷ negsuc 0 ∷ [])),
      0x01 ∷ 0x04 ∷ 0x10 ∷ 0x27 ∷ 0xFF ∷ 0xFF ∷ 0xFF ∷ 0xFF ∷ 0xFF ∷ 0xFF ∷ 0xFF ∷ 0xFF ∷ 0xFF ∷ 0xFF ∷ 0xFF ∷ 0xFF ∷ [],
    )
    -- the kind tells the others apart
    ∷ (laboratory_bytes (Impossible 10000), 0x02 ∷ 0x00 ∷ 0x10 ∷ 0x27 ∷ 0xFF ∷ 0xFF ∷ 0xFF ∷ 0xFF ∷ 0xFF ∷ 0xFF ∷ 0xFF ∷ 0xFF ∷ 0xFF ∷ 0xFF ∷ 0xFF ∷ 0xFF ∷ [])
    ∷ (laboratory_bytes (Open 10000), 0x03 ∷ 0x00 ∷ 0x10 ∷ 0x27 ∷ 0xFF ∷ 0xFF ∷ 0xFF ∷ 0xFF ∷ 0xFF ∷ 0xFF ∷ 0xFF ∷ 0xFF ∷ 0xFF ∷ 0xFF ∷ 0xFF ∷ 0xFF ∷ [])
    ∷ []

pub figures : map (λ f. f.0) table ≡ map (λ f. f.1) table
unfolding unsigned_bytes complement number_bytes
figures = refl
