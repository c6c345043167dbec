-- Figures of an import, worked out by hand: a float by its bits, and what it is imported as.
use Prim.Native.Nat.{ℕ}
use mathlib.Core.Path.{◌≡◌, refl}
use mathlib.Core.List.{List, [], ◌∷◌, map}
use lib.Count.{count_trailing_zeros}
use lib.IntN.{pos, negsuc}
use lib.Ieee.{Float, binary64, of_bits, of_fields, odd, span, climb, size, units, round}
use Rattle.std.specs.Prelude.{Result, Ok, Err}
use Rattle.integer.specs.Quotient.{◌÷◌}
use Rattle.import.specs.Entries.{number, rest, imported}
use Rattle.import.specs.declared.Entry.{Entry}
use Rattle.import.specs.declared.Entry.TheVariants.{Whole, Near}
use Rattle.import.specs.declared.ImportError.{ImportError}
use Rattle.import.specs.declared.ImportError.TheVariants.{NotFinite, TooLarge}

abbrev pub double : ℕ → Float
double bits = of_bits binary64 bits

abbrev minus_half : Float
minus_half = double 0xBFE0000000000000

abbrev table : List (ℕ × Result Entry ImportError)
table =
    -- 1; negative zero
    (0x3FF0000000000000, Ok (Whole (pos 4096)))
    ∷ (0x8000000000000000, Ok (Whole (pos 0)))
    -- 4096 × a is the largest float below 1/2, then 1/2, −1/2, −1 1/2
    ∷ (0x3F1FFFFFFFFFFFFF, Ok (Near (pos 0) (double 0x3FDFFFFFFFFFFFFF)))
    ∷ (0x3F20000000000000, Ok (Near (pos 1) minus_half))
    ∷ (0xBF20000000000000, Ok (Near (pos 0) minus_half))
    ∷ (0xBF38000000000000, Ok (Near (negsuc 0) minus_half))
    -- 16,384, the float below 16,384.5, 16,384.5
    ∷ (0x4010000000000000, Ok (Whole (pos 16384)))
    ∷ (0x4010001FFFFFFFFF, Ok (Near (pos 16384) (double 0x3FDFFFFFFFFF0000)))
    ∷ (0x4010002000000000, Err TooLarge)
    -- −16,384.5 and the float below it
    ∷ (0xC010002000000000, Ok (Near (negsuc 16383) minus_half))
    ∷ (0xC010002000000001, Err TooLarge)
    -- the largest float, of which 4096 times is beyond all floats
    ∷ (0x7FEFFFFFFFFFFFFF, Err TooLarge)
    -- the least float above 0
    ∷ (0x0000000000000001, Ok (Near (pos 0) (double 0x0000000000001000)))
    -- both infinities, and two that are not a number
    ∷ (0x7FF0000000000000, Err NotFinite)
    ∷ (0xFFF0000000000000, Err NotFinite)
    ∷ (0x7FF0000000000001, Err NotFinite)
    ∷ (0xFFF8000000000000, Err NotFinite)
    ∷ []

pub figures : map (λ (r : ℕ × Result Entry ImportError). imported (double r.0)) table ≡ map (λ (r : ℕ × Result Entry ImportError). r.1) table
unfolding imported number rest of_bits of_fields odd span climb size units round ◌÷◌ count_trailing_zeros
figures = refl
