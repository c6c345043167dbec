-- Tape F's model as commands, worked out by hand.
use mathlib.Core.Path.{◌≡◌, refl}
use mathlib.Core.List.{[], ◌∷◌}
use lib.Count.{count_trailing_zeros}
use lib.Ieee.{of_bits, of_fields, odd, span, climb, size, units, round}
use Rattle.std.specs.Prelude.{Ok}
use Rattle.integer.specs.Encoding.{unsigned_bytes, complement}
use Rattle.integer.specs.Quotient.{◌÷◌}
use Rattle.import.specs.Entries.{number, rest, imported}
use Rattle.import.proofs.Figures.{double}
use Rattle.models.specs.Models.{command, commands_from, model_left}

-- A = 1 and B = 1/2: the commands at offsets 4 to 13 of tape F
pub model : model_left (Ok tt) 1 1 (double 0x3FF0000000000000 ∷ []) (double 0x3FE0000000000000 ∷ []) []
    ≡ 0x20 ∷ 0x00 ∷ 0x00 ∷ 0x00 ∷ 0x10 ∷ 0x21 ∷ 0x00 ∷ 0x00 ∷ 0x00 ∷ 0x08 ∷ []
unfolding commands_from command unsigned_bytes complement imported number rest of_bits of_fields odd span climb size units round ◌÷◌ count_trailing_zeros
model = refl
