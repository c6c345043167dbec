-- 64-bit floats: each operation rounds once.
use Rattle.std.specs.Prelude.{ℕ, zero, suc, Bool, false, ◌&&◌, List, get_or, ℤ, pos, Float}
use Rattle.std.specs.Float.Ieee as Ieee
use Rattle.std.specs.Float.{nan, fin, binary64}
use Rattle.float.specs.Value.{finite}

infixl 6 ◌⊕◌
infixl 6 ◌⊖◌
infixl 7 ◌⊗◌
infixl 7 ◌⊘◌
abbrev pub ◌⊕◌ : Float → Float → Float
x ⊕ y = Ieee.add binary64 x y

abbrev pub ◌⊖◌ : Float → Float → Float
x ⊖ y = Ieee.sub binary64 x y

abbrev pub ◌⊗◌ : Float → Float → Float
x ⊗ y = Ieee.mul binary64 x y

abbrev pub ◌⊘◌ : Float → Float → Float
x ⊘ y = Ieee.div binary64 x y

-- A whole number as a float.
abbrev pub float : ℤ → Float
float z = Ieee.of_int binary64 z

-- 0.0
abbrev pub zero_float : Float
zero_float = fin false 0 (pos 0)

-- The float at a place, not a number past the end.
abbrev pub float_at : List Float → ℕ → Float
float_at l p = get_or l p nan

-- x + f 0 + f 1 + .. + f (n − 1), from the left.
unfoldable pub sum_from : Float → ℕ → (ℕ → Float) → Float
sum_from x zero f = x
sum_from x (suc n) f = sum_from x n f ⊕ f n

-- Finite and above 0.
unfoldable pub usable : Float → Bool
usable x = finite x && Ieee.lt zero_float x
