-- Operands: the number that bytes stand for, the low byte first, for any number of bytes.
use Rattle.std.specs.Prelude.{ℕ, ◌+◌, ◌*◌, ◌^◌, cond, List, [], ◌∷◌, ltb, length, take, drop, ℤ, pos, ◌-ℤ◌}

unfoldable pub unsigned : List ℕ → ℕ
unsigned [] = 0
unsigned (b ∷ bs) = b + 256 * unsigned bs

-- Two's complement: of the 256^k numbers of k bytes, each from the middle on stands for itself less 256^k.
unfoldable pub signed : List ℕ → ℤ
signed bs = cond (ltb (2 * unsigned bs) (256 ^ length bs)) (pos (unsigned bs)) (pos (unsigned bs) -ℤ pos (256 ^ length bs))

-- The k bytes of s from a place on.
abbrev pub operand : ℕ → List ℕ → ℕ → List ℕ
operand k s at = take k (drop at s)
