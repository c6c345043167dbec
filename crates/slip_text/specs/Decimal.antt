-- Words and numbers as bytes, in ASCII.
use Rattle.std.specs.Prelude.{ℕ, zero, suc, ◌+◌, ◌/◌, ◌%◌, cond, List, [], ◌∷◌, ◌++◌, ltb, ℤ, pos, negsuc}
use Prim.Native.Char.{code}
use Prim.Native.String.{String, [] as none, ◌∷◌ as ◌and◌}

abbrev pub text : String → List ℕ
text none = []
text (c and s) = code c ∷ text s

abbrev pub digit : ℕ → ℕ
digit d = 48 + d

-- The digits of x, the most significant first, by at most k divisions.
unfoldable pub digits : ℕ → ℕ → List ℕ
digits zero x = digit x ∷ []
digits (suc k) x = cond (ltb x 10) (digit x ∷ []) (digits k (x / 10) ++ (digit (x % 10) ∷ []))

-- x divisions are enough.
abbrev pub decimal : ℕ → List ℕ
decimal x = digits x x

abbrev pub signed_decimal : ℤ → List ℕ
signed_decimal (pos x) = decimal x
signed_decimal (negsuc x) = text "-" ++ decimal (suc x)
