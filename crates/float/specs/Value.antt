-- The number that a 64-bit float is. `fin s m e` is m × 2^e, negative where s is true; 2^e is the fraction up e / down e.
use Rattle.std.specs.Prelude.{◌≡◌, ℕ, suc, ◌*◌, Bool, true, false, T, ℤ, pos, negsuc, ◌*ℤ◌, neg_ℤ, Float}
use Rattle.std.specs.Float.{nan, inf, fin, binary64}
use Rattle.std.specs.Float.Ieee.{up, down, round}

-- neither infinite nor not a number
abbrev pub finite : Float → Bool
finite nan = false
finite (inf s) = false
finite (fin s m e) = true

abbrev pub Finite : Float → Type 0
Finite x = T (finite x)

abbrev pub signed : Bool → ℕ → ℤ
signed false n = pos n
signed true n = neg_ℤ (pos n)

-- A finite float is the fraction numerator / denominator, exactly; both zeros are 0.
abbrev pub numerator : Float → ℤ
numerator nan = pos 0
numerator (inf s) = pos 0
numerator (fin s m e) = signed s (m * up e)

abbrev pub denominator : Float → ℕ
denominator nan = 1
denominator (inf s) = 1
denominator (fin s m e) = down e

-- x is finite and is the fraction p / q exactly, for a q from 1.
pub record Equals (x : Float) (p : ℤ) (q : ℕ) : Type 0 where
  pub finite : Finite x
  pub value : numerator x *ℤ pos q ≡ p *ℤ pos (denominator x)

-- The float nearest to the fraction p / q, for a q from 1. `negsuc n` is −(n + 1).
abbrev pub float_of : ℤ → ℕ → Float
float_of (pos n) q = round binary64 false n q
float_of (negsuc n) q = round binary64 true (suc n) q
