-- Document 02, request 2: one entry a of the identification tool's A and B. A finite float is numerator a / denominator a.
use Rattle.std.specs.Prelude.{ℕ, ◌≤◌, ◌<◌, cond, ◌≡◌, eqb, ltb, ℤ, pos, neg_ℤ, nat_abs, ◌-ℤ◌, ◌*ℤ◌, Float, Result, Ok, Err}
use Rattle.integer.specs.Order.{◌≼◌, ◌≺◌}
use Rattle.commands.specs.Ranges.{most_entry}
use Rattle.tape.specs.declared.refusal.Refusal.TheVariants as refusal
use Rattle.tape.specs.Refusals.{row}
use Rattle.float.specs.Value.{finite, Finite, numerator, denominator, Equals, float_of}
use Rattle.float.specs.Nearest.{nearest_whole, Nearest}
use Rattle.import.specs.declared.Entry.{Entry}
use Rattle.import.specs.declared.Entry.TheVariants.{Whole, Near}
use Rattle.import.specs.declared.ImportError.{ImportError}
use Rattle.import.specs.declared.ImportError.TheVariants.{NotFinite, TooLarge}

-- ---- The answer

-- 4096 × a is the fraction scaled a / denominator a
abbrev pub scaled : Float → ℤ
scaled a = pos 4096 *ℤ numerator a

-- "the whole number nearest to 4096 × a, halves upward"
unfoldable pub number : Float → ℤ
number a = nearest_whole (scaled a) (denominator a)

-- "4096 × a minus that number" is the fraction rest a / denominator a
unfoldable pub rest : Float → ℤ
unfolding number
rest a = scaled a -ℤ number a *ℤ pos (denominator a)

-- 16 where a is infinite or not a number; 17 where the number is beyond 16,384 in size; whole where nothing is left
unfoldable pub imported : Float → Result Entry ImportError
unfolding number rest
imported a =
    cond (finite a)
    (cond (ltb most_entry (nat_abs (number a))) (Err TooLarge)
    (cond (eqb (nat_abs (rest a)) 0) (Ok (Whole (number a))) (Ok (Near (number a) (float_of (rest a) (denominator a))))))
    (Err NotFinite)

-- A refused entry's number in the table of refusals. Of an entry alone it carries nothing. 0 for a result.
abbrev pub refusal_number : Result Entry ImportError → ℕ
refusal_number (Ok entry) = 0
refusal_number (Err NotFinite) = (row (refusal.NotFinite 0)).number
refusal_number (Err TooLarge) = (row (refusal.TooLarge 0)).number

-- ---- What an answer says of a, over whole numbers

-- a is finite, and k is the whole number nearest to 4096 × a, halves upward
pub record Rounds (a : Float) (k : ℤ) : Type 0 where
  pub finite : Finite a
  pub nearest : Nearest (scaled a) (denominator a) k

-- 4096 × a is k itself
abbrev pub Is : Float → ℤ → Type 0
Is a k = scaled a ≡ k *ℤ pos (denominator a)

-- x is from −1/2 up to but not including 1/2
pub record UnderHalf (x : Float) : Type 0 where
  pub from : neg_ℤ (pos (denominator x)) ≼ pos 2 *ℤ numerator x
  pub below : pos 2 *ℤ numerator x ≺ pos (denominator x)

-- 4096 × a is no whole number, and the leftover is exactly 4096 × a − k
pub record Left (a : Float) (k : ℤ) (leftover : Float) : Type 0 where
  pub broken : (z : ℤ) → Is a z → ⊥
  pub exactly : Equals leftover (scaled a -ℤ k *ℤ pos (denominator a)) (denominator a)
  pub range : UnderHalf leftover

abbrev pub Exact : Float → Result Entry ImportError → Type 0
Exact a (Ok (Whole k)) = Rounds a k × (nat_abs k ≤ most_entry) × Is a k
Exact a (Ok (Near k leftover)) = Rounds a k × (nat_abs k ≤ most_entry) × Left a k leftover
Exact a (Err NotFinite) = Finite a → ⊥
Exact a (Err TooLarge) = (k : ℤ) × Rounds a k × (most_entry < nat_abs k)
