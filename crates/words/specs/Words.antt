-- Words of 64 bits, the lowest bit first.
use Rattle.std.specs.Prelude.{ℕ, ◌*◌, ◌/◌, ◌%◌, ◌^◌, ◌<◌, ◌≡◌, Bool, List, eqb, get_or}

abbrev pub word_count : ℕ
word_count = 3

-- bit b of a word
unfoldable pub bit : ℕ → ℕ → Bool
bit word b = eqb (word / 2 ^ b % 2) 1

-- bit i of several words
unfoldable pub bit_of : List ℕ → ℕ → Bool
bit_of words i = bit (get_or words (i / 64) 0) (i % 64)

-- the bits of a word are f 0, f 1, .. f 63
pub record Holds (word : ℕ) (f : ℕ → Bool) : Type 0 where
  pub each : (b : ℕ) → b < 64 → bit word b ≡ f b

-- the bits of several words are f 0, f 1, .. to the last
pub record HoldAll (words : List ℕ) (f : ℕ → Bool) : Type 0 where
  pub each : (i : ℕ) → i < 64 * word_count → bit_of words i ≡ f i
