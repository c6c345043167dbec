-- The bytes that stand for a number, the low byte first: the other way round than operands are read, for any number of bytes.
use Rattle.std.specs.Prelude.{ℕ, zero, suc, ◌-◌, ◌/◌, ◌%◌, ◌^◌, List, [], ◌∷◌, ℤ, pos, negsuc}

-- k bytes of a number below 256^k
unfoldable pub unsigned_bytes : ℕ → ℕ → List ℕ
unsigned_bytes zero n = []
unsigned_bytes (suc k) n = n % 256 ∷ unsigned_bytes k (n / 256)

-- Two's complement among `count` numbers: one below 0 stands as itself plus count. `negsuc n` is −(n + 1).
unfoldable pub complement : ℕ → ℤ → ℕ
complement count (pos n) = n
complement count (negsuc n) = count - suc n

abbrev pub signed_bytes : ℕ → ℤ → List ℕ
signed_bytes k z = unsigned_bytes k (complement (256 ^ k) z)
