-- Document 01's ranges: the largest size that each number of a tape, of a plan and of multipliers may have.
use Rattle.std.specs.Prelude.{ℕ, Bool, ℤ, pos, neg_ℤ}
use Rattle.integer.specs.Tests.{outside}

-- A(i,j) and B(i,j), in units of 1/4096
abbrev pub most_entry : ℕ
most_entry = 16384

-- w(i)
abbrev pub most_drift : ℕ
most_drift = 16777216

-- lo, hi, r and x(0), and so every number of a plan within its limits
abbrev pub most_number : ℕ
most_number = 20000

-- h
abbrev pub most_weight : ℕ
most_weight = 255

-- g, R and T
abbrev pub most_gain : ℕ
most_gain = 65535

abbrev pub most_rounds : ℕ
most_rounds = 10000

abbrev pub most_wanted : ℕ
most_wanted = 4294967295

-- y(k,i)
abbrev pub most_multiplier : ℕ
most_multiplier = 16777216

-- v is not in −most to most
abbrev pub exceeding : ℕ → ℤ → Bool
exceeding most v = outside (neg_ℤ (pos most)) (pos most) v
