use Prim.Native.Nat.{ℕ, ◌+◌, ◌-◌, ◌^◌, ◌<◌}
use mathlib.Core.Path.{◌∙◌}
use native.Mathlib.Omega.{arith}
use lib.Dec.{ltb}
use lib.Pow.{pow_pos}
use Rattle.integer.proofs.Tests.{same_test}
use Rattle.words.specs.Words.{Holds}
use Rattle.words.proofs.Bits.{bit_ones, shifted_one}
use Rattle.words.proofs.below.Goals as goal

-- the lowest k bits, where k is the number of places before `end`, or 64 where there are more
lowest : (first end k : ℕ) → ((b : ℕ) → b < 64 → (b < k → first + b < end) × (first + b < end → b < k))
    → Holds (2 ^ k - 1) (λ b. ltb (first + b) end)
lowest first end k h = record { each = λ b l. bit_ones k b ∙ same_test b k (first + b) end (h b l).0 (h b l).1 }

pub returns-then-end-first : goal.returns-then-end-first
returns-then-end-first c =
    let a = c.args in
    lowest a.first a.end 0 (λ b l. (λ h. omega arith, λ h. omega arith))

pub returns-then-width-ge64 : goal.returns-then-width-ge64
returns-then-width-ge64 c =
    let a = c.args in
    lowest a.first a.end 64 (λ b l. (λ h. omega arith, λ h. omega arith))

pub overflow_sub-result : goal.overflow_sub-result
overflow_sub-result c =
    let a = c.args in
    rw (shifted_one 64 (a.end - a.first) (omega arith)) (pow_pos (a.end - a.first))

pub returns : goal.returns
returns c =
    let a = c.args in
    rw (shifted_one 64 (a.end - a.first) (omega arith))
    (lowest a.first a.end (a.end - a.first) (λ b l. (λ h. omega arith, λ h. omega arith)))
