-- Steps 1, 2 and 4 of a round keep the ranges, and leave 0 at a place beyond the sizes.
use Prim.Native.Nat.{ℕ, ◌≤◌}
use mathlib.Core.Path.{◌≡◌}
use native.Mathlib.Omega.{arith}
use native.Mathlib.Nat.{zero-div}
use lib.IntN.{ℤ, pos, nat_abs, ◌+ℤ◌, ◌-ℤ◌, zero-*ℤ, *ℤ-zero, neg_ℤ}
use Rattle.integer.specs.Limited.{limited}
use Rattle.integer.specs.Order.{◌≼◌}
use Rattle.integer.specs.Quotient.{◌÷◌}
use Rattle.integer.proofs.Order.{order}
use Rattle.integer.proofs.Limited.{limited-low, limited-high, size-limited}
use Rattle.integer.proofs.Tests.{by_test}
use Rattle.commands.specs.Ranges.{most_number, most_multiplier}
use Rattle.problem.specs.declared.Term.{Term}
use Rattle.problem.specs.Cost.{Within}
use Rattle.problem.specs.Dual.{weightless}
use Rattle.problem.proofs.Piece.{one_limit}
use Rattle.primal.specs.Padded.{blank_term}
use Rattle.steps.specs.Steps.{ahead, minimiser, ascended, gain_correction}

pub size-ahead : (k y previous : ℤ) → nat_abs (ahead k y previous) ≤ most_multiplier
unfolding ahead
size-ahead k y previous = size-limited (neg_ℤ (pos most_multiplier)) (pos most_multiplier) _ (omega arith) (omega arith)

pub size-ascended : (y correction : ℤ) → nat_abs (ascended y correction) ≤ most_multiplier
unfolding ascended
size-ascended y correction = size-limited (neg_ℤ (pos most_multiplier)) (pos most_multiplier) _ (omega arith) (omega arith)

pub size-minimiser : (t : Term) (s : ℤ) → nat_abs t.low ≤ most_number → nat_abs t.high ≤ most_number → nat_abs (minimiser t s) ≤ most_number
unfolding minimiser
size-minimiser t s l h =
    by_test (λ v. nat_abs v ≤ most_number) (weightless t.penalty) (λ _. one_limit (λ v. nat_abs v ≤ most_number) t.low t.high s l h)
    (λ _. size-limited t.low t.high _ l h)

pub minimiser-within : (t : Term) (s : ℤ) → t.low ≼ t.high → Within t (minimiser t s)
unfolding minimiser
minimiser-within t s l =
    let here : t.low ≼ t.low = omega (arith, order) in
    let there : t.high ≼ t.high = omega (arith, order) in
    by_test (Within t) (weightless t.penalty) (λ _. one_limit (Within t) t.low t.high s (here, l) (l, there))
    (λ _. (limited-low t.low t.high _ l, limited-high t.low t.high _ l))

-- ---- Beyond the sizes

pub ahead_zero : (k : ℕ) → ahead (pos k) (pos 0) (pos 0) ≡ pos 0
unfolding ahead ◌÷◌ limited
ahead_zero k = rw (*ℤ-zero (pos k -ℤ pos 1), zero-div (nat_abs (pos k +ℤ pos 2)))

pub ascended_zero : (gain : ℤ) → ascended (pos 0) (gain_correction gain (pos 0)) ≡ pos 0
unfolding ascended ◌÷◌ limited
ascended_zero gain = rw (zero-*ℤ gain)

pub minimiser-blank : (s : ℤ) → minimiser blank_term s ≡ pos 0
minimiser-blank s =
    let l : pos 0 ≼ pos 0 = omega (arith, order) in
    let w = minimiser-within blank_term s l in
    omega (arith, order)
