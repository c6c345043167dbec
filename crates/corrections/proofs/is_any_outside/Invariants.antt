use mathlib.Core.Path.{◌≡◌}
use mathlib.Core.Bool.{Bool, false}
use lib.IntN.{ℤ, pos, neg_ℤ}
use Rattle.integer.specs.Places.{at}
use Rattle.integer.specs.Tests.{outside, any}
use Rattle.corrections.specs.Corrections.{most_given}
use Rattle.corrections.proofs.is_any_outside.Given as goal

abbrev pub wrong : ℤ → Bool
wrong = outside (neg_ℤ (pos most_given)) (pos most_given)

abbrev pub invariant-loop-x : goal.invariant-loop-x
invariant-loop-x l = any l.x-index (λ q. wrong (at l.residuals q)) ≡ false
