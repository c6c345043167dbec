use Prim.Native.Nat.{ℕ, ◌*◌}
use mathlib.Core.Path.{◌≡◌}
use mathlib.Core.Bool.{Bool, not, ◌&&◌}
use mathlib.Core.List.{List}
use Rattle.integer.specs.Tests.{count}
use Rattle.words.specs.Words.{bit_of}
use Rattle.words.proofs.missing_ones.Given as goal

-- required and not given
abbrev pub missing : List ℕ → List ℕ → ℕ → Bool
missing required given i = bit_of required i && not (bit_of given i)

abbrev pub invariant-loop-word : goal.invariant-loop-word
invariant-loop-word l = l.sum ≡ count (64 * l.word) (missing l.required l.given)
