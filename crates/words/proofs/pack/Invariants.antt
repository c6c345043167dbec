use Prim.Native.Nat.{ℕ, ◌+◌}
use mathlib.Core.Path.{◌≡◌}
use mathlib.Core.Bool.{Bool, false, ◌&&◌}
use lib.Dec.{ltb}
use lib.ListN.{get_or}
use Rattle.words.specs.Words.{bit}
use Rattle.words.proofs.pack.Given as goal

-- the word's bits below b are f's, and the others are not set
abbrev pub Below : (ℕ → Bool) → ℕ → ℕ → Type 0
Below f b word = (j : ℕ) → bit word j ≡ ltb j b && f j

abbrev pub invariant-loop-b : goal.invariant-loop-b
invariant-loop-b l = Below (λ j. get_or l.marks (l.first + j) false) l.b l.word
