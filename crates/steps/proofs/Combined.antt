-- Step 1 on arrays: it fills an array from the front with what a function makes of the numbers at the same place of two others.
use Prim.Native.Nat.{ℕ, ◌+◌, ◌^◌, ◌<◌}
use mathlib.Core.Path.{◌≡◌, ◌∙◌, ap₂}
use mathlib.Core.List.{List}
use lib.ListN.{length, set}
use lib.IntN.{ℤ}
use lib.Signed.{mag}
use Rattle.integer.specs.Places.{at, Bounded, Stretch}
use Rattle.integer.proofs.Places.{fill_store}
use Rattle.integer.proofs.Sizes.{called, element_is, back}

-- the first p places are filled
abbrev pub Combined : (ℤ → ℤ → ℤ) → List ℤ → List ℤ → List ℤ → ℕ → List ℤ → Type 0
Combined f a b old p l = Stretch 0 p (λ q. f (at a q) (at b q)) old l

-- one more, by a call that gave z from the two numbers as they were read back
pub combined_more : (f : ℤ → ℤ → ℤ) {A B : ℕ} {a b : List ℤ} → Bounded A a → A < 2 ^ 63 → Bounded B b → B < 2 ^ 63 →
    (p : ℕ) {old l : List ℤ} (z : ℤ) → p < length old → Combined f a b old p l → mag z < 2 ^ 63 → z ≡ f (back (at a p)) (back (at b p)) →
    Combined f a b old (p + 1) (set l p (back z))
combined_more f ha fa hb fb p z room filled fits e =
    fill_store filled room (called z fits ∙ e ∙ ap₂ f (element_is ha fa p) (element_is hb fb p))
