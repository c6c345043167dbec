-- From what a call of the crates below answers, and the numbers that a function makes of a result, to the number and `out`.
use mathlib.Core.Path.{◌≡◌, refl, ◌∙◌}
use mathlib.Core.List.{List}
use lib.IntN.{ℤ}
use Rattle.std.specs.Prelude.{ℕ, Result, Ok, Err, MatchResult}
use Rattle.std.specs.Result.{IsOkAnd}
use Rattle.tape.specs.declared.refusal.Refusal.{Refusal}
use Rattle.numbers.specs.Numbers.{code_of}
use Rattle.planner.proofs.Figures.{SmallErr}

-- m is what `map` made of r
module _ {X : Type 0} (P : X → List ℤ → Type 0) (r : Result X Refusal) (m : Result (List ℤ) Refusal) (mapped : MatchResult r (λ x. IsOkAnd m (P x)) (λ why. m ≡ Err why)) where
  -- it leaves a refusal as it is
  pub small_mapped : SmallErr r → SmallErr m
  small_mapped s = go r m mapped s
    where
      go : (r : Result X Refusal) (m : Result (List ℤ) Refusal) → MatchResult r (λ x. IsOkAnd m (P x)) (λ why. m ≡ Err why) → SmallErr r → SmallErr m
      go (Ok x) (Ok y) h s = tt
      go (Ok x) (Err why) h s = absurd h
      go (Err why) m h s = rw h s

  pub answered : (f : X → List ℤ) (number : ℕ) (out before : List ℤ) → ((x : X) (y : List ℤ) → r ≡ Ok x → P x y → y ≡ f x) →
      MatchResult m (λ _. number ≡ 0) (λ why. number ≡ code_of why) → MatchResult m (λ y. out ≡ y) (λ _. out ≡ before) →
      MatchResult r (λ x. (number ≡ 0) × (out ≡ f x)) (λ why. (number ≡ code_of why) × (out ≡ before))
  answered f number out before is n o = go r m refl mapped n o
    where
      go : (a : Result X Refusal) (m : Result (List ℤ) Refusal) → r ≡ a → MatchResult a (λ x. IsOkAnd m (P x)) (λ why. m ≡ Err why) →
          MatchResult m (λ _. number ≡ 0) (λ why. number ≡ code_of why) → MatchResult m (λ y. out ≡ y) (λ _. out ≡ before) →
          MatchResult a (λ x. (number ≡ 0) × (out ≡ f x)) (λ why. (number ≡ code_of why) × (out ≡ before))
      go (Ok x) (Ok y) e h n o = (n, o ∙ is x y e h)
      go (Ok x) (Err why) e h n o = absurd h
      go (Err why) m e h n o = let p = rw h at n in let q = rw h at o in (p, q)
