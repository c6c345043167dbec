-- Places beyond the sizes add 0: the padded problem has the model sums, costs and ceiling of the tape's problem.
use Prim.Native.Nat.{ℕ, ◌<◌, ◌≤◌}
use mathlib.Core.Path.{◌≡◌, refl, ◌∙◌, ap, ap₂}
use mathlib.Core.List.{List, []}
use mathlib.Core.Logic.{inr}
use native.Mathlib.Omega.{arith}
use lib.IntN.{ℤ, pos, ◌+ℤ◌, ◌*ℤ◌, zero-*ℤ}
use Rattle.integer.specs.Places.{at}
use Rattle.integer.specs.Sum.{sum}
use Rattle.integer.proofs.Sum.{sum_cong, sum_pad}
use Rattle.tape.specs.declared.Tape.{Tape}
use Rattle.tape.specs.Legal.{Legal}
use Rattle.problem.specs.declared.Term.{Term}
use Rattle.problem.specs.Model.{Problem, Plan, problem_of, model_sum}
use Rattle.problem.specs.Cost.{total, cost, plan_cost}
use Rattle.problem.specs.Dual.{larger, most, ceiling}
use Rattle.primal.specs.Padded.{state_matrix, input_matrix, blank_term, padded_problem}
use Rattle.primal.specs.Terms.{TermsOf}

-- ---- Sums of N numbers, of which those from n on are 0

pub sum_products : (n N : ℕ) (f g : ℕ → ℤ) → n ≤ N → ((j : ℕ) → n ≤ j → j < N → f j ≡ pos 0) → sum N (λ j. f j *ℤ g j) ≡ sum n (λ j. f j *ℤ g j)
sum_products n N f g l zero = sum_pad n N _ l (λ j h k. rw (zero j h k) (zero-*ℤ (g j)))

-- costs, pieces and the ceiling are sums over terms and numbers: from n on the terms are blank and the numbers 0
sum-terms : (n N : ℕ) (f : Term → ℤ → ℤ) (r s : ℕ → Term) (v : ℕ → ℤ) → n ≤ N → f blank_term (pos 0) ≡ pos 0 →
    ((j : ℕ) → j < n → r j ≡ s j) → ((j : ℕ) → n ≤ j → j < N → r j ≡ blank_term) → ((j : ℕ) → n ≤ j → j < N → v j ≡ pos 0) →
    sum N (λ j. f (r j) (v j)) ≡ sum n (λ j. f (s j) (v j))
sum-terms n N f r s v l none same blank zero =
    sum_pad n N _ l (λ j h k. ap₂ f (blank j h k) (zero j h k) ∙ none) ∙ sum_cong n _ _ (λ j h. ap (λ (a : Term). f a (v j)) (same j h))

module _ (t : Tape) (legal : Legal t) where
  -- the columns of A and of B beyond the sizes are 0
  pub model_padded : (x u : ℕ → ℤ) (i : ℕ) → model_sum 6 4 (state_matrix t.a) (input_matrix t.b) (at t.drift) x u i
      ≡ model_sum t.n t.m (problem_of t).A (problem_of t).B (problem_of t).w x u i
  unfolding model_sum
  model_padded x u i =
      ap₂ (λ (p q : ℤ). p +ℤ q +ℤ at t.drift i)
      (sum_products t.n 6 _ x legal.states.1 (λ j h l. legal.blank_a i j l (inr h)))
      (sum_products t.m 4 _ u legal.inputs.1 (λ j h l. legal.blank_b i j l (inr h)))

abbrev pub padded_tape : Tape → List Term → Problem
padded_tape t = padded_problem t.horizon t.a t.b t.drift t.start

module _ (t : Tape) (legal : Legal t) (table : List Term) (terms : TermsOf t table) where
  -- without the model, which costs and the ceiling do not ask for
  abbrev pub padded_terms : Problem
  padded_terms = padded_problem t.horizon [] [] [] [] table

  -- over a whole plan; for costs, pieces and `most` the first premise holds by computing
  pub total-terms : (f : Term → ℤ → ℤ) (u x : ℕ → ℕ → ℤ) → f blank_term (pos 0) ≡ pos 0 →
      ((k j : ℕ) → k < t.horizon → t.m ≤ j → j < 4 → u k j ≡ pos 0) → ((k i : ℕ) → k < t.horizon → t.n ≤ i → i < 6 → x k i ≡ pos 0) →
      total 6 4 t.horizon (λ k j. f (padded_terms.input_term k j) (u k j)) (λ k i. f (padded_terms.state_term k i) (x k i))
      ≡ total t.n t.m t.horizon (λ k j. f ((problem_of t).input_term k j) (u k j)) (λ k i. f ((problem_of t).state_term k i) (x k i))
  unfolding total
  total-terms f u x none hu hx =
      sum_cong t.horizon _ _
      (λ k h. let l : k < 12 = omega arith in
      ap₂ (λ (p q : ℤ). p +ℤ q)
      (sum-terms t.m 4 f _ _ (u k) legal.inputs.1 none (λ j. terms.input k j l) (λ j. terms.no_input k j l) (λ j. hu k j h))
      (sum-terms t.n 6 f _ _ (x k) legal.states.1 none (λ i. terms.state k i l) (λ i. terms.no_state k i l) (λ i. hx k i h)))

  pub cost-padded : (v : Plan) → ((k j : ℕ) → k < t.horizon → t.m ≤ j → j < 4 → v.u k j ≡ pos 0) →
      ((k i : ℕ) → k < t.horizon → t.n ≤ i → i < 6 → v.x k i ≡ pos 0) → plan_cost padded_terms v ≡ plan_cost (problem_of t) v
  unfolding plan_cost cost
  cost-padded v = total-terms cost v.u v.x refl

  pub ceiling-padded : ceiling padded_terms ≡ ceiling (problem_of t)
  unfolding ceiling most larger
  ceiling-padded = total-terms (λ a _. most a) (λ _ _. pos 0) (λ _ _. pos 0) refl (λ _ _ _ _ _. refl) (λ _ _ _ _ _. refl)
