-- Places beyond the sizes add 0 to slopes and to the floor, where the multipliers there are 0.
use Prim.Native.Nat.{ℕ, ◌+◌, ◌<◌, ◌≤◌}
use mathlib.Core.Path.{◌≡◌, refl, ◌∙◌, ap, ap₂}
use mathlib.Core.Bool.{Bool, true, false, cond}
use mathlib.Core.List.{List}
use mathlib.Core.Logic.{inr}
use lib.Dec.{ltb}
use lib.IntN.{ℤ, pos, negsuc, nat_abs, ◌+ℤ◌, ◌*ℤ◌, *ℤ-zero}
use Rattle.integer.specs.Places.{at}
use Rattle.integer.specs.Sum.{sum}
use Rattle.integer.proofs.Sum.{sum_cong, sum_zero, sum_pad}
use Rattle.tape.specs.declared.Tape.{Tape}
use Rattle.tape.specs.Legal.{Legal}
use Rattle.problem.specs.Model.{Problem, problem_of}
use Rattle.problem.specs.Dual.{input_slope, adjoint, carried, state_slope, unweighted, piece, pieces, constant, sizes, floor}
use Rattle.problem.proofs.Total.{total_cong}
use Rattle.problem.specs.declared.Term.{Term}
use Rattle.primal.specs.Terms.{TermsOf}
use Rattle.primal.proofs.Padding.{sum_products, padded_tape, total-terms}

module _ (t : Tape) (legal : Legal t) (y : ℕ → ℕ → ℤ) (blank : (k i : ℕ) → t.n ≤ i → i < 6 → y k i ≡ pos 0) where
  -- a step's multipliers, each times a number: slopes and the drift's part are such sums
  products_padded : (k : ℕ) (c : ℕ → ℤ) → sum 6 (λ i. y k i *ℤ c i) ≡ sum t.n (λ i. y k i *ℤ c i)
  products_padded k c = sum_products t.n 6 (y k) c legal.states.1 (blank k)

  products_none : (k : ℕ) (c : ℕ → ℤ) → ((i : ℕ) → c i ≡ pos 0) → sum 6 (λ i. y k i *ℤ c i) ≡ pos 0
  products_none k c zero = sum_zero 6 _ (λ i _. rw (zero i) (*ℤ-zero (y k i)))

  pub input_slope-padded : (k j : ℕ) → input_slope 6 (problem_of t).B y k j ≡ input_slope t.n (problem_of t).B y k j
  unfolding input_slope
  input_slope-padded k j = products_padded k (λ i. (problem_of t).B i j)

  adjoint-padded : (k j : ℕ) → adjoint 6 (problem_of t).A y k j ≡ adjoint t.n (problem_of t).A y k j
  unfolding adjoint
  adjoint-padded k j = products_padded k (λ i. (problem_of t).A i j)

  pub state_slope-padded : (k i : ℕ) → state_slope 6 t.horizon (problem_of t).A y k i ≡ state_slope t.n t.horizon (problem_of t).A y k i
  unfolding state_slope carried
  state_slope-padded k i =
      ap (λ (s : ℤ). negsuc 4095 *ℤ y k i +ℤ cond (ltb (k + 1) t.horizon) s (pos 0)) (adjoint-padded (k + 1) i)

  -- a number beyond the sizes has slope 0
  pub input_slope-none : (k j : ℕ) → t.m ≤ j → j < 4 → input_slope 6 (problem_of t).B y k j ≡ pos 0
  unfolding input_slope
  input_slope-none k j h l = products_none k _ (λ i. legal.blank_b i j l (inr h))

  adjoint-none : (k j : ℕ) → t.n ≤ j → j < 6 → adjoint 6 (problem_of t).A y k j ≡ pos 0
  unfolding adjoint
  adjoint-none k j h l = products_none k _ (λ i. legal.blank_a i j l (inr h))

  pub state_slope-none : (k i : ℕ) → t.n ≤ i → i < 6 → state_slope 6 t.horizon (problem_of t).A y k i ≡ pos 0
  unfolding state_slope carried
  state_slope-none k i h l =
      ap₂ (λ (v s : ℤ). negsuc 4095 *ℤ v +ℤ cond (ltb (k + 1) t.horizon) s (pos 0)) (blank k i h l)
      (adjoint-none (k + 1) i h l)
      ∙ go (ltb (k + 1) t.horizon)
    where
      go : (b : Bool) → negsuc 4095 *ℤ pos 0 +ℤ cond b (pos 0) (pos 0) ≡ pos 0
      go true = refl
      go false = refl

module _ (t : Tape) (legal : Legal t) (table : List Term) (terms : TermsOf t table) (y : ℕ → ℕ → ℤ)
    (blank : (k i : ℕ) → t.n ≤ i → i < 6 → y k i ≡ pos 0) where
  abbrev on_places : Problem
  on_places = padded_tape t table

  pieces-padded : pieces on_places y ≡ pieces (problem_of t) y
  unfolding pieces unweighted piece
  pieces-padded =
      total-terms t legal table terms piece _ _ refl (λ k j _. input_slope-none t legal y blank k j) (λ k i _. state_slope-none t legal y blank k i)
      ∙ total_cong t.n t.m t.horizon _ _ _ _ (λ k j _ _. ap (piece ((problem_of t).input_term k j)) (input_slope-padded t legal y blank k j))
      (λ k i _ _. ap (piece ((problem_of t).state_term k i)) (state_slope-padded t legal y blank k i))

  constant-padded : constant on_places y ≡ constant (problem_of t) y
  unfolding constant
  constant-padded =
      ap₂ (λ (p q : ℤ). p +ℤ q) (sum_cong t.horizon _ _ (λ k _. products_padded t legal y blank k (at t.drift)))
      (sum_products t.n 6 _ (at t.start) legal.states.1 (adjoint-none t legal y blank 0)
      ∙ sum_cong t.n _ _ (λ j _. ap (λ (s : ℤ). s *ℤ at t.start j) (adjoint-padded t legal y blank 0 j)))

  sizes-padded : sizes 6 t.horizon y ≡ sizes t.n t.horizon y
  unfolding sizes
  sizes-padded =
      sum_cong t.horizon _ _ (λ k _. sum_pad t.n 6 _ legal.states.1 (λ i h l. ap (λ (v : ℤ). pos (nat_abs v)) (blank k i h l)))

  pub floor-padded : floor on_places y ≡ floor (problem_of t) y
  unfolding floor
  floor-padded = rw (pieces-padded, constant-padded, sizes-padded)
