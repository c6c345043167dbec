-- How large the constant, the allowance and the floor are, and the floor as the code forms it.
use Prim.Native.Nat.{ℕ, ◌+◌, ◌*◌, ◌^◌, ◌<◌, ◌≤◌}
use mathlib.Core.Path.{◌≡◌}
use mathlib.Core.List.{List, []}
use native.Mathlib.Omega.{arith}
use native.Mathlib.Nat.{le_refl, le_trans, mul-le-mul_right}
use lib.IntN.{ℤ, pos, nat_abs, ◌+ℤ◌, ◌-ℤ◌, ◌*ℤ◌}
use lib.Signed.{mag}
use Rattle.integer.specs.Places.{at, Bounded, Steps}
use Rattle.integer.specs.Sum.{sum}
use Rattle.integer.proofs.Ring.{ring, ◌⊕◌, ◌⊖◌, ◌≐◌}
use Rattle.integer.proofs.Sizes.{size-add, size-sub, size-mul, called, back, Formed, formed}
use Rattle.integer.proofs.Sum.{size-sum}
use Rattle.commands.specs.Ranges.{most_entry, most_drift, most_number, most_multiplier}
use Rattle.problem.specs.Model.{Problem}
use Rattle.problem.specs.Dual.{adjoint, piece, pieces, constant, sizes, floor}
use Rattle.problem.specs.declared.Term.{Term}
use Rattle.primal.specs.Padded.{state_matrix, padded, term_at, padded_problem}
use Rattle.primal.specs.Ranges.{Tables}
use Rattle.primal.proofs.ProductSizes.{size_products}
use Rattle.primal.proofs.Places.{size-total}
use Rattle.dual.proofs.ByPlace.{sizes_places, slope_at, pieces_places}
use Rattle.dual.proofs.SlopeSizes.{size-input_slope, size-adjoint, size-state_slope}
use Rattle.dual.proofs.PieceSizes.{most_piece, size-piece}

-- the largest sum of a step's multipliers times drifts, the largest term of the start, constant, offset and floor
abbrev most_driven : ℕ
most_driven = 6 * (most_multiplier * most_drift)

abbrev most_started : ℕ
most_started = 6 * (most_multiplier * most_entry) * most_number

abbrev most_constant : ℕ
most_constant = 12 * most_driven + 6 * most_started

abbrev most_offset : ℕ
most_offset = most_constant + 2048 * (72 * most_multiplier)

abbrev pub most_floor : ℕ
most_floor = 120 * most_piece + most_offset

-- ---- The constant and the allowance

-- what step k's drifts add, and what state j of the start adds
abbrev pub drift_at : List ℤ → List ℤ → ℕ → ℤ
drift_at drift y k = sum 6 (λ i. padded y k i *ℤ at drift i)

abbrev pub started_at : List ℤ → List ℤ → List ℤ → ℕ → ℤ
started_at a start y j = adjoint 6 (state_matrix a) (padded y) 0 j *ℤ at start j

pub size_drift_at : {drift y : List ℤ} → Bounded most_drift drift → Bounded most_multiplier y → (k : ℕ) → nat_abs (drift_at drift y k) ≤ most_driven
size_drift_at hw hy k = size_products hy hw 6 (λ i. 6 * k + i) (λ i. i)

pub size_started_at : {a start y : List ℤ} → Bounded most_entry a → Bounded most_number start → Bounded most_multiplier y → (j : ℕ) →
    nat_abs (started_at a start y j) ≤ most_started
size_started_at {a} {start} {y} ha hs hy j = size-mul (adjoint 6 (state_matrix a) (padded y) 0 j) (at start j) (size-adjoint ha hy 0 j) (hs.each j)

pub size-constant : {a drift start y : List ℤ} (N : ℕ) → N ≤ 12 → Bounded most_entry a → Bounded most_drift drift → Bounded most_number start → Bounded most_multiplier y →
    nat_abs (constant (padded_problem N a [] drift start []) (padded y)) ≤ most_constant
unfolding constant
size-constant {a} {drift} {start} {y} N l ha hw hs hy =
    le_trans
    (size-add (sum N (drift_at drift y)) (sum 6 (started_at a start y))
    (size-sum N most_driven _ (λ k _. size_drift_at hw hy k)) (size-sum 6 most_started _ (λ j _. size_started_at ha hs hy j)))
    (omega arith)

-- the sum of |y| over the first places
pub size-sizes : {y : List ℤ} (count : ℕ) → count ≤ 72 → Bounded most_multiplier y → nat_abs (sum count (λ p. pos (nat_abs (at y p)))) ≤ 72 * most_multiplier
size-sizes count l hy = le_trans (size-sum count most_multiplier _ (λ p _. hy.each p)) (mul-le-mul_right most_multiplier l)

pub size_offset : {a drift start y : List ℤ} (N : ℕ) → N ≤ 12 → Bounded most_entry a → Bounded most_drift drift → Bounded most_number start → Bounded most_multiplier y →
    nat_abs (constant (padded_problem N a [] drift start []) (padded y) -ℤ pos 2048 *ℤ sizes 6 N (padded y)) ≤ most_offset
size_offset {a} {drift} {start} {y} N l ha hw hs hy =
    size-sub (constant (padded_problem N a [] drift start []) (padded y)) (pos 2048 *ℤ sizes 6 N (padded y)) (size-constant N l ha hw hs hy)
    (size-mul (pos 2048) (sizes 6 N (padded y)) {B = 72 * most_multiplier} (le_refl 2048) (rw (← sizes_places N y) (size-sizes (6 * N) (omega arith) hy)))

-- ---- The floor

module _ {terms : List Term} {a b drift start y : List ℤ} (tables : Tables terms) (N : ℕ) (l : N ≤ 12) (ha : Bounded most_entry a)
    (hb : Bounded most_entry b) (hw : Bounded most_drift drift) (hs : Bounded most_number start) (hy : Bounded most_multiplier y) where
  abbrev q : Problem
  q = padded_problem N a b drift start terms

  abbrev rest : ℤ
  rest = constant q (padded y) -ℤ pos 2048 *ℤ sizes 6 N (padded y)

  floor-is : pieces q (padded y) +ℤ rest ≡ floor q (padded y)
  unfolding floor
  floor-is = ring 3 (λ p c z. p ⊕ (c ⊖ z) ≐ p ⊕ c ⊖ z) tt (pieces q (padded y)) (constant q (padded y)) (pos 2048 *ℤ sizes 6 N (padded y))

  pub size-floor : nat_abs (floor q (padded y)) ≤ most_floor
  unfolding pieces constant
  size-floor =
      rw (← floor-is)
      (size-add (pieces q (padded y)) rest
      (size-total N _ _ l
      (λ k j h m. size-piece (tables.each (10 * k + j) (omega arith)) _ (le_trans (size-input_slope hb hy k j) (omega arith)))
      (λ k i h m. size-piece (tables.each (10 * k + (4 + i)) (omega arith)) _ (size-state_slope ha hy N k i)))
      (size_offset N l ha hw hs hy))

  -- the code adds the pieces p, from the slopes s, and the constant less the allowance, o: that is the floor, and it fits
  pub floor_formed : {s : List ℤ} {p o : ℤ} → Steps 10 N (slope_at a b y N) s →
      mag p < 2 ^ 63 → p ≡ sum (10 * N) (λ c. piece (term_at terms c) (at s c)) → mag o < 2 ^ 63 → o ≡ rest →
      Formed (back p +ℤ back o) (floor q (padded y))
  floor_formed {s} {p} {o} slopes f e g d =
      formed (rw (called p f, e, pieces_places N a b drift start terms y s slopes, called o g, d) floor-is) size-floor (omega arith)
