-- The numbers of a step and what they cost: what the loops of `input_numbers` and `state_numbers` have in common, and how large the costs are.
use Prim.Native.Nat.{ℕ, ◌+◌, ◌*◌, ◌^◌, ◌<◌, ◌≤◌}
use mathlib.Core.Path.{◌≡◌, ◌∙◌, ap, subst}
use mathlib.Core.List.{List}
use native.Mathlib.Omega.{arith}
use native.Mathlib.Nat.{le_trans, mul-le-mul_right}
use lib.ListN.{length, set}
use lib.IntN.{ℤ, nat_abs, ◌+ℤ◌}
use lib.Signed.{mag}
use mir.Syntax.{w64}
use mir.Val.{SFits}
use mir.Facts.{to_z-of_z}
use Rattle.integer.specs.Places.{at, Stretch}
use Rattle.integer.specs.Sum.{sum}
use Rattle.integer.proofs.Sizes.{called, back, element_is, Formed}
use Rattle.integer.proofs.Places.{stretch_store}
use Rattle.integer.proofs.Sum.{size-sum, added}
use Rattle.commands.specs.Ranges.{most_number}
use Rattle.problem.specs.Cost.{cost}
use Rattle.primal.specs.Ranges.{most_penalty}
use Rattle.primal.proofs.TermSizes.{most_cost, near, size-cost}
use Rattle.steps.specs.Steps.{minimiser}
use Rattle.steps.proofs.Blank.{size-minimiser}
use Rattle.lookup.specs.Table.{term_in, Rows}
use Rattle.lookup.specs.Numbers.{input_number, state_number}

-- the number that slope s gives at place p, and its cost
abbrev pub number_at : List ℤ → ℕ → ℤ → ℤ
number_at table p s = minimiser (term_in table p) s

abbrev pub number_cost : List ℤ → ℕ → ℤ → ℤ
number_cost table p s = cost (term_in table p) (number_at table p s)

-- the cost of u(k,j), and of all inputs of step k
abbrev pub input_cost : List ℤ → List ℤ → List ℤ → ℕ → ℕ → ℤ
input_cost table b y k j = cost (term_in table (10 * k + j)) (input_number table b y k j)

abbrev pub inputs_cost : List ℤ → List ℤ → List ℤ → ℕ → ℤ
inputs_cost table b y k = sum 4 (input_cost table b y k)

-- the cost of x(k+1,i), and of all states after step k
abbrev pub state_cost : ℕ → List ℤ → List ℤ → List ℤ → ℕ → ℕ → ℤ
state_cost horizon table a y k i = cost (term_in table (10 * k + (4 + i))) (state_number horizon table a y k i)

abbrev pub states_cost : ℕ → List ℤ → List ℤ → List ℤ → ℕ → ℤ
states_cost horizon table a y k = sum 6 (state_cost horizon table a y k)

-- a loop's total of the first n of m terms, and what a call gave for the next one
pub call_added : (m : ℕ) (f : ℕ → ℤ) {n B : ℕ} {total r : ℤ} → ((j : ℕ) → j < m → nat_abs (f j) ≤ B) → m * B < 2 ^ 63 → n < m →
    total ≡ sum n f → mag r < 2 ^ 63 → r ≡ f n → Formed (total +ℤ back r) (sum (n + 1) f)
call_added m f {n} {B} {r = r} size room less total ok e =
    let most : n + 1 ≤ m = omega arith in
    added n f (λ j h. size j (omega arith)) (omega (arith, mul-le-mul_right B most)) total (called r ok ∙ e)

-- a store one place further, however the code forms the place
pub stretch_stored : {o w p : ℕ} {f : ℕ → ℤ} {old new : List ℤ} {v : ℤ} → o + w ≡ p → p < length old → Stretch o w f old new → v ≡ f w →
    Stretch o (w + 1) f old (set new p v)
stretch_stored {o} {w} {p} {f} {old} {new} {v} q h s e =
    subst (λ (p : ℕ). Stretch o (w + 1) f old (set new p v)) q (stretch_store o w f old new v (omega arith) s e)

-- `number_at` gave the number x for the slope s
pub number_is : (table : List ℤ) (p : ℕ) {s x : ℤ} → SFits w64 s → mag x < 2 ^ 63 → x ≡ number_at table p (back s) → back x ≡ number_at table p s
number_is table p {x = x} fits ok d = called x ok ∙ d ∙ ap (number_at table p) (to_z-of_z fits)

module _ {table : List ℤ} (rows : Rows table) where
  size_number : (p : ℕ) → p < 120 → (s : ℤ) → nat_abs (number_at table p s) ≤ most_number
  size_number p h s = let g = rows.ranged p h in size-minimiser _ s g.low g.high

  size_number_cost : (p : ℕ) → p < 120 → (s : ℤ) → nat_abs (number_cost table p s) ≤ most_cost
  unfolding cost
  size_number_cost p h s = size-cost (near (rows.ranged p h) (number_at table p s) (size_number p h s))

  -- what `cost_of` asks, where `number_at` gave x
  pub cost_asks : (p : ℕ) → p < 120 → (s : ℤ) {x : ℤ} → x ≡ number_at table p s →
      (nat_abs (back (at table (7 * p))) ≤ most_penalty) × (nat_abs (back (at table (7 * p + 3))) ≤ most_number) × (nat_abs x ≤ most_number)
  cost_asks p h s e =
      let g = rows.ranged p h in (
        rw (element_is rows.bounded (omega arith) (7 * p)) g.penalty,
        rw (element_is rows.bounded (omega arith) (7 * p + 3)) g.reference,
        rw e (size_number p h s),
      )

  -- the total of the places before the n-th, and what `put_number` gave for that one
  pub cost_added : (m : ℕ) (place : ℕ → ℕ) (slope : ℕ → ℤ) {n : ℕ} {total r : ℤ} → m * most_cost < 2 ^ 63 →
      ((j : ℕ) → j < m → place j < 120) → n < m → total ≡ sum n (λ j. number_cost table (place j) (slope j)) → mag r < 2 ^ 63 →
      r ≡ number_cost table (place n) (slope n) → Formed (total +ℤ back r) (sum (n + 1) (λ j. number_cost table (place j) (slope j)))
  cost_added m place slope most room less total ok e =
      call_added m _ (λ j h. size_number_cost (place j) (room j h) (slope j)) most less total ok e

  -- ---- How large the sums are

  pub size_inputs_cost : (b y : List ℤ) (k : ℕ) → k < 12 → nat_abs (inputs_cost table b y k) ≤ 4 * most_cost
  size_inputs_cost b y k h = size-sum 4 most_cost _ (λ j l. size_number_cost (10 * k + j) (omega arith) _)

  pub size_states_cost : (horizon : ℕ) (a y : List ℤ) (k : ℕ) → k < 12 → nat_abs (states_cost horizon table a y k) ≤ 6 * most_cost
  size_states_cost horizon a y k h = size-sum 6 most_cost _ (λ i l. size_number_cost (10 * k + (4 + i)) (omega arith) _)

  pub size_inputs_total : (horizon : ℕ) → horizon ≤ 12 → (b y : List ℤ) → nat_abs (sum horizon (inputs_cost table b y)) ≤ 48 * most_cost
  size_inputs_total horizon h b y =
      le_trans (size-sum horizon (4 * most_cost) _ (λ k l. size_inputs_cost b y k (omega arith))) (omega (arith, mul-le-mul_right (4 * most_cost) h))

  pub size_states_total : (horizon : ℕ) → horizon ≤ 12 → (a y : List ℤ) → nat_abs (sum horizon (states_cost horizon table a y)) ≤ 72 * most_cost
  size_states_total horizon h a y =
      le_trans (size-sum horizon (6 * most_cost) _ (λ k l. size_states_cost horizon a y k (omega arith)))
      (omega (arith, mul-le-mul_right (6 * most_cost) h))
