-- What the passes of a round fill: padded arrays that hold the numbers of its steps.
use Prim.Native.Nat.{ℕ, ◌+◌, ◌*◌, ◌-◌, ◌/◌, ◌%◌, ◌<◌, ◌≤◌}
use mathlib.Core.Path.{◌≡◌, refl, sym, ◌∙◌, ap, ap₂, subst⁻¹}
use mathlib.Core.Bool.{false}
use mathlib.Core.Logic.{◌⊎◌, inl, inr, ⊎_elim}
use mathlib.Core.List.{List}
use native.Mathlib.Omega.{arith}
use lib.ListN.{length, replicate}
use lib.IntN.{ℤ, pos, nat_abs, ◌+ℤ◌, ◌-ℤ◌, ◌*ℤ◌, zero-*ℤ}
use Rattle.integer.specs.Places.{at, Bounded, Stretch, Steps}
use Rattle.integer.specs.Sum.{sum}
use Rattle.integer.proofs.Places.{lt_or_le, steps-bounded}
use Rattle.integer.proofs.Sum.{sum_zero}
use Rattle.commands.specs.Ranges.{most_number}
use Rattle.tape.specs.declared.Tape.{Tape}
use Rattle.tape.specs.Legal.{Legal}
use Rattle.problem.specs.declared.Term.{Term}
use Rattle.problem.specs.Model.{problem_of, state_at, model_sum, residual}
use Rattle.problem.specs.Cost.{Within}
use Rattle.problem.specs.Dual.{input_slope, state_slope}
use Rattle.primal.specs.Padded.{state_matrix, input_matrix, padded, padded_plan, term_at}
use Rattle.primal.specs.Ranges.{most_residual}
use Rattle.primal.specs.Padded.{blank_term}
use Rattle.primal.specs.Terms.{TermsOf}
use Rattle.primal.specs.Held.{BlankMultipliers, BlankPlan, HeldMultipliers, HeldPlan}
use Rattle.primal.specs.Lent.{lent_multipliers, lent_of}
use Rattle.primal.proofs.Filled.{held_multipliers}
use Rattle.primal.proofs.Lent.{lent_multipliers_at, lent_multipliers_cong}
use Rattle.primal.proofs.ModelSizes.{residual_at}
use Rattle.primal.proofs.Padding.{sum_products, model_padded}
use Rattle.dual.specs.Slopes.{by_place}
use Rattle.dual.proofs.FloorPadding.{input_slope-padded, state_slope-padded}
use Rattle.dual.proofs.ByPlace.{place_input, place_state}
use Rattle.steps.specs.Steps.{ahead, minimiser, minimisers, ascended, gain_correction}
use Rattle.steps.specs.Held.{InputsWithin}
use Rattle.steps.proofs.Blank.{ahead_zero, ascended_zero, minimiser-blank, size-ahead, size-ascended, size-minimiser, minimiser-within}
use Rattle.banded.specs.Step.{uses_band}
use Rattle.ascent.specs.Correction.{correction}
use Rattle.ascent.specs.Held.{HeldStep, Ascended}
use Rattle.lookup.specs.Table.{term_in, Whole, RowsOf}
use Rattle.lookup.specs.Numbers.{input_number, state_number}
use Rattle.passes.specs.Sums.{forcing, residual_by}
use Rattle.passes.proofs.ForcedSums.{sum_forced}
use Rattle.rounds.specs.Held.{NextHeld}

-- ---- The table

-- every P of a tape is 4096 h
pub weights-whole : {t : Tape} {table : List Term} → TermsOf t table → (p : ℕ) → p < 120 → Whole (term_at table p).penalty
weights-whole {t} {table} terms p h =
    let e : 10 * (p / 10) + p % 10 ≡ p = omega arith in
    subst⁻¹ (λ (q : ℕ). Whole (term_at table q).penalty) (sym e)
    (go (p / 10) (p % 10) (omega arith) (omega arith) (lt_or_le (p % 10) 4) (lt_or_le (p % 10) t.m) (lt_or_le (p % 10 - 4) t.n))
  where
    of : (q : ℕ) {r : Term} → term_at table q ≡ r → Whole r.penalty → Whole (term_at table q).penalty
    of q e w = subst⁻¹ (λ (r : Term). Whole r.penalty) e w

    none : Whole (pos 0)
    none = record { weight = pos 0; is = refl }

    go : (k c : ℕ) → k < 12 → c < 10 → (c < 4) ⊎ (4 ≤ c) → (c < t.m) ⊎ (t.m ≤ c) → (c - 4 < t.n) ⊎ (t.n ≤ c - 4) → Whole (term_at table (10 * k + c)).penalty
    go k c a b (inl x) (inl y) z = of (10 * k + c) (terms.input k c a y) (record { weight = at t.weight (t.n + c); is = refl })
    go k c a b (inl x) (inr y) z = of (10 * k + c) (terms.no_input k c a y x) none
    go k c a b (inr x) y (inl z) =
        let e : 4 + (c - 4) ≡ c = omega arith in
        of (10 * k + c) (rw e at (terms.state k (c - 4) a z)) (record { weight = at t.weight (c - 4); is = refl })
    go k c a b (inr x) y (inr z) = let e : 4 + (c - 4) ≡ c = omega arith in of (10 * k + c) (rw e at (terms.no_state k (c - 4) a z (omega arith))) none

-- ---- Step 1

pub held-ahead : {n N : ℕ} (k : ℕ) {y previous l : List ℤ} → n ≤ 6 → BlankMultipliers n y → BlankMultipliers n previous →
    Stretch 0 (6 * N) (λ p. ahead (pos k) (at y p) (at previous p)) (replicate 72 (pos 0)) l →
    HeldMultipliers n N (λ s i. ahead (pos k) (padded y s i) (padded previous s i)) l
held-ahead k {y} {previous} few hy hp fill =
    held_multipliers few fill (λ p. size-ahead (pos k) (at y p) (at previous p))
    (λ s i _ h l. ap₂ (ahead (pos k)) (hy.each s i h l) (hp.each s i h l) ∙ ahead_zero k)

-- ---- Step 2

module _ (t : Tape) (legal : Legal t) {all : List Term} {table : List ℤ} (terms : TermsOf t all)
    (made : RowsOf all table) where
  pub input_term_lem : (k j : ℕ) → k < t.horizon → j < t.m → term_in table (10 * k + j) ≡ (problem_of t).input_term k j
  input_term_lem k j h m =
      let r = legal.inputs.1 in
      let e = legal.steps.1 in
      made.same (10 * k + j) (omega arith) ∙ terms.input k j (omega arith) m

  pub state_term_lem : (k i : ℕ) → k < 12 → i < t.n → term_in table (10 * k + (4 + i)) ≡ (problem_of t).state_term k i
  state_term_lem k i h m = let r = legal.states.1 in made.same (10 * k + (4 + i)) (omega arith) ∙ terms.state k i h m

  pub no_input_term : (k j : ℕ) → k < 12 → t.m ≤ j → j < 4 → term_in table (10 * k + j) ≡ blank_term
  no_input_term k j h m l = made.same (10 * k + j) (omega arith) ∙ terms.no_input k j h m l

  pub no_state_term : (k i : ℕ) → k < 12 → t.n ≤ i → i < 6 → term_in table (10 * k + (4 + i)) ≡ blank_term
  no_state_term k i h m l = made.same (10 * k + (4 + i)) (omega arith) ∙ terms.no_state k i h m l

  module _ (y : List ℤ) where
    abbrev numbers : ℕ → ℕ → ℤ
    numbers = by_place (input_number table t.b y) (state_number t.horizon table t.a y)

    size_number : (k c : ℕ) → k < t.horizon → c < 10 → nat_abs (numbers k c) ≤ most_number
    size_number k c h l = go (lt_or_le c 4)
      where
        size : (p : ℕ) (s : ℤ) → p < 120 → nat_abs (minimiser (term_in table p) s) ≤ most_number
        size p s m = let g = made.rows.ranged p m in size-minimiser (term_in table p) s g.low g.high

        early : k < 12
        early = let e = legal.steps.1 in omega arith

        go : (c < 4) ⊎ (4 ≤ c) → nat_abs (numbers k c) ≤ most_number
        go (inl m) = rw (place_input (input_number table t.b y) (state_number t.horizon table t.a y) k c m) (size (10 * k + c) _ (omega (arith, early)))
        go (inr m) =
            let e : 4 + (c - 4) ≡ c = omega arith in
            rw (← e, place_state (input_number table t.b y) (state_number t.horizon table t.a y) k (c - 4)) (size (10 * k + (4 + (c - 4))) _ (omega (arith, early)))

    module _ {v : List ℤ} (steps : Steps 10 t.horizon numbers v) where
      pub input-number : (k j : ℕ) → k < t.horizon → j < 4 → at v (10 * k + j) ≡ input_number table t.b y k j
      input-number k j h m = steps.each k j h (omega arith) ∙ place_input _ _ k j m

      pub state-number : (k i : ℕ) → k < t.horizon → i < 6 → at v (10 * k + (4 + i)) ≡ state_number t.horizon table t.a y k i
      state-number k i h m = steps.each k (4 + i) h (omega arith) ∙ place_state _ _ k i

      pub held_numbers : BlankMultipliers t.n y → length v ≡ 120 → HeldPlan t.n t.m t.horizon (minimisers (problem_of t) (padded y)) v
      held_numbers blank long =
          let r = legal.inputs.1 in
          let d = legal.states.1 in
          let e = legal.steps.1 in
          record {
            input = λ k j h m.
                input-number k j h (omega arith) ∙ ap₂ minimiser (input_term_lem k j h m) (input_slope-padded t legal (padded y) blank.each k j);
            state = λ k i h m.
                state-number k i h (omega arith) ∙ ap₂ minimiser (state_term_lem k i (omega arith) m) (state_slope-padded t legal (padded y) blank.each k i);
            blank = record {
              input = λ k j h m o.
                  ⊎_elim (λ a. input-number k j a o ∙ ap (λ (z : Term). minimiser z (input_slope 6 (input_matrix t.b) (padded y) k j)) (no_input_term k j h m o) ∙ minimiser-blank _)
                  (λ a. steps.rest (10 * k + j) (omega arith)) (lt_or_le k t.horizon);
              state = λ k i h m o.
                  ⊎_elim (λ a. state-number k i a o ∙ ap (λ (z : Term). minimiser z (state_slope 6 t.horizon (state_matrix t.a) (padded y) k i)) (no_state_term k i h m o) ∙ minimiser-blank _)
                  (λ a. steps.rest (10 * k + (4 + i)) (omega arith)) (lt_or_le k t.horizon);
            };
            bounded = steps-bounded 10 t.horizon numbers v (omega arith) steps size_number;
            long = long;
          }

-- the numbers of step 2 lie within their limits
module _ {t : Tape} (legal : Legal t) (y : ℕ → ℕ → ℤ) {l : List ℤ} (held : HeldPlan t.n t.m t.horizon (minimisers (problem_of t) y) l) where
  pub inputs-within : InputsWithin (problem_of t) (padded_plan l).u
  inputs-within = record {
    each = λ k j h m.
        rw (held.input k j h m)
        (minimiser-within ((problem_of t).input_term k j) (input_slope t.n (problem_of t).B y k j) (legal.ordered (t.n + j)));
  }

  pub states-within : (k i : ℕ) → k < t.horizon → i < t.n → Within ((problem_of t).state_term k i) ((padded_plan l).x k i)
  states-within k i h m =
      rw (held.state k i h m) (minimiser-within ((problem_of t).state_term k i) (state_slope t.n t.horizon (problem_of t).A y k i) (legal.ordered i))

-- ---- Step 3: what is forced on the states is what m inputs force, and w

pub forces_are : (t : Tape) → Legal t → (v : List ℤ) {forced : List ℤ} → Steps 6 t.horizon (forcing t.b t.drift v) forced → (k i : ℕ) → k < t.horizon → i < t.n →
    padded forced k i ≡ sum t.m (λ j. at t.b (4 * i + j) *ℤ (padded_plan v).u k j) +ℤ at t.drift i
forces_are t legal v steps k i h m =
    let few = legal.states.1 in
    steps.each k i h (omega arith)
    ∙ ap (λ (z : ℤ). z +ℤ at t.drift i) (sum_products t.m 4 (λ j. at t.b (4 * i + j)) ((padded_plan v).u k) legal.inputs.1 (λ j a b. legal.blank_b i j b (inr a)))

-- ---- Step 4

module _ (t : Tape) (legal : Legal t) {v : List ℤ} (blank : BlankPlan t.n t.m v) where
  abbrev residual_of : ℕ → ℕ → ℤ
  residual_of = residual_at t.a t.b t.drift t.start v

  pub residual-is : (k i : ℕ) → residual_of k i ≡ residual (problem_of t) (padded_plan v) k i
  unfolding residual
  residual-is k i = ap (λ (z : ℤ). z -ℤ pos 4096 *ℤ (padded_plan v).x k i) (model_padded t legal _ _ i)

  -- a state beyond the sizes has residual 0: its row of A and of B is 0, and so is its drift
  residual-none : (k i : ℕ) → k < 12 → t.n ≤ i → i < 6 → residual_of k i ≡ pos 0
  unfolding model_sum
  residual-none k i e h l =
      ap₂ (λ (z x : ℤ). z -ℤ pos 4096 *ℤ x)
      (ap₂ (λ (p q : ℤ). p +ℤ q +ℤ at t.drift i)
      (sum_zero 6 _ (λ j m. rw (legal.blank_a i j m (inl h)) (zero-*ℤ (state_at (at t.start) (padded_plan v).x k j))))
      (sum_zero 4 _ (λ j m. rw (legal.blank_b i j m (inl h)) (zero-*ℤ ((padded_plan v).u k j))))
      ∙ ap (λ (w : ℤ). pos 0 +ℤ pos 0 +ℤ w) (legal.blank_drift i h)) (blank.state k i e h l)

  abbrev listed : List ℤ
  listed = lent_multipliers t.n t.horizon (residual (problem_of t) (padded_plan v))

  -- ---- by command 51: e holds the residuals

  module _ {e : List ℤ} (steps : Steps 6 t.horizon residual_of e) where
    blank_residuals : BlankMultipliers t.n e
    blank_residuals = record {
      each = λ k i h l.
          let d = legal.steps.1 in
          ⊎_elim (λ a. steps.each k i a l ∙ residual-none k i (omega arith) h l) (λ a. steps.rest (6 * k + i) (omega arith)) (lt_or_le k t.horizon);
    }

    pub held-step : {y : List ℤ} → BlankMultipliers t.n y → Bounded 16777216 y → Bounded most_residual e → HeldStep t y e
    held-step b c d = record { blank = b; bounded = c; blank_residuals = blank_residuals; bounded_residuals = d }

    pub band_next : (y : List ℤ) {next : List ℤ} → Ascended t y e next → NextHeld t y v next
    band_next y h =
        let n = legal.states.1 in
        let same : lent_of t e ≡ listed = lent_multipliers_cong t.n t.horizon _ _ (λ k i a b. steps.each k i a (omega arith) ∙ residual-is k i) in
        record {
          same = λ k i a b. h.same k i a b ∙ ap (λ (r : List ℤ). ascended (padded y k i) (correction t r (k * t.n + i))) same;
          blank = h.blank;
          bounded = h.bounded;
        }

  -- ---- by command 50: the residuals go straight into the next y

  module _ (y : List ℤ) {forced : List ℤ} (forces : Steps 6 t.horizon (forcing t.b t.drift v) forced) (off : uses_band t ≡ false)
      (none : BlankMultipliers t.n y) where
    gain-correction : (k i : ℕ) → k < t.horizon → i < t.n →
        gain_correction t.gain (residual_by t.a forced t.start v k i) ≡ correction t listed (k * t.n + i)
    unfolding correction
    gain-correction k i a b =
        let n = legal.states.1 in
        rw (off, lent_multipliers_at t.n t.horizon (residual (problem_of t) (padded_plan v)) k i a b)
        (ap (gain_correction t.gain) (sum_forced t.a t.b t.drift t.start v forces k i a (omega arith) ∙ residual-is k i))

    abbrev next_at : ℕ → ℕ → ℤ
    next_at k i = ascended (padded y k i) (gain_correction t.gain (residual_by t.a forced t.start v k i))

    nothing_next : (k i : ℕ) → k < t.horizon → t.n ≤ i → i < 6 → next_at k i ≡ pos 0
    nothing_next k i a m o =
        let d = legal.steps.1 in
        ap₂ (λ (z r : ℤ). ascended z (gain_correction t.gain r)) (none.each k i m o)
        (sum_forced t.a t.b t.drift t.start v forces k i a o ∙ residual-none k i (omega arith) m o)
        ∙ ascended_zero t.gain

    pub gain-next : {next : List ℤ} → Steps 6 t.horizon next_at next → NextHeld t y v next
    gain-next {next} steps =
        let n = legal.states.1 in
        record {
          same = λ k i a b. steps.each k i a (omega arith) ∙ ap (ascended (padded y k i)) (gain-correction k i a b);
          blank = record {
            each = λ k i m o.
                ⊎_elim (λ a. steps.each k i a o ∙ nothing_next k i a m o) (λ a. steps.rest (6 * k + i) (omega arith)) (lt_or_le k t.horizon);
          };
          bounded = steps-bounded 6 t.horizon next_at next (omega arith) steps (λ k i _ _. size-ascended (padded y k i) _);
        }
