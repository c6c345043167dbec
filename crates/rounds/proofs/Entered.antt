-- A round on padded arrays is the round of the definition, on the multipliers that the arrays hold.
use Prim.Native.Nat.{ℕ, suc, ◌+◌, ◌*◌, ◌-◌, ◌<◌, ◌≤◌}
use mathlib.Core.Path.{◌≡◌, refl, sym, ◌∙◌, ap, ap₂}
use mathlib.Core.List.{List}
use native.Mathlib.Omega.{arith}
use lib.ListN.{replicate}
use lib.IntN.{ℤ, pos, ◌-ℤ◌, ◌*ℤ◌}
use Rattle.std.specs.Prelude.{Option, Some, None}
use Rattle.integer.proofs.Places.{zeros}
use Rattle.tape.specs.declared.Tape.{Tape}
use Rattle.tape.specs.declared.refusal.Refusal.TheVariants.{Open}
use Rattle.tape.specs.Legal.{Legal}
use Rattle.problem.specs.Model.{problem_of, multipliers_of, residual}
use Rattle.problem.proofs.Congruence.{model_cong, cost_cong, input_slope_cong, state_slope_cong, floor_cong}
use Rattle.primal.specs.Padded.{padded, padded_plan}
use Rattle.primal.specs.Held.{BlankMultipliers, HeldMultipliers, HeldPlan}
use Rattle.primal.specs.Lent.{lent_multipliers, lent_plan, lent_of}
use Rattle.primal.proofs.Filled.{zeros-bounded}
use Rattle.primal.proofs.HeldSteps.{states_before}
use Rattle.primal.proofs.Lent.{lent_multipliers_at, lent_multipliers_cong, lent_plan_cong}
use Rattle.steps.specs.declared.verdict.Verdict.{Verdict}
use Rattle.steps.specs.declared.verdict.Verdict.TheVariants.{Proved, Impossible}
use Rattle.steps.specs.Steps.{ahead, minimiser, minimisers, candidate, verdict, ascended}
use Rattle.steps.specs.Held.{HeldWhenProved}
use Rattle.steps.proofs.ModelStates.{model_states_cong, dropped_cong}
use Rattle.ascent.specs.Correction.{correction}
use Rattle.rounds.specs.Running.{ahead_of, minimisers_of, candidate_of, residuals_of, ascended_of, Ending, proved, refused, ended, entered, rounds, start}
use Rattle.rounds.specs.Held.{HeldState, NextHeld}

-- l holds y~ of round k, and v the numbers of its step 2
pub record Begins (t : Tape) (k : ℕ) (y previous l v : List ℤ) : Type 0 where
  pub held : HeldMultipliers t.n t.horizon (λ q i. ahead (pos k) (padded y q i) (padded previous q i)) l
  pub numbers : HeldPlan t.n t.m t.horizon (minimisers (problem_of t) (padded l)) v

-- ---- A round

module _ (t : Tape) (legal : Legal t) where
  abbrev lent : List ℤ → List ℤ
  lent = lent_of t

  lent_at : (l : List ℤ) (k i : ℕ) → k < t.horizon → i < t.n → multipliers_of t.n (lent l) k i ≡ padded l k i
  lent_at l = lent_multipliers_at t.n t.horizon (padded l)

  lent_held : {y : ℕ → ℕ → ℤ} {l : List ℤ} → HeldMultipliers t.n t.horizon y l → lent_multipliers t.n t.horizon y ≡ lent l
  lent_held {y} {l} h = lent_multipliers_cong t.n t.horizon y (padded l) (λ k i a b. sym (h.same k i a b))

  -- step 1
  lent_ahead : (k : ℕ) (y previous : List ℤ) {l : List ℤ} →
      HeldMultipliers t.n t.horizon (λ s i. ahead (pos k) (padded y s i) (padded previous s i)) l → ahead_of t k (lent y) (lent previous) ≡ lent l
  lent_ahead k y previous h =
      lent_multipliers_cong t.n t.horizon _ _ (λ s i a b. ap₂ (ahead (pos k)) (lent_at y s i a b) (lent_at previous s i a b)) ∙ lent_held h

  -- from y~ on
  module _ (l : List ℤ) {v : List ℤ} (numbers : HeldPlan t.n t.m t.horizon (minimisers (problem_of t) (padded l)) v) where
    inputs-same : (k j : ℕ) → k < t.horizon → j < t.m → (minimisers_of t (lent l)).u k j ≡ (padded_plan v).u k j
    inputs-same k j h m =
        ap (minimiser ((problem_of t).input_term k j)) (input_slope_cong (problem_of t) _ (padded l) legal.steps.0 (lent_at l) k j h)
        ∙ sym (numbers.input k j h m)

    states-same : (k i : ℕ) → k < t.horizon → i < t.n → (minimisers_of t (lent l)).x k i ≡ (padded_plan v).x k i
    states-same k i h m =
        ap (minimiser ((problem_of t).state_term k i)) (state_slope_cong (problem_of t) _ (padded l) legal.steps.0 (lent_at l) k i h m)
        ∙ sym (numbers.state k i h m)

    -- step 3
    candidate-same : (k i : ℕ) → k < t.horizon → i < t.n → (candidate_of t (lent l)).x k i ≡ (candidate (problem_of t) (padded_plan v).u).x k i
    candidate-same = model_states_cong (problem_of t) _ _ inputs-same

    verdict-same : verdict t (candidate_of t (lent l)) (multipliers_of t.n (lent l)) ≡ verdict t (candidate (problem_of t) (padded_plan v).u) (padded l)
    unfolding verdict
    verdict-same =
        rw (
          dropped_cong (problem_of t) _ _ inputs-same candidate-same,
          cost_cong (problem_of t) _ _ inputs-same candidate-same,
          floor_cong (problem_of t) _ (padded l) legal.steps.0 (lent_at l),
        )

    lent_candidate : {plan : List ℤ} → HeldPlan t.n t.m t.horizon (candidate (problem_of t) (padded_plan v).u) plan →
        lent_plan t.n t.m t.horizon (candidate_of t (lent l)) ≡ lent_plan t.n t.m t.horizon (padded_plan plan)
    lent_candidate {plan} h =
        lent_plan_cong t.n t.m t.horizon _ _ (λ k j a b. inputs-same k j a b ∙ sym (h.input k j a b))
        (λ k i a b. candidate-same k i a b ∙ sym (h.state k i a b))

    -- the plan counts only where the verdict is 'proved'
    ended_same : (r : Option Verdict) (plan : List ℤ) (k : ℕ) (y : List ℤ) (after : Ending) → HeldWhenProved r t (candidate (problem_of t) (padded_plan v).u) plan →
        ended r k (lent_plan t.n t.m t.horizon (candidate_of t (lent l))) y after ≡ ended r k (lent_plan t.n t.m t.horizon (padded_plan plan)) y after
    ended_same (Some (Proved gap)) plan k y after h = ap (λ (p : List ℤ). proved k gap p y) (lent_candidate h)
    ended_same (Some Impossible) plan k y after h = refl
    ended_same None plan k y after h = refl

    round_ends : (k : ℕ) (y previous plan : List ℤ) {r : Option Verdict} →
        HeldMultipliers t.n t.horizon (λ s i. ahead (pos k) (padded y s i) (padded previous s i)) l → verdict t (candidate (problem_of t) (padded_plan v).u) (padded l) ≡ r →
        HeldWhenProved r t (candidate (problem_of t) (padded_plan v).u) plan → (after : List ℤ → Ending) →
        entered t k (ahead_of t k (lent y) (lent previous)) after
        ≡ ended r (k + 1) (lent_plan t.n t.m t.horizon (padded_plan plan)) (lent l) (after (ascended_of t (lent l)))
    round_ends k y previous plan {r = r} held e h after =
        ap (λ (a : List ℤ). entered t k a after) (lent_ahead k y previous held)
        ∙ ap (λ (c : Option Verdict). ended c (k + 1) (lent_plan t.n t.m t.horizon (candidate_of t (lent l))) (lent l) (after (ascended_of t (lent l))))
        (verdict-same ∙ e)
        ∙ ended_same r plan (k + 1) (lent l) _ h

    -- step 4
    residual-same : (k i : ℕ) → k < t.horizon → i < t.n → residual (problem_of t) (minimisers_of t (lent l)) k i ≡ residual (problem_of t) (padded_plan v) k i
    unfolding residual
    residual-same k i h m =
        ap₂ (λ (S x : ℤ). S -ℤ pos 4096 *ℤ x)
        (model_cong t.n t.m _ _ _ _ _ _ _ i (states_before _ k t.n (λ q j a b. states-same q j (omega arith) b)) (λ j b. inputs-same k j h b))
        (states-same k i h m)

    residuals_same : residuals_of t (lent l) ≡ lent_multipliers t.n t.horizon (residual (problem_of t) (padded_plan v))
    residuals_same = lent_multipliers_cong t.n t.horizon _ _ residual-same

    lent_next : {next : List ℤ} → NextHeld t l v next → ascended_of t (lent l) ≡ lent next
    lent_next h =
        lent_multipliers_cong t.n t.horizon _ _
        (λ k i a b. ap₂ (λ (y : ℤ) (r : List ℤ). ascended y (correction t r (k * t.n + i))) (lent_at l k i a b) residuals_same) ∙ lent_held h

-- ---- The rounds

-- the rounds before round k gave no answer, and it starts from y and the y before it
pub record Running (t : Tape) (k : ℕ) (y previous : List ℤ) : Type 0 where
  pub early : k ≤ t.rounds
  pub left : rounds t t.rounds 0 (start t) (start t) ≡ rounds t (t.rounds - k) k (lent_of t y) (lent_of t previous)
  pub held : HeldState t y previous

pub running_start : (t : Tape) → Running t 0 (replicate 72 (pos 0)) (replicate 72 (pos 0))
running_start t =
    let blank : BlankMultipliers t.n (replicate 72 (pos 0)) = record { each = λ k i _ _. zeros 72 (6 * k + i) } in
    let none : start t ≡ lent_of t (replicate 72 (pos 0)) = lent_multipliers_cong t.n t.horizon _ _ (λ k i _ _. sym (zeros 72 (6 * k + i))) in
    record {
      early = omega arith;
      left = let e : t.rounds ≡ t.rounds - 0 = omega arith in rw (← e, none);
      held = record { blank = blank; bounded = zeros-bounded 72; blank_previous = blank; bounded_previous = zeros-bounded 72 };
    }

module _ {t : Tape} (legal : Legal t) {k : ℕ} {y previous : List ℤ} (running : Running t k y previous) where
  -- a round that is entered ends as its verdict says
  module _ {l v : List ℤ} (enters : k < t.rounds) (begins : Begins t k y previous l v) where
    pub whole_is : {c : Option Verdict} (plan : List ℤ) → verdict t (candidate (problem_of t) (padded_plan v).u) (padded l) ≡ c →
        HeldWhenProved c t (candidate (problem_of t) (padded_plan v).u) plan →
        rounds t t.rounds 0 (start t) (start t)
        ≡ ended c (k + 1) (lent_plan t.n t.m t.horizon (padded_plan plan)) (lent_of t l)
        (rounds t (t.rounds - (k + 1)) (k + 1) (ascended_of t (lent_of t l)) (lent_of t y))
    unfolding rounds
    whole_is plan e h =
        let m : t.rounds - k ≡ suc (t.rounds - (k + 1)) = omega (arith, running.early) in
        running.left ∙ ap (λ (left : ℕ). rounds t left k (lent_of t y) (lent_of t previous)) m
        ∙ round_ends t legal l begins.numbers k y previous plan begins.held e h
        (λ next. rounds t (t.rounds - (k + 1)) (k + 1) next (lent_of t y))

    pub running_next : verdict t (candidate (problem_of t) (padded_plan v).u) (padded l) ≡ None → {next : List ℤ} → NextHeld t l v next →
        Running t (k + 1) next y
    running_next e h = record {
      early = omega arith;
      left = rw (← lent_next t legal l begins.numbers h) (whole_is v e tt);
      held = record {
        blank = h.blank;
        bounded = h.bounded;
        blank_previous = running.held.blank;
        bounded_previous = running.held.bounded;
      };
    }

  -- after the last round
  pub open_is : t.rounds ≤ k → rounds t t.rounds 0 (start t) (start t) ≡ refused (Open t.rounds)
  unfolding rounds
  open_is last =
      let e : t.rounds - k ≡ 0 = omega arith in
      running.left ∙ ap (λ (left : ℕ). rounds t left k (lent_of t y) (lent_of t previous)) e
