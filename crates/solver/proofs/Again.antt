-- What a solve says is what the judge says of what it wrote: so its answers are backed as the judge's are.
use Prim.Native.Nat.{ℕ, zero, suc, ◌+◌, ◌*◌, ◌<◌, ◌≤◌}
use mathlib.Core.Path.{◌≡◌, refl, sym, ◌∙◌, ap}
use mathlib.Core.Bool.{Bool, true, false, cond, ◌||◌, false≢true}
use mathlib.Core.List.{List, [], ◌∷◌}
use native.Mathlib.Omega.{arith}
use borrow.Author.Tests.{eq-eqb}
use lib.ListN.{length}
use lib.IntN.{ℤ, pos}
use lib.Signed.{le_z}
use Rattle.std.specs.Prelude.{Result, Ok, Err}
use Rattle.integer.specs.Places.{Bounded}
use Rattle.integer.specs.Tests.{any}
use Rattle.integer.proofs.Order.{order}
use Rattle.integer.proofs.Operand.{Bytes}
use Rattle.integer.proofs.Tests.{by_test, None, none, in_range, not_less, any_none}
use Rattle.commands.specs.Ranges.{most_multiplier}
use Rattle.tape.specs.Answer.{Answer}
use Rattle.tape.specs.Answer as answer
use Rattle.tape.specs.declared.Tape.{Tape}
use Rattle.tape.specs.declared.refusal.Refusal.{Refusal}
use Rattle.tape.specs.Reading.{reading}
use Rattle.problem.specs.Model.{Problem, Plan, problem_of, plan_of, multipliers_of, rounded}
use Rattle.problem.specs.Cost.{Follows}
use Rattle.problem.specs.Dual.{shows}
use Rattle.problem.proofs.Congruence.{model_cong, cost_cong}
use Rattle.primal.proofs.HeldSteps.{states_before}
use Rattle.lent.specs.Checks.{wrong_plan_length, wrong_multipliers_length}
use Rattle.lent.proofs.LentMultipliers.{bounded_multipliers}
use Rattle.judge.specs.Judging.{gap_within, judged_on, judged, shown_on, shown}
use Rattle.judge.proofs.Accepted.{passes, backed, founded}
use Rattle.steps.specs.Steps.{model_states, candidate, exceeds, dropped, gap, verdict}
use Rattle.steps.proofs.Blank.{size-ahead}
use Rattle.steps.proofs.ModelStates.{model_states_lem}
use Rattle.primal.specs.Lent.{lent_plan}
use Rattle.rounds.specs.Running.{ahead_of, candidate_of, Ending, proved, impossible, refused, ended, rounds}
use Rattle.primal.proofs.Lent.{length_lent_multipliers, lent_multipliers_bounded, length_lent_plan, lent_plan_input, lent_plan_state}
use Rattle.solver.specs.declared.Solved.{Solved}
use Rattle.solver.specs.declared.Solved.TheVariants.{Proved, Impossible}
use Rattle.solver.specs.Solving.{solving_on, ending_after_read, solving, first_duties, answer_of, plan_left, multipliers_left}
use Rattle.solver.specs.Demand.{Upheld, JudgedAgain, RoundsWithin}

-- ---- A candidate that is not dropped follows the tape, and so does the plan that is lent

kept_follows : (q : Problem) (u : ℕ → ℕ → ℤ) → dropped q (candidate q u) ≡ false → Follows q (candidate q u)
unfolding dropped
kept_follows q u e = record {
  inputs-within = λ k j h l. in_range _ _ (u k j) (any_none q.m j (input k) l (step k h).0);
  states_meet = λ k i h l. model_states_lem q u k i;
  states-within = λ k i h l. in_range _ _ (model_states q u k i) (any_none q.n i (state k) l (step k h).1.0);
}
  where
    input : ℕ → ℕ → Bool
    input k j = exceeds (q.input_term k j) (u k j)

    state : ℕ → ℕ → Bool
    state k i = exceeds (q.state_term k i) (model_states q u k i)

    step : (k : ℕ) → k < q.horizon → None (any q.m (input k) ∷ any q.n (state k) ∷ [])
    step k h = none (any q.m (input k)) (any q.n (state k) ∷ []) (any_none q.horizon k _ h e)

follows_cong : (q : Problem) (v w : Plan) → ((k j : ℕ) → k < q.horizon → j < q.m → w.u k j ≡ v.u k j) →
    ((k i : ℕ) → k < q.horizon → i < q.n → w.x k i ≡ v.x k i) → Follows q v → Follows q w
follows_cong q v w eu ex f = record {
  inputs-within = λ k j h l. rw (eu k j h l) (f.inputs-within k j h l);
  states_meet = λ k i h l.
      ex k i h l ∙ f.states_meet k i h l
      ∙ ap rounded (sym (model_cong q.n q.m q.A q.B q.w _ _ _ _ i
      (states_before q.start k q.n (λ p j a b. ex p j (omega arith) b)) (λ j a. eu k j h a)));
  states-within = λ k i h l. rw (ex k i h l) (f.states-within k i h l);
}

-- ---- A round's verdict is the judge's answer

-- each multiplier of a round is limited to the range
ahead-bounded : (t : Tape) (k : ℕ) (y previous : List ℤ) → Bounded most_multiplier (ahead_of t k y previous)
ahead-bounded t k y previous = lent_multipliers_bounded t.n t.horizon _ (λ _ _ _ _. size-ahead (pos k) _ _)

-- the plan that a round from y writes, and its gap
abbrev written : Tape → List ℤ → List ℤ
written t y = lent_plan t.n t.m t.horizon (candidate_of t y)

abbrev written_gap : Tape → List ℤ → ℤ
written_gap t y = gap (problem_of t) (candidate_of t y) (multipliers_of t.n y)

module _ (t : Tape) (y : List ℤ) (long : length y ≡ t.horizon * t.n) (bounded : Bounded most_multiplier y) where
  gap_again : dropped (problem_of t) (candidate_of t y) ≡ false → le_z (written_gap t y) t.wanted ≡ true → judged_on t (written t y) y ≡ Ok (written_gap t y)
  unfolding judged_on gap_within
  gap_again d g =
      let v = candidate_of t y in
      let w = plan_of t.n t.m (written t y) in
      let inputs = lent_plan_input t.n t.m t.horizon v in
      let states = lent_plan_state t.n t.m t.horizon v in
      rw (
        eq-eqb _ _ (length_lent_plan t.n t.m t.horizon v),
        eq-eqb _ _ long,
        bounded_multipliers y bounded,
        passes (problem_of t) w (follows_cong (problem_of t) v w inputs states (kept_follows (problem_of t) _ d)),
        cost_cong (problem_of t) w v inputs states,
        not_less t.wanted (written_gap t y) (omega (arith, order)),
      )

  shown_again : shows (problem_of t) (multipliers_of t.n y) ≡ true → shown_on t y ≡ Ok tt
  unfolding shown_on
  shown_again e = rw (eq-eqb _ _ long, bounded_multipliers y bounded, e)

-- ---- The rounds

kept_and : (a b : Bool) → cond a false b ≡ true → (a ≡ false) × (b ≡ true)
kept_and true b e = absurd (false≢true e)
kept_and false b e = (refl, e)

module _ (s : List ℕ) (plan y : List ℤ) where
  abbrev t : Tape
  t = (reading s).tape

  -- the rounds are within R, and the judge says again what the solve said
  abbrev Again : Ending → Type 0
  Again e = RoundsWithin (answer_of t e) t.rounds × JudgedAgain (answer_of t e) s (plan_left e plan) (multipliers_left e y)

  module _ (accepted : (reading s).answer ≡ answer.Accepted) where
    round_again : (k : ℕ) (y~ : List ℤ) (after : Ending) → k + 1 ≤ t.rounds → length y~ ≡ t.horizon * t.n → Bounded most_multiplier y~ → Again after →
        Again (ended (verdict t (candidate_of t y~) (multipliers_of t.n y~)) (k + 1) (written t y~) y~ after)
    unfolding verdict judged shown
    round_again k y~ after h l b a =
        by_test (λ v. Again (ended v (k + 1) (written t y~) y~ after))
        (cond (dropped (problem_of t) (candidate_of t y~)) false (le_z (written_gap t y~) t.wanted))
        (λ e. let p = kept_and (dropped (problem_of t) (candidate_of t y~)) _ e in
        ((omega arith, h), rw accepted (gap_again t y~ l b p.0 p.1)))
        (λ _. by_test (λ v. Again (ended v (k + 1) (written t y~) y~ after)) (shows (problem_of t) (multipliers_of t.n y~))
        (λ e. ((omega arith, h), rw accepted (shown_again t y~ l b e))) (λ _. a))

    rounds_again : (left k : ℕ) (now previous : List ℤ) → k + left ≤ t.rounds → Again (rounds t left k now previous)
    unfolding rounds
    rounds_again zero k now previous h = (tt, tt)
    rounds_again (suc left) k now previous h =
        round_again k (ahead_of t k now previous) _ (omega arith) (length_lent_multipliers t.n t.horizon _) (ahead-bounded t k now previous)
        (rounds_again left (k + 1) _ now (omega arith))

  solving_again : Again (solving s plan y)
  unfolding solving solving_on
  solving_again = go (reading s).answer refl
    where
      go : (a : Answer) → (reading s).answer ≡ a → Again (ending_after_read a (solving_on t plan y))
      go answer.Accepted e =
          by_test Again (wrong_plan_length t plan || wrong_multipliers_length t y) (λ _. (tt, tt)) (λ _. rounds_again e t.rounds 0 _ _ (omega arith))
      go (answer.Refused why) e = (tt, tt)

-- ---- What `solve` promises

-- the u(0) of an answer is that of the plan left
abbrev FirstOf : Result Solved Refusal → ℕ → List ℤ → Type 0
FirstOf (Ok (Proved rounds gap first)) m plan = first ≡ first_duties m plan
FirstOf (Ok (Impossible rounds)) m plan = Unit {0}
FirstOf (Err why) m plan = Unit {0}

first_of : (t : Tape) (e : Ending) (plan : List ℤ) → FirstOf (answer_of t e) t.m (plan_left e plan)
first_of t (proved rounds gap plan y) before = refl
first_of t (impossible rounds y) before = tt
first_of t (refused why) before = tt

-- what the judge says is backed
upheld_by : (r : Result Solved Refusal) (s : List ℕ) (plan y : List ℤ) → Bytes s → JudgedAgain r s plan y → FirstOf r (reading s).tape.m plan →
    Upheld r (reading s).tape plan y
upheld_by (Ok (Proved rounds gap first)) s plan y b e f = (rw e at (backed s plan y b), f)
upheld_by (Ok (Impossible rounds)) s plan y b e f = rw e at (founded s y b)
upheld_by (Err why) s plan y b e f = tt

module _ (s : List ℕ) (plan y : List ℤ) where
  abbrev ending : Ending
  ending = solving s plan y

  abbrev solved : Result Solved Refusal
  solved = answer_of (reading s).tape ending

  pub rounds-within : RoundsWithin solved (reading s).tape.rounds
  rounds-within = (solving_again s plan y).0

  pub judged_again : JudgedAgain solved s (plan_left ending plan) (multipliers_left ending y)
  judged_again = (solving_again s plan y).1

  pub upheld : Bytes s → Upheld solved (reading s).tape (plan_left ending plan) (multipliers_left ending y)
  upheld b = upheld_by solved s (plan_left ending plan) (multipliers_left ending y) b judged_again (first_of (reading s).tape ending plan)

  -- all clauses from the first three
  pub solve_promise : {r : Result Solved Refusal} {plan' y' : List ℤ} → Bytes s → r ≡ solved → plan' ≡ plan_left ending plan → y' ≡ multipliers_left ending y →
      (r ≡ solved) × ((plan' ≡ plan_left ending plan) × ((y' ≡ multipliers_left ending y)
      × (RoundsWithin r (reading s).tape.rounds × (JudgedAgain r s plan' y' × Upheld r (reading s).tape plan' y'))))
  solve_promise b e p m = (e, (p, (m, (rw e rounds-within, (rw (e, p, m) judged_again, rw (e, p, m) (upheld b))))))
