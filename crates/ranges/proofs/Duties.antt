-- The ranges of the first duties: from padded places, and what they say of rivals.
use Prim.Native.Nat.{ℕ, zero, suc, ◌+◌, ◌<◌}
use mathlib.Core.Path.{◌≡◌, refl, ap, ap₂}
use mathlib.Core.List.{List}
use mathlib.Core.Logic.{⊎_elim}
use native.Mathlib.Omega.{arith}
use lib.IntN.{ℤ, pos}
use borrow.Author.Tests.{lt-ltb, le-ltb}
use Rattle.std.specs.Prelude.{Result, Ok, Err}
use Rattle.integer.specs.Order.{◌≼◌}
use Rattle.integer.proofs.Operand.{Bytes}
use Rattle.integer.proofs.Places.{lt_or_le}
use Rattle.tape.specs.declared.Tape.{Tape}
use Rattle.tape.specs.declared.refusal.Refusal.{Refusal}
use Rattle.tape.specs.Legal.{Legal}
use Rattle.tape.specs.Reading.{reading}
use Rattle.problem.specs.declared.Term.{Term}
use Rattle.problem.specs.Model.{problem_of, plan_of, multipliers_of}
use Rattle.problem.specs.Cost.{cost_of}
use Rattle.problem.specs.Dual.{input_slope, gap_of}
use Rattle.problem.proofs.Congruence.{input_slope_cong}
use Rattle.problem.proofs.Duality.{sound}
use Rattle.primal.specs.Padded.{input_matrix, padded, term_at}
use Rattle.primal.specs.Held.{BlankMultipliers, HeldMultipliers}
use Rattle.primal.specs.Terms.{TermsOf}
use Rattle.dual.proofs.FloorPadding.{input_slope-padded}
use Rattle.judge.specs.Judging.{judged}
use Rattle.judge.proofs.Granted.{granted, accepted, gap_nonneg}
use Rattle.ranges.specs.declared.Ranges.{Ranges}
use Rattle.ranges.specs.Near.{AllNear}
use Rattle.ranges.specs.Range.{range_of}
use Rattle.ranges.specs.Ranges.{duty_range, first_ranges, ranged_by, ranges_of, range_at, AsCheap, NearPlan, Bounding}
use Rattle.ranges.proofs.Near.{rival_near}
use Rattle.ranges.proofs.Ends.{range-holds}

-- ---- Padded places

-- beyond m the term is blank, and its range is 0 to 0
pub duty-range : (t : Tape) → Legal t → (table : List Term) → TermsOf t table →
    (y : List ℤ) → BlankMultipliers t.n y → (gap : ℤ) (j : ℕ) → j < 4 →
    range_of (term_at table j) (input_slope 6 (input_matrix t.b) (padded y) 0 j) gap ≡ duty_range t (padded y) gap j
unfolding duty_range range_of
duty-range t legal table terms y blank gap j h =
    let e : 0 + j ≡ j = omega arith in
    ⊎_elim
    (λ l. rw (lt-ltb j t.m l)
    (ap₂ (λ (a : Term) (s : ℤ). range_of a s gap) (rw e at (terms.input 0 j (omega arith) l)) (input_slope-padded t legal (padded y) blank.each 0 j)))
    (λ l. rw (le-ltb j t.m l)
    (ap (λ (a : Term). range_of a (input_slope 6 (input_matrix t.b) (padded y) 0 j) gap) (rw e at (terms.no_input 0 j (omega arith) l h))))
    (lt_or_le j t.m)

-- padded multipliers have the slopes of those that they hold
pub duty-held : (t : Tape) → Legal t → {y : ℕ → ℕ → ℤ} {l : List ℤ} → HeldMultipliers t.n t.horizon y l → (gap : ℤ) (j : ℕ) →
    duty_range t (padded l) gap j ≡ duty_range t y gap j
unfolding duty_range
duty-held t legal {y} {l} held gap j = rw (input_slope_cong (problem_of t) (padded l) y legal.steps.0 held.same 0 j legal.steps.0)

-- ---- Rivals

module _ (t : Tape) (legal : Legal t) (plan y : List ℤ) where
  abbrev gap : ℤ
  gap = gap_of t plan y

  range_at_lem : (j : ℕ) → j < 4 → range_at (first_ranges t y gap) j ≡ duty_range t (multipliers_of t.n y) gap j
  range_at_lem zero h = refl
  range_at_lem (suc zero) h = refl
  range_at_lem (suc (suc zero)) h = refl
  range_at_lem (suc (suc (suc zero))) h = refl
  range_at_lem (suc (suc (suc (suc j)))) h = let z : ⊥ = omega arith in absurd z

  rivals_near : (D : ℤ) (rival : List ℤ) → AsCheap t plan D rival → AllNear (problem_of t) (multipliers_of t.n y) gap D (plan_of t.n t.m rival)
  rivals_near D rival r = rival_near (problem_of t) (sound t legal) (multipliers_of t.n y) D rival r.itself (cost_of t plan) r.cost

  pub near_plan : pos 0 ≼ gap → NearPlan t plan y (first_ranges t y gap)
  unfolding duty_range
  near_plan some = record {
    near = rivals_near;
    inside = λ D rival r j l.
        let first = legal.steps.0 in
        rw (range_at_lem j (omega (arith, legal.inputs.1)), lt-ltb j t.m l)
        ((range-holds ((problem_of t).input_term 0 j) _ gap some).each D _ r.itself.from_one (r.itself.inputs-within 0 j first l)
        ((rivals_near D rival r).inputs 0 j first l));
  }

module _ (s : List ℕ) (plan y : List ℤ) (bytes : Bytes s) where
  -- both clauses of a promise from the first
  pub ranges_promise : {r : Result Ranges Refusal} → r ≡ ranges_of s plan y → (r ≡ ranges_of s plan y) × Bounding r (reading s).tape plan y
  unfolding ranges_of
  ranges_promise e = (e, rw e (go (judged s plan y) refl))
    where
      go : (j : Result ℤ Refusal) → judged s plan y ≡ j → Bounding (ranged_by j (reading s).tape y) (reading s).tape plan y
      go (Ok gap) is =
          rw (accepted s plan y bytes gap is).reported
          (near_plan (reading s).tape (granted s plan y bytes gap is).lawful plan y
          (rw (accepted s plan y bytes gap is).reported at (gap_nonneg s plan y bytes gap is)))
      go (Err why) is = tt
