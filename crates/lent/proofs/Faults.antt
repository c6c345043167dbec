-- Where the walk along a plan fails: the first of several tests, what a test of a number says when it fails, and the whole plan's.
use Prim.Native.Nat.{ℕ, zero, suc, ◌+◌, ◌<◌}
use mathlib.Core.Path.{◌≡◌, refl}
use mathlib.Core.Logic.{◌⊎◌, inl, inr, ⊎_elim}
use native.Mathlib.Omega.{arith}
use lib.IntN.{ℤ}
use lib.Signed.{lt_z}
use Rattle.std.specs.Prelude.{Result, Ok, Err}
use Rattle.integer.specs.Order.{◌≺◌}
use Rattle.integer.proofs.Order.{order}
use Rattle.integer.proofs.Tests.{by_test}
use Rattle.tape.specs.declared.refusal.Fault.{Fault}
use Rattle.tape.specs.declared.refusal.Refusal.{Refusal}
use Rattle.tape.specs.declared.refusal.Refusal.TheVariants.{OffModel, OverLimit}
use Rattle.problem.specs.Model.{Problem, Plan, rounded}
use Rattle.lent.specs.Checks.{or_else, first, tested, refused_as, limits, meets, state_check, input_check_of, state_check_of, step_check, plan_check}

-- either the first check failed, or it passed and the second failed
pub either_failed : {why : Refusal} (c d : Result (Unit {0}) Refusal) → or_else c d ≡ Err why → (c ≡ Err why) ⊎ ((c ≡ Ok tt) × (d ≡ Err why))
either_failed (Ok tt) d e = inr (refl, e)
either_failed (Err why) d e = inl e

-- the test that failed, all before it having passed
pub record FoundAt (count : ℕ) (f : ℕ → Result (Unit {0}) Refusal) (why : Refusal) : Type 0 where
  pub place : ℕ
  pub below : place < count
  pub before : first place f ≡ Ok tt
  pub failed : f place ≡ Err why

pub first_found : {why : Refusal} (count : ℕ) (f : ℕ → Result (Unit {0}) Refusal) → first count f ≡ Err why → FoundAt count f why
unfolding first
first_found zero f e = cc
first_found {why} (suc count) f e =
    ⊎_elim
    (λ (l : first count f ≡ Err why). let r : FoundAt count f why = first_found count f l in
    record { place = r.place; below = omega (arith, r.below); before = r.before; failed = r.failed })
    (λ r. record { place = count; below = omega arith; before = r.0; failed = r.1 })
    (either_failed (first count f) (f count) e)

-- a number outside lo to hi, and the limit that it passed
pub record Strayed (refusal : Fault → Refusal) (k c : ℕ) (lo hi v : ℤ) (why : Refusal) : Type 0 where
  pub due : ℤ
  pub is : why ≡ refusal (record { step = k; column = c; found = v; due = due })
  pub side : ((due ≡ lo) × (v ≺ due)) ⊎ ((due ≡ hi) × (due ≺ v))

pub strayed : {why : Refusal} (refusal : Fault → Refusal) (k c : ℕ) (lo hi v : ℤ) → refused_as refusal (tested k c lo hi v) ≡ Err why →
    Strayed refusal k c lo hi v why
unfolding tested
strayed {why} refusal k c lo hi v =
    by_test (λ r. refused_as refusal r ≡ Err why → Strayed refusal k c lo hi v why) (lt_z v lo)
    (λ l e. record { due = lo; is = cc; side = inl (refl, omega (arith, order)) })
    (λ _. by_test (λ r. refused_as refusal r ≡ Err why → Strayed refusal k c lo hi v why) (lt_z hi v)
    (λ h e. record { due = hi; is = cc; side = inr (refl, omega (arith, order)) }) (λ _ e. cc))

-- of a state's two tests, the first failed, or it passed and the second failed
pub state-failed : {why : Refusal} (k i : ℕ) (S lo hi v : ℤ) → state_check k i S lo hi v ≡ Err why →
    (meets k i S v ≡ Err why) ⊎ ((meets k i S v ≡ Ok tt) × (limits k i lo hi v ≡ Err why))
unfolding state_check
state-failed k i S lo hi v e = either_failed (meets k i S v) (limits k i lo hi v) e

-- a plan's failure is that of a test, 10 or 11
pub record FromTest (why : Refusal) : Type 0 where
  pub fault : Fault
  pub is : (why ≡ OffModel fault) ⊎ (why ≡ OverLimit fault)

from_model : {why : Refusal} (k i : ℕ) (S v : ℤ) → meets k i S v ≡ Err why → FromTest why
from_model k i S v e = record { fault = _; is = inl (strayed OffModel k i (rounded S) (rounded S) v e).is }

from_limits : {why : Refusal} (k c : ℕ) (lo hi v : ℤ) → limits k c lo hi v ≡ Err why → FromTest why
from_limits k c lo hi v e = record { fault = _; is = inr (strayed OverLimit k c lo hi v e).is }

pub plan_failed : {why : Refusal} (q : Problem) (v : Plan) → plan_check q v ≡ Err why → FromTest why
unfolding plan_check step_check
plan_failed q v e =
    let step = first_found _ (step_check q v) e in
    let k = step.place in
    ⊎_elim (λ inputs. let input = first_found q.m (input_check_of q v k) inputs in from_limits k (q.n + input.place) _ _ _ input.failed)
    (λ states. let state = first_found q.n (state_check_of q v k) states.1 in
    let i = state.place in
    ⊎_elim (λ model. from_model k i _ _ model) (λ limit. from_limits k i _ _ _ limit.1) (state-failed k i _ _ _ _ state.failed))
    (either_failed _ _ step.failed)
