-- The verdict of a round by its tests, and where the bound on the floor alone decides it.
use Prim.Native.Nat.{ℕ, ◌≤◌}
use mathlib.Core.Path.{◌≡◌, refl, sym, ◌∙◌, ap}
use mathlib.Core.Bool.{Bool, true, false, ◌||◌, cond, true≢false}
use mathlib.Core.List.{List}
use native.Mathlib.Omega.{arith}
use lib.IntN.{ℤ, nat_abs, ◌+ℤ◌, ◌-ℤ◌}
use lib.Signed.{le_z, lt_z}
use Rattle.std.specs.Prelude.{Option, Some, None, is_none, IfSome, option_map}
use Rattle.integer.specs.Order.{◌≼◌}
use Rattle.integer.specs.Sum.{sum}
use Rattle.integer.proofs.Order.{order}
use Rattle.integer.proofs.Parts.{minus}
use Rattle.integer.proofs.Tests.{not_less, not_at-most}
use Rattle.tape.specs.declared.Tape.{Tape}
use Rattle.problem.specs.Model.{Plan, problem_of}
use Rattle.problem.specs.Cost.{cost, plan_cost}
use Rattle.problem.specs.Dual.{floor, ceiling}
use Rattle.primal.specs.Held.{HeldPlan}
use Rattle.steps.specs.declared.verdict.Verdict.{Verdict}
use Rattle.steps.specs.declared.verdict.Verdict.TheVariants.{Proved, Impossible}
use Rattle.steps.specs.Steps.{candidate, dropped, verdict}
use Rattle.steps.specs.Held.{HeldUnless, verdict_by}
use Rattle.passes.specs.Followed.{FollowedBy}
use Rattle.rounds.specs.Held.{may_answer}

-- two functions that agree on the value there is
pub map_same : (f g : ℤ → ℤ) (o : Option ℤ) → ((x : ℤ) → o ≡ Some x → f x ≡ g x) → option_map f o ≡ option_map g o
map_same f g None same = refl
map_same f g (Some x) same = ap Some (same x refl)

-- a bound on the value there is, carried over a function
pub size_mapped : (f : ℤ → ℤ) (o : Option ℤ) {A B : ℕ} → ((x : ℤ) → nat_abs x ≤ A → nat_abs (f x) ≤ B) → IfSome o (λ x. nat_abs x ≤ A) →
    IfSome (option_map f o) (λ x. nat_abs x ≤ B)
size_mapped f None more small = tt
size_mapped f (Some x) more small = more x small

-- the candidate with what all of it costs, and the array that holds it, unless it is dropped
pub record Costed (t : Tape) (v : Plan) (l : List ℤ) (k : Option ℤ) : Type 0 where
  pub same : is_none k ≡ dropped (problem_of t) v
  pub held : HeldUnless k t v l
  pub cost : IfSome k (λ c. c ≡ plan_cost (problem_of t) v)

pub costed : {t : Tape} {u : ℕ → ℕ → ℤ} {l : List ℤ} (r : Option ℤ) (inputs : ℤ) → FollowedBy t u l r →
    inputs +ℤ sum t.horizon (λ k. sum t.n (λ i. cost ((problem_of t).state_term k i) ((candidate (problem_of t) u).x k i)))
    ≡ plan_cost (problem_of t) (candidate (problem_of t) u) →
    Costed t (candidate (problem_of t) u) l (option_map (λ s. inputs +ℤ s) r)
costed None inputs f whole = record { same = f.same; held = tt; cost = tt }
costed (Some s) inputs f whole = record { same = f.same; held = f.held; cost = ap (λ (z : ℤ). inputs +ℤ z) f.cost ∙ whole }

-- the cost counts only where the candidate is not dropped
pub verdict-is : (t : Tape) (v : Plan) (k : Option ℤ) (y : ℕ → ℕ → ℤ) → is_none k ≡ dropped (problem_of t) v → IfSome k (λ c. c ≡ plan_cost (problem_of t) v) →
    verdict_by (option_map (λ c. c -ℤ floor (problem_of t) y) k) t.wanted (ceiling (problem_of t)) (floor (problem_of t) y) ≡ verdict t v y
unfolding verdict verdict_by
verdict-is t v None y e c = rw (sym e)
verdict-is t v (Some k) y e c = rw (sym e, c)

both_false : (a b : Bool) → a || b ≡ false → (a ≡ false) × (b ≡ false)
both_false true b e = absurd (true≢false e)
both_false false b e = (refl, e)

-- a floor of at most `upper` leaves the larger gap, and is above the ceiling only where `upper` is
pub neither_early : (k : Option ℤ) (wanted highest lowest upper : ℤ) → lowest ≼ upper →
    may_answer (option_map (λ c. c -ℤ upper) k) wanted highest upper ≡ false → verdict_by (option_map (λ c. c -ℤ lowest) k) wanted highest lowest ≡ None
unfolding may_answer verdict_by
neither_early None wanted highest lowest upper below none =
    let h = (both_false (lt_z highest upper) false none).0 in
    rw (not_less highest lowest (omega (arith, order)))
neither_early (Some k) wanted highest lowest upper below none =
    let e = both_false (lt_z highest upper) (le_z (k -ℤ upper) wanted) none in
    let h = e.0 in
    let w = e.1 in
    rw (not_at-most (k -ℤ lowest) wanted (omega (arith, order, minus k upper, minus k lowest)), not_less highest lowest (omega (arith, order)))

is_proved : Option Verdict → Bool
is_proved (Some (Proved gap)) = true
is_proved (Some Impossible) = false
is_proved None = false

-- only a candidate that is kept is 'proved'
pub proved_kept : (k : Option ℤ) (wanted highest lowest : ℤ) {gap : ℤ} → verdict_by k wanted highest lowest ≡ Some (Proved gap) → is_none k ≡ false
unfolding verdict_by is_proved
proved_kept None wanted highest lowest e = absurd (true≢false (sym (ap is_proved e) ∙ not_proved (lt_z highest lowest)))
  where
    not_proved : (b : Bool) → is_proved (cond b (Some Impossible) None) ≡ false
    not_proved true = refl
    not_proved false = refl
proved_kept (Some k) wanted highest lowest e = refl

-- and so the array holds it
pub proved_held : (t : Tape) (v : Plan) (l : List ℤ) (k : Option ℤ) (f : ℤ → ℤ) (wanted highest lowest : ℤ) {gap : ℤ} →
    verdict_by (option_map f k) wanted highest lowest ≡ Some (Proved gap) → HeldUnless k t v l → HeldPlan t.n t.m t.horizon v l
proved_held t v l None f wanted highest lowest e held = absurd (true≢false (proved_kept None wanted highest lowest e))
proved_held t v l (Some k) f wanted highest lowest e held = held
