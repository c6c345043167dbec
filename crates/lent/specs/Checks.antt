-- The tests of lent numbers: 9 of both slices, 12 of the multipliers, and 11 and 10 of the plan from the front.
use Rattle.std.specs.Prelude.{ℕ, zero, suc, ◌+◌, ◌*◌, Bool, not, cond, List, eqb, length, ℤ, pos, neg_ℤ, Result, Ok, Err}
use Rattle.std.specs.Int.Signed.{lt_z}
use Rattle.integer.specs.Places.{at}
use Rattle.integer.specs.Tests.{outside, any}
use Rattle.commands.specs.Ranges.{most_multiplier}
use Rattle.tape.specs.declared.Tape.{Tape}
use Rattle.tape.specs.declared.refusal.Fault.{Fault}
use Rattle.tape.specs.declared.refusal.Refusal.{Refusal}
use Rattle.tape.specs.declared.refusal.Refusal.TheVariants.{OffModel, OverLimit}
use Rattle.problem.specs.Model.{Problem, Plan, sum_at, rounded}

-- ---- Lengths

-- 9: N(n+m) plan numbers, N × n multipliers
abbrev pub wrong_plan_length : Tape → List ℤ → Bool
wrong_plan_length t plan = not (eqb (length plan) (t.horizon * (t.n + t.m)))

abbrev pub wrong_multipliers_length : Tape → List ℤ → Bool
wrong_multipliers_length t y = not (eqb (length y) (t.horizon * t.n))

-- ---- Multipliers, from −16,777,216 to 16,777,216

abbrev pub wrong_multipliers : List ℤ → Bool
wrong_multipliers y = any (length y) (λ p. outside (neg_ℤ (pos most_multiplier)) (pos most_multiplier) (at y p))

-- ---- The plan

abbrev pub or_else : Result (Unit {0}) Refusal → Result (Unit {0}) Refusal → Result (Unit {0}) Refusal
or_else (Ok tt) c = c
or_else (Err why) c = Err why

-- the first failure of f 0, f 1, .. below count
unfoldable pub first : ℕ → (ℕ → Result (Unit {0}) Refusal) → Result (Unit {0}) Refusal
first zero f = Ok tt
first (suc count) f = or_else (first count f) (f count)

-- whether the number v, of step k and column c, lies in lo to hi; lo was due where it is below, hi where it is above
unfoldable pub tested : ℕ → ℕ → ℤ → ℤ → ℤ → Result (Unit {0}) Fault
tested k c lo hi v =
    cond (lt_z v lo) (Err (record { step = k; column = c; found = v; due = lo }))
    (cond (lt_z hi v) (Err (record { step = k; column = c; found = v; due = hi })) (Ok tt))

-- the refusal that a fault leads to
abbrev pub refused_as : (Fault → Refusal) → Result (Unit {0}) Fault → Result (Unit {0}) Refusal
refused_as refusal (Ok tt) = Ok tt
refused_as refusal (Err fault) = Err (refusal fault)

-- 11: v is outside lo to hi
abbrev pub limits : ℕ → ℕ → ℤ → ℤ → ℤ → Result (Unit {0}) Refusal
limits k c lo hi v = refused_as OverLimit (tested k c lo hi v)

-- 10: v differs from the state that S gives, which is to say that it is outside that one number
abbrev pub meets : ℕ → ℕ → ℤ → ℤ → Result (Unit {0}) Refusal
meets k i S v = refused_as OffModel (tested k i (rounded S) (rounded S) v)

-- a state: 10 before 11
unfoldable pub state_check : ℕ → ℕ → ℤ → ℤ → ℤ → ℤ → Result (Unit {0}) Refusal
state_check k i S lo hi v = or_else (meets k i S v) (limits k i lo hi v)

-- input j and state i of step k
abbrev pub input_check_of : Problem → Plan → ℕ → ℕ → Result (Unit {0}) Refusal
input_check_of q v k j = limits k (q.n + j) (q.input_term k j).low (q.input_term k j).high (v.u k j)

abbrev pub state_check_of : Problem → Plan → ℕ → ℕ → Result (Unit {0}) Refusal
state_check_of q v k i = state_check k i (sum_at q v k i) (q.state_term k i).low (q.state_term k i).high (v.x k i)

-- a step: its inputs, then its states
unfoldable pub step_check : Problem → Plan → ℕ → Result (Unit {0}) Refusal
step_check q v k = or_else (first q.m (input_check_of q v k)) (first q.n (state_check_of q v k))

unfoldable pub plan_check : Problem → Plan → Result (Unit {0}) Refusal
plan_check q v = first q.horizon (step_check q v)
