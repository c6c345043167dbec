-- The exported call that reports where a plan fails, for which 10, 11 and 13 are results: the number that it returns, what it leaves
-- in `out`, and what that says.
use Rattle.std.specs.Prelude.{ℕ, ◌<◌, ◌≤◌, ◌≡◌, List, [], ◌∷◌, ℤ, pos, nat_abs, Result, Ok, Err}
use Rattle.integer.specs.Places.{at}
use Rattle.commands.specs.Ranges.{most_rounds}
use Rattle.tape.specs.declared.refusal.Carried.{Carried}
use Rattle.tape.specs.declared.refusal.Carried.TheVariants as carried
use Rattle.tape.specs.declared.refusal.Fault.{Fault}
use Rattle.tape.specs.declared.refusal.Refusal.{Refusal}
use Rattle.tape.specs.declared.refusal.Span.{Span}
use Rattle.tape.specs.Reading.{reading}
use Rattle.tape.specs.Refusals.{row}
use Rattle.numbers.specs.Numbers.{code_of}
use Rattle.judge.specs.Demand.{NoneCheaper}
use Rattle.judge.specs.Reasons.{OffTheModel, OverTheLimit, TooWide}

-- of a refusal and what it carries
abbrev pub refused_code : Refusal → Carried → ℕ
refused_code why (carried.Fault fault) = 0
refused_code why (carried.Span span) = 0
refused_code why (carried.Place at) = code_of why
refused_code why carried.Nothing = code_of why
refused_code why (carried.Rounds R) = code_of why

-- 10 or 11, step, column, the number found, and what was due; or 13, cost and floor, and 0 behind them
abbrev pub refused_left : Refusal → Carried → List ℤ → List ℤ
refused_left why (carried.Fault fault) before = pos (row why).number ∷ pos fault.step ∷ pos fault.column ∷ fault.found ∷ fault.due ∷ []
refused_left why (carried.Span span) before = pos (row why).number ∷ span.cost ∷ span.floor ∷ pos 0 ∷ pos 0 ∷ []
refused_left why (carried.Place at) before = before
refused_left why carried.Nothing before = before
refused_left why (carried.Rounds R) before = before

abbrev pub reported_code : Result ℤ Refusal → ℕ
reported_code (Ok gap) = 0
reported_code (Err why) = refused_code why (row why).carries

-- 0, the gap, and 0 behind it; or a refusal's
abbrev pub reported_left : Result ℤ Refusal → List ℤ → List ℤ
reported_left (Ok gap) before = pos 0 ∷ gap ∷ pos 0 ∷ pos 0 ∷ pos 0 ∷ []
reported_left (Err why) before = refused_left why (row why).carries before

-- A fault, and cost and floor, as they stand in `out`.
abbrev pub fault_in : List ℤ → Fault
fault_in out = record { step = nat_abs (at out 1); column = nat_abs (at out 2); found = at out 3; due = at out 4 }

abbrev pub span_in : List ℤ → Span
span_in out = record { cost = at out 1; floor = at out 2 }

-- What the call says where the number is 0. With 0 in front, demand 3 holds of the plan, the multipliers and the gap in `out`; with
-- 10, 11 or 13, what stands behind it is the true reason.
pub record ReportedBy (number : ℕ) (out : List ℤ) (s : List ℕ) (plan y : List ℤ) : Type 0 where
  pub backed : number ≡ 0 → at out 0 ≡ pos 0 → NoneCheaper (reading s).tape plan y (at out 1)
  pub off_model : number ≡ 0 → at out 0 ≡ pos 10 → OffTheModel s (reading s).tape plan (fault_in out)
  pub over_limit : number ≡ 0 → at out 0 ≡ pos 11 → OverTheLimit s (reading s).tape plan (fault_in out)
  pub wide : number ≡ 0 → at out 0 ≡ pos 13 → TooWide (reading s).tape plan y (span_in out)

-- What the private functions tell each other: the numbers that a refusal carries are small.
abbrev pub SmallCarried : Carried → Type 0
SmallCarried (carried.Fault fault) = (fault.step < 12) × (fault.column < 10)
SmallCarried (carried.Span span) = Unit {0}
SmallCarried (carried.Place at) = at ≤ most_rounds
SmallCarried carried.Nothing = Unit {0}
SmallCarried (carried.Rounds R) = R ≤ most_rounds
