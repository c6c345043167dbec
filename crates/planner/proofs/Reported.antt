-- What the call that reports where a plan fails says of any answer of the judge.
use Prim.Native.Nat.{ℕ, ◌≤◌}
use mathlib.Core.Path.{◌≡◌, refl}
use mathlib.Core.List.{List}
use native.Mathlib.Omega.{arith}
use lib.IntN.{ℤ}
use Rattle.std.specs.Prelude.{Result, Ok, Err}
use Rattle.integer.proofs.Operand.{Bytes}
use Rattle.integer.proofs.Order.{order}
use Rattle.tape.specs.declared.refusal.Carried.{Carried}
use Rattle.tape.specs.declared.refusal.Carried.TheVariants as carried
use Rattle.tape.specs.declared.refusal.Refusal.{Refusal}
use Rattle.tape.specs.declared.refusal.Refusal.TheVariants.{Cut, Unknown, Misplaced, NoSuchPlace, OutOfRange, Twice, Absent, Overrun, Length, OffModel, OverLimit, Multiplier, Wide, NotShown, Open, ArgumentOutOfRange, NotFinite, TooLarge, Weightless}
use Rattle.tape.specs.Reading.{reading}
use Rattle.tape.specs.Refusals.{row, figure}
use Rattle.numbers.specs.Numbers.{code_of}
use Rattle.judge.specs.Demand.{Backed}
use Rattle.judge.specs.Judging.{judged}
use Rattle.judge.specs.Reasons.{Reasoned}
use Rattle.judge.proofs.Accepted.{backed}
use Rattle.judge.proofs.Reasons.{reasoned}
use Rattle.solution.proofs.TapeSizes.{Room, room}
use Rattle.solver.proofs.Small.{Small}
use Rattle.planner.specs.Reports.{reported_code, reported_left, ReportedBy, SmallCarried}
use Rattle.planner.proofs.Figures.{refused, SmallErr, small_judged}

pub carried-figure : (c : Carried) → SmallCarried c → figure c ≤ 10000
carried-figure (carried.Fault fault) h = omega arith
carried-figure (carried.Span span) h = omega arith
carried-figure (carried.Place at) h = h
carried-figure carried.Nothing h = omega arith
carried-figure (carried.Rounds R) h = h

module _ (s : List ℕ) (plan y : List ℤ) where
  abbrev Said : Result ℤ Refusal → Type 0
  Said j = (before : List ℤ) → ReportedBy (reported_code j) (reported_left j before) s plan y

  -- of a refusal: the numbers that it carries are small, and what is said of it
  abbrev Seen : Refusal → Type 0
  Seen why = SmallCarried (row why).carries × Said (Err why)

  -- a refusal that says nothing of the plan stays one
  plain : (why : Refusal) (out : List ℤ) → ReportedBy (code_of why) out s plan y
  plain why out =
      record { backed = λ e. absurd (refused why e); off_model = λ e. absurd (refused why e); over_limit = λ e. absurd (refused why e); wide = λ e. absurd (refused why e) }

  seen : Room (reading s).tape → (why : Refusal) → Small why → Reasoned (Err why) s plan y → Seen why
  seen fits (Cut at) small r = (small, plain (Cut at))
  seen fits (Unknown at) small r = (small, plain (Unknown at))
  seen fits (Misplaced at) small r = (small, plain (Misplaced at))
  seen fits (NoSuchPlace at) small r = (small, plain (NoSuchPlace at))
  seen fits (OutOfRange at) small r = (small, plain (OutOfRange at))
  seen fits (Twice at) small r = (small, plain (Twice at))
  seen fits (Absent at) small r = (small, plain (Absent at))
  seen fits (Overrun at) small r = (small, plain (Overrun at))
  seen fits Length small r = (tt, plain Length)
  seen fits (OffModel fault) small r =
      let h = r.off_model fault refl in (
        omega (arith, h.first.step, h.first.column, fits.states, fits.inputs, fits.steps),
        λ before. record { backed = λ _ e. absurd (omega (arith, order)); off_model = λ _ _. h; over_limit = λ _ e. absurd (omega (arith, order)); wide = λ _ e. absurd (omega (arith, order)) },
      )
  seen fits (OverLimit fault) small r =
      let h = r.over_limit fault refl in (
        omega (arith, h.first.step, h.first.column, fits.states, fits.inputs, fits.steps),
        λ before. record { backed = λ _ e. absurd (omega (arith, order)); off_model = λ _ e. absurd (omega (arith, order)); over_limit = λ _ _. h; wide = λ _ e. absurd (omega (arith, order)) },
      )
  seen fits Multiplier small r = (tt, plain Multiplier)
  seen fits (Wide span) small r =
      let h = r.wide span refl in
      (tt, λ before. record { backed = λ _ e. absurd (omega (arith, order)); off_model = λ _ e. absurd (omega (arith, order)); over_limit = λ _ e. absurd (omega (arith, order)); wide = λ _ _. h })
  seen fits NotShown small r = (tt, plain NotShown)
  seen fits (Open R) small r = (small, plain (Open R))
  seen fits ArgumentOutOfRange small r = (tt, plain ArgumentOutOfRange)
  seen fits (NotFinite count) small r = (small, plain (NotFinite count))
  seen fits (TooLarge count) small r = (small, plain (TooLarge count))
  seen fits (Weightless at) small r = (small, plain (Weightless at))

  said : Room (reading s).tape → (j : Result ℤ Refusal) → SmallErr j → Backed j (reading s).tape plan y → Reasoned j s plan y → Said j
  said fits (Ok gap) small b r = λ before.
      record { backed = λ _ _. b; off_model = λ _ e. absurd (omega (arith, order)); over_limit = λ _ e. absurd (omega (arith, order)); wide = λ _ e. absurd (omega (arith, order)) }
  said fits (Err why) small b r = (seen fits why small r).1

  module _ (bytes : Bytes s) where
    pub carried_small : (why : Refusal) → judged s plan y ≡ Err why → SmallCarried (row why).carries
    carried_small why e = (seen (room s bytes) why (rw e at (small_judged s plan y)) (rw e at (reasoned s bytes plan y))).0

    pub reported_by : (before : List ℤ) {number : ℕ} {out : List ℤ} → number ≡ reported_code (judged s plan y) → out ≡ reported_left (judged s plan y) before → ReportedBy number out s plan y
    reported_by before e o = rw (e, o) (said (room s bytes) (judged s plan y) (small_judged s plan y) (backed s plan y bytes) (reasoned s bytes plan y) before)
