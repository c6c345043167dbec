-- The numbers of refusals.
use Prim.Native.Nat.{◌≤◌}
use native.Mathlib.Omega.{arith}
use Rattle.tape.specs.declared.refusal.Refusal.{Refusal}
use Rattle.tape.specs.declared.refusal.Refusal.TheVariants.{Cut, Unknown, Misplaced, NoSuchPlace, OutOfRange, Twice, Absent, Overrun, Length, OffModel, OverLimit, Multiplier, Wide, NotShown, Open, ArgumentOutOfRange, NotFinite, TooLarge, Weightless}
use Rattle.tape.specs.Refusals.{row}

pub number-range : (why : Refusal) → (1 ≤ (row why).number) × ((row why).number ≤ 18)
number-range (Cut at) = omega arith
number-range (Unknown at) = omega arith
number-range (Misplaced at) = omega arith
number-range (NoSuchPlace at) = omega arith
number-range (OutOfRange at) = omega arith
number-range (Twice at) = omega arith
number-range (Absent at) = omega arith
number-range (Overrun at) = omega arith
number-range Length = omega arith
number-range (OffModel fault) = omega arith
number-range (OverLimit fault) = omega arith
number-range Multiplier = omega arith
number-range (Wide span) = omega arith
number-range NotShown = omega arith
number-range (Open R) = omega arith
number-range ArgumentOutOfRange = omega arith
number-range (NotFinite count) = omega arith
number-range (TooLarge count) = omega arith
number-range (Weightless at) = omega arith
