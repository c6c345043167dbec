-- Document 01's table of refusals, with 16 and 17 of document 02, request 2, 18 of request 9, and what 10, 11 and 13 carry by request 6.
use Rattle.std.specs.Prelude.{ℕ}
use Prim.Native.String.{String}
use Rattle.tape.specs.declared.refusal.Carried.{Carried}
use Rattle.tape.specs.declared.refusal.Carried.TheVariants.{Place, Nothing, Fault, Span, Rounds}
use Rattle.tape.specs.declared.refusal.Refusal.{Refusal}
use Rattle.tape.specs.declared.refusal.Refusal.TheVariants.{Cut, Unknown, Misplaced, NoSuchPlace, OutOfRange, Twice, Absent, Overrun}
use Rattle.tape.specs.declared.refusal.Refusal.TheVariants.{Length, OffModel, OverLimit, Multiplier, Wide, NotShown, Open}
use Rattle.tape.specs.declared.refusal.Refusal.TheVariants.{ArgumentOutOfRange, NotFinite, TooLarge, Weightless}

-- What a refusal carries, as one number: 0 where it carries nothing or several.
abbrev pub figure : Carried → ℕ
figure (Place at) = at
figure Nothing = 0
figure (Fault fault) = 0
figure (Span span) = 0
figure (Rounds R) = R

pub record Row : Type 0 where
  pub number : ℕ
  pub word : String
  pub carries : Carried

abbrev pub row_of : ℕ → String → Carried → Row
row_of number word carries = record { number = number; word = word; carries = carries }

-- A tape's refusal carries an offset; 10 and 11 carry where the plan fails; 13 carries cost and floor; 9, 12 and 14 carry nothing; 15
-- carries R. An argument out of range carries nothing; 16 and 17 carry the entry's count.
abbrev pub row : Refusal → Row
row (Cut at) = row_of 1 "cut" (Place at)
row (Unknown at) = row_of 2 "unknown" (Place at)
row (Misplaced at) = row_of 3 "misplaced" (Place at)
row (NoSuchPlace at) = row_of 4 "no such place" (Place at)
row (OutOfRange at) = row_of 5 "out of range" (Place at)
row (Twice at) = row_of 6 "twice" (Place at)
row (Absent at) = row_of 7 "absent" (Place at)
row (Overrun at) = row_of 8 "overrun" (Place at)
row Length = row_of 9 "length" Nothing
row (OffModel fault) = row_of 10 "off model" (Fault fault)
row (OverLimit fault) = row_of 11 "over limit" (Fault fault)
row Multiplier = row_of 12 "multiplier" Nothing
row (Wide span) = row_of 13 "wide" (Span span)
row NotShown = row_of 14 "not shown" Nothing
row (Open R) = row_of 15 "open" (Rounds R)
row ArgumentOutOfRange = row_of 5 "out of range" Nothing
row (NotFinite count) = row_of 16 "not finite" (Place count)
row (TooLarge count) = row_of 17 "too large" (Place count)
row (Weightless at) = row_of 18 "weightless" (Place at)
