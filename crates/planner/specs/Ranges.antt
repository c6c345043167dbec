-- The exported call that gives the ranges of the first duties: the number that it returns, what it leaves in `out`, and what that says.
use Rattle.std.specs.Prelude.{ℕ, ◌+◌, ◌*◌, ◌≡◌, List, [], ◌∷◌, ℤ, Result, Ok, Err}
use Rattle.integer.specs.Places.{at}
use Rattle.tape.specs.declared.Tape.{Tape}
use Rattle.tape.specs.declared.refusal.Refusal.{Refusal}
use Rattle.numbers.specs.Numbers.{code_of}
use Rattle.ranges.specs.declared.Ranges.{Ranges}
use Rattle.ranges.specs.declared.range.Range.{Range}
use Rattle.ranges.specs.Ranges.{NearPlan}

abbrev pub ranges_code : Result Ranges Refusal → ℕ
ranges_code (Ok ranges) = 0
ranges_code (Err why) = code_of why

-- the two ends of input j's first duty at 2j and 2j + 1
abbrev pub ends_of : Ranges → List ℤ
ends_of r =
    r.u0.low ∷ r.u0.high ∷ r.u1.low ∷ r.u1.high ∷ r.u2.low ∷ r.u2.high ∷ r.u3.low ∷ r.u3.high ∷ []

abbrev pub ranges_left : Result Ranges Refusal → List ℤ → List ℤ
ranges_left (Ok ranges) before = ends_of ranges
ranges_left (Err why) before = before

-- Ranges as they stand in `out`.
abbrev pub range_in : List ℤ → ℕ → Range
range_in out j = record { low = at out (2 * j); high = at out (2 * j + 1) }

abbrev pub ranges_in : List ℤ → Ranges
ranges_in out = record { u0 = range_in out 0; u1 = range_in out 1; u2 = range_in out 2; u3 = range_in out 3 }

-- Where the number is 0, every rival that costs no more than the plan has numbers that are near, and first duties in the ranges in `out`.
pub record BoundingBy (number : ℕ) (out : List ℤ) (t : Tape) (plan y : List ℤ) : Type 0 where
  pub bounding : number ≡ 0 → NearPlan t plan y (ranges_in out)
