-- What the call that gives ranges says of any answer.
use Prim.Native.Nat.{ℕ}
use mathlib.Core.Path.{◌≡◌, sym, ◌∙◌}
use mathlib.Core.List.{List}
use lib.IntN.{ℤ}
use Rattle.std.specs.Prelude.{Result, Ok, Err, MatchResult}
use Rattle.tape.specs.declared.Tape.{Tape}
use Rattle.tape.specs.declared.refusal.Refusal.{Refusal}
use Rattle.tape.specs.Reading.{reading}
use Rattle.judge.specs.Judging.{judged}
use Rattle.ranges.specs.declared.Ranges.{Ranges}
use Rattle.ranges.specs.Ranges.{ranged_by, ranges_of, Bounding}
use Rattle.numbers.specs.Numbers.{code_of}
use Rattle.planner.specs.Ranges.{ends_of, BoundingBy}
use Rattle.planner.proofs.Figures.{refused, SmallErr, small_judged}

-- a refusal is one of judging, so what it carries is small
pub small_ranging : (s : List ℕ) (plan y : List ℤ) → SmallErr (ranges_of s plan y)
unfolding ranges_of
small_ranging s plan y = go (judged s plan y) (small_judged s plan y)
  where
    go : (j : Result ℤ Refusal) → SmallErr j → SmallErr (ranged_by j (reading s).tape y)
    go (Ok gap) h = tt
    go (Err why) h = h

pub bounding_by : (r : Result Ranges Refusal) (t : Tape) (plan y : List ℤ) (number : ℕ) (out before : List ℤ) →
    MatchResult r (λ ranges. (number ≡ 0) × (out ≡ ends_of ranges)) (λ why. (number ≡ code_of why) × (out ≡ before)) →
    Bounding r t plan y → BoundingBy number out t plan y
bounding_by (Ok ranges) t plan y number out before e h = record { bounding = λ _. rw e.1 h }
bounding_by (Err why) t plan y number out before e h = record { bounding = λ zero. absurd (refused why (sym e.0 ∙ zero)) }
