-- Demand 3, and judging again, over what a solve answers and leaves in the lent slices.
use Rattle.std.specs.Prelude.{ℕ, ◌≤◌, ◌≡◌, List, ℤ, Result, Ok, Err}
use Rattle.tape.specs.declared.Tape.{Tape}
use Rattle.tape.specs.declared.refusal.Refusal.{Refusal}
use Rattle.judge.specs.Demand.{NoneCheaper, NoRival}
use Rattle.judge.specs.Judging.{judged, shown}
use Rattle.solver.specs.declared.Solved.{Solved}
use Rattle.solver.specs.declared.Solved.TheVariants.{Proved, Impossible}
use Rattle.solver.specs.Solving.{first_duties}

-- 'Proved': what demand 3 says of the plan and the multipliers that the solve left, and the result's u(0) is that plan's.
-- 'Impossible': there is no rival.
abbrev pub Upheld : Result Solved Refusal → Tape → List ℤ → List ℤ → Type 0
Upheld (Ok (Proved rounds gap first)) t plan y = NoneCheaper t plan y gap × (first ≡ first_duties t.m plan)
Upheld (Ok (Impossible rounds)) t plan y = NoRival t
Upheld (Err why) t plan y = Unit {0}

-- Judging what a solve left gives the same gap, or again shows impossibility.
abbrev pub JudgedAgain : Result Solved Refusal → List ℕ → List ℤ → List ℤ → Type 0
JudgedAgain (Ok (Proved rounds gap first)) s plan y = judged s plan y ≡ Ok gap
JudgedAgain (Ok (Impossible rounds)) s plan y = shown s y ≡ Ok tt
JudgedAgain (Err why) s plan y = Unit {0}

-- The rounds of an answer are at least 1 and at most R.
abbrev pub RoundsWithin : Result Solved Refusal → ℕ → Type 0
RoundsWithin (Ok (Proved rounds gap first)) R = (1 ≤ rounds) × (rounds ≤ R)
RoundsWithin (Ok (Impossible rounds)) R = (1 ≤ rounds) × (rounds ≤ R)
RoundsWithin (Err why) R = Unit {0}
