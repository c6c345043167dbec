-- Demand 3, over what a judge answers.
use Rattle.std.specs.Prelude.{◌≡◌, List, ℤ, ◌-ℤ◌, ◌*ℤ◌, Result, Ok, Err}
use Rattle.integer.specs.Order.{◌≼◌}
use Rattle.tape.specs.declared.refusal.Refusal.{Refusal}
use Rattle.tape.specs.declared.Tape.{Tape}
use Rattle.problem.specs.Model.{problem_of}
use Rattle.problem.specs.Cost.{square, FollowsTape, cost_of}
use Rattle.problem.specs.Rival.{Rival, rival_cost}
use Rattle.problem.specs.Dual.{floor_of}

-- Every rival in units of 1/D costs at least the plan's cost minus the gap. Its cost is in units of 1/D².
abbrev pub NoneCheaperIn : ℤ → Tape → List ℤ → ℤ → Type 0
NoneCheaperIn D t plan gap =
    (rival : List ℤ) → Rival (problem_of t) D rival → square D *ℤ (cost_of t plan -ℤ gap) ≼ rival_cost (problem_of t) D rival

-- What demand 3 compares: the plan follows the tape, in whole units; the reported gap is its cost minus the multipliers' floor; and every
-- rival, in whatever units, costs at least the plan's cost minus that gap.
pub record NoneCheaper (t : Tape) (plan y : List ℤ) (gap : ℤ) : Type 0 where
  pub itself : FollowsTape t plan
  pub reported : gap ≡ cost_of t plan -ℤ floor_of t y
  pub bound : (D : ℤ) → NoneCheaperIn D t plan gap

-- A plan that is accepted.
abbrev pub Backed : Result ℤ Refusal → Tape → List ℤ → List ℤ → Type 0
Backed (Ok gap) t plan y = NoneCheaper t plan y gap
Backed (Err why) t plan y = Unit {0}

-- No list is a rival, in any units.
pub record NoRival (t : Tape) : Type 0 where
  pub none : (D : ℤ) (rival : List ℤ) → Rival (problem_of t) D rival → ⊥

-- 'Shown' counts as 'impossible'.
abbrev pub Founded : Result (Unit {0}) Refusal → Tape → Type 0
Founded (Ok tt) t = NoRival t
Founded (Err why) t = Unit {0}
