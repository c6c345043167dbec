-- Demand 3, and judging again, over what a caller of the exported calls sees: the number returned, and `out`.
use Rattle.std.specs.Prelude.{ℕ, ◌≡◌, List, ℤ, pos, Ok}
use Rattle.integer.specs.Order.{◌≼◌}
use Rattle.integer.specs.Places.{at}
use Rattle.tape.specs.declared.Tape.{Tape}
use Rattle.judge.specs.Demand.{NoneCheaper, NoRival}
use Rattle.judge.specs.Judging.{judged, shown}
use Rattle.solver.specs.declared.Duties.{Duties}
use Rattle.solver.specs.Solving.{first_duties}

-- Where the number is 0, demand 3 holds of the plan, the multipliers and the gap in `out`.
pub record BackedBy (number : ℕ) (out : List ℤ) (t : Tape) (plan y : List ℤ) : Type 0 where
  pub backed : number ≡ 0 → NoneCheaper t plan y (at out 0)

-- Where the number is 0, there is no rival.
pub record FoundedBy (number : ℕ) (t : Tape) : Type 0 where
  pub founded : number ≡ 0 → NoRival t

-- What a solve says where the number is 0: P where `out` has kind 1, Q where it has kind 2.
pub record Says (number : ℕ) (out : List ℤ) (P Q : Type 0) : Type 0 where
  pub proved : number ≡ 0 → at out 0 ≡ pos 1 → P
  pub impossible : number ≡ 0 → at out 0 ≡ pos 2 → Q

-- u(0) as it stands in `out`.
abbrev pub first_in : List ℤ → Duties
first_in out = record { u0 = at out 3; u1 = at out 4; u2 = at out 5; u3 = at out 6 }

-- Kind 1: demand 3 holds of the plan and the multipliers that the solve left and of the gap in `out`, and the u(0) there is that
-- plan's. Kind 2: there is no rival.
abbrev pub UpheldBy : ℕ → List ℤ → Tape → List ℤ → List ℤ → Type 0
UpheldBy number out t plan y = Says number out (NoneCheaper t plan y (at out 2) × (first_in out ≡ first_duties t.m plan)) (NoRival t)

-- Judging what the solve left gives the gap in `out`, or again shows impossibility.
abbrev pub AgainBy : ℕ → List ℤ → List ℕ → List ℤ → List ℤ → Type 0
AgainBy number out s plan y = Says number out (judged s plan y ≡ Ok (at out 2)) (shown s y ≡ Ok tt)

-- Where the number is 0, the rounds in `out` are at least 1 and at most R.
pub record RoundsBy (number : ℕ) (out : List ℤ) (R : ℕ) : Type 0 where
  pub within : number ≡ 0 → (pos 1 ≼ at out 1) × (at out 1 ≼ pos R)
