-- Demand 3 in other units: what holds in units of 1/(k D) holds in units of 1/D; and in whole units it is document 01's, over the plans
-- that follow the tape.
use mathlib.Core.Path.{◌≡◌}
use mathlib.Core.List.{List}
use lib.IntN.{ℤ, pos, ◌-ℤ◌, ◌*ℤ◌}
use Rattle.integer.specs.Order.{◌≼◌}
use Rattle.integer.proofs.Ring.{ring, K, ◌⊗◌, ◌≐◌}
use Rattle.integer.proofs.Order.{mul-from_one, mul_cancel_le}
use Rattle.tape.specs.declared.Tape.{Tape}
use Rattle.problem.specs.Model.{problem_of}
use Rattle.problem.specs.Cost.{square, FollowsTape, cost_of}
use Rattle.problem.proofs.Units.{multiple, cost_multiple, rival_multiple}
use Rattle.problem.proofs.Whole.{cost_one, follows_rival}
use Rattle.judge.specs.Demand.{NoneCheaperIn, NoneCheaper, NoRival}

module _ (t : Tape) (plan : List ℤ) (gap : ℤ) where
  -- what a rival costs at least
  abbrev z : ℤ
  z = cost_of t plan -ℤ gap

  -- a rival in units of 1/D is one in units of 1/(k D), and the factor k² on both sides is taken off
  pub coarser : (k D : ℤ) → pos 1 ≼ k → NoneCheaperIn (k *ℤ D) t plan gap → NoneCheaperIn D t plan gap
  coarser k D one bound rival r =
      let h = bound (multiple k rival) (rival_multiple (problem_of t) k D rival one r) in
      let e : square (k *ℤ D) *ℤ z ≡ square k *ℤ (square D *ℤ z) =
      ring 3 (λ k D z. k ⊗ D ⊗ (k ⊗ D) ⊗ z ≐ k ⊗ k ⊗ (D ⊗ D ⊗ z)) tt k D z
      in
      mul_cancel_le (square k) (mul-from_one one one) (rw (e, cost_multiple (problem_of t) k D rival) at h)

  -- document 01's demand 3
  pub in_whole_units : (y : List ℤ) → NoneCheaper t plan y gap → (rival : List ℤ) → FollowsTape t rival → cost_of t plan -ℤ gap ≼ cost_of t rival
  in_whole_units y b rival f =
      let h = b.bound (pos 1) rival (follows_rival (problem_of t) rival f.long f.follows) in
      rw (ring 1 (λ z. K 1 ⊗ K 1 ⊗ z ≐ z) tt z, cost_one (problem_of t) rival) at h

-- and its 'impossible'
pub none_in_whole_units : (t : Tape) → NoRival t → (rival : List ℤ) → FollowsTape t rival → ⊥
none_in_whole_units t b rival f = b.none (pos 1) rival (follows_rival (problem_of t) rival f.long f.follows)
