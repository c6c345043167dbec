-- Costs of one number: how large they are, and that no step of the code that forms them passes 64 bits.
use Prim.Native.Nat.{ℕ, ◌*◌, ◌≤◌}
use mathlib.Core.Bool.{Bool, true, false, cond}
use native.Mathlib.Omega.{arith}
use lib.IntN.{ℤ, nat_abs, ◌-ℤ◌, ◌*ℤ◌}
use lib.Signed.{le_z}
use Rattle.integer.proofs.Sizes.{size-sub, size-mul, back, back_is, Formed, formed}
use Rattle.commands.specs.Ranges.{most_number}
use Rattle.problem.specs.declared.Term.{Term}
use Rattle.problem.specs.Dual.{larger, most}
use Rattle.primal.specs.Ranges.{most_penalty, Ranged}

abbrev pub most_cost : ℕ
most_cost = most_penalty * (2 * most_number * (2 * most_number))

-- ---- A number v beside its reference

pub record Near (p v r : ℤ) : Type 0 where
  pub penalty : nat_abs p ≤ most_penalty
  pub number : nat_abs v ≤ most_number
  pub reference : nat_abs r ≤ most_number

pub near : {t : Term} → Ranged t → (v : ℤ) → nat_abs v ≤ most_number → Near t.penalty v t.reference
near g v h = record { penalty = g.penalty; number = h; reference = g.reference }

module _ {p v r : ℤ} (n : Near p v r) where
  pub size_distance : nat_abs (v -ℤ r) ≤ 2 * most_number
  size_distance = size-sub v r n.number n.reference

  size-square : nat_abs ((v -ℤ r) *ℤ (v -ℤ r)) ≤ 2 * most_number * (2 * most_number)
  size-square = size-mul (v -ℤ r) (v -ℤ r) size_distance size_distance

  pub size-cost : nat_abs (p *ℤ ((v -ℤ r) *ℤ (v -ℤ r))) ≤ most_cost
  size-cost = size-mul p ((v -ℤ r) *ℤ (v -ℤ r)) n.penalty size-square

  -- P (v − r)², step by step
  pub distance : Formed (back v -ℤ back r) (v -ℤ r)
  distance = formed (rw (back_is v n.number (omega arith), back_is r n.reference (omega arith))) size_distance (omega arith)

  pub squared : Formed (back (back v -ℤ back r) *ℤ back (back v -ℤ back r)) ((v -ℤ r) *ℤ (v -ℤ r))
  squared = formed (rw distance.is) size-square (omega arith)

  pub weighted : Formed (back p *ℤ back (back (back v -ℤ back r) *ℤ back (back v -ℤ back r))) (p *ℤ ((v -ℤ r) *ℤ (v -ℤ r)))
  weighted = formed (rw (squared.is, back_is p n.penalty (omega arith))) size-cost (omega arith)

-- ---- The most that a number costs

pub size-most : {t : Term} → Ranged t → nat_abs (most t) ≤ most_cost
unfolding most larger
size-most {t} g = go (le_z (low *ℤ low) (high *ℤ high))
  where
    low : ℤ
    low = t.low -ℤ t.reference

    high : ℤ
    high = t.high -ℤ t.reference

    go : (b : Bool) → nat_abs (t.penalty *ℤ cond b (high *ℤ high) (low *ℤ low)) ≤ most_cost
    go true = size-cost (near g t.high g.high)
    go false = size-cost (near g t.low g.low)
