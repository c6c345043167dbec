-- The range of a plan number: what the gap leaves to it, in whole units rounded outward and limited to lo and hi.
use Rattle.std.specs.Prelude.{◌≡◌, cond, ℤ, pos, nat_abs, ◌+ℤ◌, ◌-ℤ◌, ◌*ℤ◌}
use Rattle.integer.specs.Order.{◌≼◌, ◌≺◌}
use Rattle.integer.specs.Limited.{limited}
use Rattle.integer.specs.Quotient.{◌÷◌, quotient_up}
use Rattle.integer.specs.Root.{root_up}
use Rattle.problem.specs.declared.Term.{Term}
use Rattle.problem.specs.Cost.{Within}
use Rattle.problem.specs.Rival.{finer_term}
use Rattle.problem.specs.Dual.{weightless, by_piece}
use Rattle.ranges.specs.declared.range.Range.{Range}
use Rattle.ranges.specs.Near.{Near}

-- ---- The three inequalities as one: 2P V lies at most D times the reach from D times the centre

-- 2P times the number at which the piece is least: lo, hi, or r − s / 2P.
unfoldable pub centre : Term → ℤ → ℤ
centre t s =
    by_piece t s (pos 2 *ℤ t.penalty *ℤ t.low) (pos 2 *ℤ t.penalty *ℤ t.high) (pos 2 *ℤ t.penalty *ℤ t.reference -ℤ s)

-- The least whole number b with b² ≥ 4P gap. The gap is from 0 on.
unfoldable pub reach : ℤ → ℤ → ℤ
reach p gap = pos (root_up (nat_abs (pos 4 *ℤ p *ℤ gap)))

-- ---- The ends

-- Before limiting.
unfoldable pub lowest : Term → ℤ → ℤ → ℤ
lowest t s gap = (centre t s -ℤ reach t.penalty gap) ÷ (pos 2 *ℤ t.penalty)

unfoldable pub highest : Term → ℤ → ℤ → ℤ
highest t s gap = quotient_up (centre t s +ℤ reach t.penalty gap) (pos 2 *ℤ t.penalty)

-- lo to hi at weight 0.
unfoldable pub range_of : Term → ℤ → ℤ → Range
range_of t s gap =
    cond (weightless t.penalty) (record { low = t.low; high = t.high })
    (record { low = limited t.low t.high (lowest t s gap); high = limited t.low t.high (highest t s gap) })

-- ---- What they say

-- V lies from D times the lower end to D times the upper end.
abbrev pub Inside : ℤ → Range → ℤ → Type 0
Inside D range v = (D *ℤ range.low ≼ v) × (v ≼ D *ℤ range.high)

-- A range holds every number within the limits, in units of 1/D, that is near; at weight 0 every number within them.
pub record HoldsNear (t : Term) (s gap : ℤ) (range : Range) : Type 0 where
  pub each : (D v : ℤ) → pos 1 ≼ D → Within (finer_term D t) v → (pos 1 ≼ t.penalty → Near t s gap D v) → Inside D range v

-- A number V / D that the inequality allows.
pub record Allowed (t : Term) (s gap : ℤ) : Type 0 where
  pub D : ℤ
  pub v : ℤ
  pub from_one : pos 1 ≼ D
  pub near : Near t s gap D v

-- Before it was limited to lo and hi, the range was the tightest of whole numbers: one unit further in, each end would shut out a number
-- that the inequality allows.
pub record Tightest (t : Term) (s gap : ℤ) (range : Range) : Type 0 where
  pub low : ℤ
  pub high : ℤ
  pub low-limited : range.low ≡ limited t.low t.high low
  pub high-limited : range.high ≡ limited t.low t.high high
  pub low_tight : (a : Allowed t s gap) × (a.v ≺ a.D *ℤ (low +ℤ pos 1))
  pub high_tight : (a : Allowed t s gap) × (a.D *ℤ (high -ℤ pos 1) ≺ a.v)
