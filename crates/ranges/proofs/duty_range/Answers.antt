use Prim.Native.Nat.{◌≤◌}
use mathlib.Core.Path.{◌≡◌, ◌∙◌, ap₂}
use native.Mathlib.Nat.{le_trans}
use native.Mathlib.Omega.{arith}
use lib.IntN.{ℤ, nat_abs}
use mir.Facts.{to_z-of_z}
use Rattle.integer.proofs.Sizes.{called, back}
use Rattle.problem.specs.declared.Term.{Term}
use Rattle.problem.specs.Dual.{input_slope}
use Rattle.primal.specs.Padded.{input_matrix, padded, term_at}
use Rattle.primal.proofs.TermSums.{term_back}
use Rattle.dual.specs.Slopes.{most_slope}
use Rattle.dual.proofs.SlopeSizes.{size-input_slope}
use Rattle.ranges.specs.Range.{range_of}
use Rattle.ranges.proofs.Duties.{duty-range}
use Rattle.ranges.proofs.duty_range.Goals as goal

-- the slope that the call gave
module _ (c : goal.After-range_of) where
  abbrev slope : ℤ
  slope = input_slope 6 (input_matrix c.args.t.now.b) (padded c.args.y.now) 0 c.args.j

  slope_is : back c.input_slope_at-s.result ≡ slope
  slope_is = called c.input_slope_at-s.result c.input_slope_at-s.type_inv ∙ c.input_slope_at-s.ensures

pub range_of-requires : goal.range_of-requires
range_of-requires c =
    let h = c.requires in
    let g = h.legal.1.tables.each c.args.j (omega arith) in
    let s = called c.input_slope_at-s.result c.input_slope_at-s.type_inv ∙ c.input_slope_at-s.ensures in
    rw (term_back g, s, to_z-of_z c.ranges.gap)
    (g, le_trans (size-input_slope h.legal.0.b h.bounded.0 0 c.args.j) (omega arith), h.bounded.2, h.bounded.3)

pub returns : goal.returns
returns c =
    let a = c.args in
    let h = c.requires in
    rw (to_z-of_z c.ranges.gap) at c.range_of.ensures.value
    ∙ ap₂ (λ (t : Term) (z : ℤ). range_of t z a.gap) (term_back (h.legal.1.tables.each a.j (omega arith))) (slope_is c)
    ∙ duty-range a.t.now h.legal.0 a.terms.now h.legal.1 a.y.now h.bounded.1 a.gap a.j h.bounded.4
