use Prim.Native.Nat.{ℕ}
use mathlib.Core.Path.{◌≡◌, ◌∙◌}
use mir.Facts.{to_z-of_z}
use Rattle.problem.specs.Model.{multipliers_of}
use Rattle.primal.specs.Padded.{padded}
use Rattle.ranges.specs.Ranges.{duty_range}
use Rattle.ranges.proofs.Duties.{duty-held}
use Rattle.ranges.proofs.first_ranges.Goals as goal

pub returns : goal.returns
returns c =
    let t = c.args.t.now in
    let f = c.ranges.gap in
    -- the slopes of the padded multipliers are those of the lent ones
    let same = duty-held t c.requires.legal.0 c.padded_multipliers-y.ensures c.args.gap in
    rw (
      rw (to_z-of_z f) at c.duty_range.ensures ∙ same 0,
      rw (to_z-of_z f) at c.duty_range-2.ensures ∙ same 1,
      rw (to_z-of_z f) at c.duty_range-3.ensures ∙ same 2,
      rw (to_z-of_z f) at c.duty_range-4.ensures ∙ same 3,
    )
