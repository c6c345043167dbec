use native.Mathlib.Omega.{arith}
use Rattle.integer.proofs.Sizes.{wider}
use Rattle.primal.proofs.ModelSizes.{residuals_bounded}
use Rattle.rounds.proofs.Filled.{held-step, band_next}
use Rattle.rounds.proofs.next_by_band.Goals as goal

pub residuals-e-requires : goal.residuals-e-requires
residuals-e-requires c =
    let h = c.requires in
    let l = h.legal.0 in
    (l.steps.1, l.a, l.b, wider l.drift (omega arith), l.start, h.blank_plan.1)

pub ascend_by_band-requires : goal.ascend_by_band-requires
ascend_by_band-requires c =
    let s = c in
    let h = s.requires in
    let l = h.legal.0 in
    let r = c.residuals-e.ensures in
    let bounded = residuals_bounded s.args.t.now.horizon l.a l.b (wider l.drift (omega arith)) l.start h.blank_plan.1 r in
    (l, h.legal.1, h.legal.2, held-step s.args.t.now l h.blank_plan.0 r h.legal.3 h.legal.4 bounded)

pub returns : goal.returns
returns c =
    let s = c in
    let h = s.requires in
    band_next s.args.t.now h.legal.0 h.blank_plan.0 c.residuals-e.ensures s.args.ahead.now c.ascend_by_band.ensures
