use mathlib.Core.Path.{◌≡◌, ◌∙◌, ap₂}
use lib.Signed.{lt_z}
use Rattle.integer.proofs.Sizes.{called, back}
use Rattle.problem.specs.Model.{problem_of}
use Rattle.problem.specs.Dual.{floor, ceiling}
use Rattle.primal.specs.Padded.{padded}
use Rattle.primal.proofs.Padding.{ceiling-padded, padded_terms}
use Rattle.judge.proofs.is_shown.Goals as goal
use Rattle.judge.proofs.is_shown.Goals.{After-tape_floor-floor}

-- the padded problem's ceiling is the tape's
ceiling_is : (c : After-tape_floor-floor) → back c.ceiling_of-ceiling.result ≡ ceiling (problem_of c.args.t.now)
ceiling_is c =
    let a = c.args in
    let h = c.requires in
    let f = c.ceiling_of-ceiling in
    ◌∙◌ {b = f.result} (called f.result f.type_inv)
    (◌∙◌ {b = ceiling (padded_terms a.t.now h.legal.0 a.terms.now h.legal.1)} f.ensures
    (ceiling-padded a.t.now h.legal.0 a.terms.now h.legal.1))

floor_is : (c : After-tape_floor-floor) → back c.tape_floor-floor.result ≡ floor (problem_of c.args.t.now) (padded c.args.y.now)
floor_is c = called c.tape_floor-floor.result c.tape_floor-floor.type_inv ∙ c.tape_floor-floor.ensures

pub returns : goal.returns
returns c = ap₂ lt_z (ceiling_is c) (floor_is c)
