use mathlib.Core.Path.{◌∙◌, ap}
use Prim.Native.Nat.{◌+◌, ◌*◌}
use native.Mathlib.Omega.{arith}
use lib.ListN.{set}
use mir.Facts.{to_z-of_z}
use Rattle.integer.proofs.Sizes.{called, element_is}
use Rattle.problem.specs.Cost.{cost}
use Rattle.lookup.proofs.NumberSums.{number_is, cost_asks}
use Rattle.lookup.proofs.minimise.put_number.Goals as goal

pub number_at-x-requires : goal.number_at-x-requires
number_at-x-requires c = let h = c.requires in (h.0, h.2, rw (to_z-of_z c.ranges.s) h.3)

pub cost_of-requires : goal.cost_of-requires
cost_of-requires c =
    let x = c.number_at-x in
    cost_asks c.requires.2 c.args.p c.requires.0 c.args.s (number_is c.args.table.now c.args.p c.ranges.s x.type_inv x.ensures)

pub returns : goal.returns
unfolding cost
returns c =
    let x = c.number_at-x in
    let p = c.args.p in
    let number = number_is c.args.table.now p c.ranges.s x.type_inv x.ensures in
    let bounded = c.requires.2.bounded in
    record {
      stored = ap (set c.args.v.now p) number;
      value =
          called c.cost_of.result c.cost_of.type_inv
          ∙ c.cost_of.ensures ∙ rw (element_is bounded (omega arith) (7 * p), element_is bounded (omega arith) (7 * p + 3), number);
    }
