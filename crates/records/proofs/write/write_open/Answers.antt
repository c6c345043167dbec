use Prim.Native.Nat.{◌+◌, ◌*◌}
use mathlib.Core.Path.{sym}
use Rattle.records.specs.Readers.{plan_count, multiplier_count}
use Rattle.records.proofs.Bytes.{last_absent, service_split, front_filled}
use Rattle.records.proofs.write.write_open.Goals as goal

pub returns : goal.returns
returns c =
    let z = c.args.sizes in
    let p = plan_count z in
    let q = multiplier_count z in
    let f = front_filled 3 c.args.rounds z c.args.service.now c.requires.1 c.write_without_plan.ensures.front_after in
    record {
      laboratory_after = c.write_without_plan.ensures.laboratory_after;
      service_after = last_absent (19 + 4 * p) (4 * q) (sym (service_split z)) f (c.fill.ensures.after (λ y e. e));
    }
