use Prim.Native.Nat.{◌+◌, ◌*◌}
use mathlib.Core.Path.{◌≡◌, refl}
use native.Mathlib.Omega.{arith}
use lib.ListN.{length}
use Rattle.integer.proofs.Sizes.{wider}
use Rattle.records.specs.Readers.{number_bytes, plan_count, service_length}
use Rattle.records.proofs.Bytes.{last_part, filled_last, service_split, front_filled, number_bytes_length}
use Rattle.records.proofs.write.write_impossible.Goals as goal

pub write_numbers-requires : goal.write_numbers-requires
write_numbers-requires c =
    let z = c.args.sizes in
    let p = plan_count z in
    let q = length c.args.multipliers.now in
    let f = front_filled 2 c.args.rounds z c.args.service.now c.requires.1 c.write_without_plan.ensures.front_after in (
      last_part (19 + 4 * p) (4 * q) (omega (arith, service_split z, c.requires.2.outcome.long)) f,
      refl,
      omega arith,
      wider c.requires.2.outcome.within (omega arith),
    )

pub returns : goal.returns
returns c =
    let z = c.args.sizes in
    let p = plan_count z in
    let y = c.args.multipliers.now in
    let q = length y in
    let e : 19 + 4 * p + 4 * q ≡ service_length z = omega (arith, service_split z, c.requires.2.outcome.long) in
    let f = front_filled 2 c.args.rounds z c.args.service.now c.requires.1 c.write_without_plan.ensures.front_after in
    record {
      laboratory_after = c.write_without_plan.ensures.laboratory_after;
      service_after = filled_last (19 + 4 * p) (4 * q) e f (number_bytes 4 y) (number_bytes_length 4 y) c.write_numbers.ensures;
    }
