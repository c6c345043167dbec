use Prim.Native.Nat.{◌-◌, ◌*◌}
use mathlib.Core.Path.{refl}
use native.Mathlib.Omega.{arith}
use lib.ListN.{length}
use Rattle.integer.proofs.Filled.{filled_none, filled_part, next_part}
use Rattle.integer.proofs.Sizes.{wider}
use Rattle.records.specs.Readers.{number_bytes}
use Rattle.records.proofs.Bytes.{number_bytes_length, last_absent}
use Rattle.records.proofs.write.write_duties.Goals as goal

pub write_numbers-requires : goal.write_numbers-requires
write_numbers-requires c =
    let a = c.args in
    let w = 2 * length a.duties.now in
    (next_part 0 w w (omega arith) (omega arith) (filled_none 8 {out = a.part.now} c.requires.0), refl, omega arith, wider c.requires.2 (omega arith))

pub returns : goal.returns
returns c =
    let a = c.args in
    let duties = a.duties.now in
    let w = 2 * length duties in
    let f = filled_part 0 w w (number_bytes 2 duties) (omega arith) (omega arith) (number_bytes_length 2 duties) (filled_none 8 {out = a.part.now} c.requires.0) c.write_numbers.ensures in
    last_absent w (8 - w) (omega arith) f (c.fill.ensures.after (λ y e. e))
