use mathlib.Core.Path.{refl, ap, ◌∙◌}
use native.Mathlib.Omega.{arith}
use lib.ListN.{length}
use lib.IntN.{nat_abs}
use mir.Facts.{to_z-of_z}
use Rattle.integer.specs.Encoding.{unsigned_bytes}
use Rattle.integer.proofs.Filled.{filled_none, filled_part, filled_whole}
use Rattle.records.specs.Readers.{head, duty_bytes}
use Rattle.records.proofs.Bytes.{head-length, duty_bytes_length, filled_unsigned}
use Rattle.records.proofs.write.write_laboratory.Goals as goal

pub returns : goal.returns
returns c =
    let a = c.args in
    let duties = a.duties.now in
    let f1 = filled_part 0 4 4 (head 1 (length duties) a.rounds) refl (omega arith) (head-length 1 (length duties) a.rounds) (filled_none 16 {out = a.part.now} c.requires.0) c.write_head.ensures in
    let f2 = filled_unsigned 4 8 4 refl (omega arith) f1 (nat_abs a.gap) (c.write_unsigned.ensures ∙ ap (unsigned_bytes _) (c.size.ensures ∙ ap nat_abs (to_z-of_z c.ranges.gap))) in
    filled_whole (filled_part 8 16 8 (duty_bytes duties) refl (omega arith) (duty_bytes_length duties c.requires.1) f2 c.write_duties.ensures)
