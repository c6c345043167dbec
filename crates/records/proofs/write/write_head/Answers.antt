use mathlib.Core.Path.{refl}
use native.Mathlib.Omega.{arith}
use Rattle.integer.proofs.Filled.{filled_none, filled_whole}
use Rattle.records.proofs.Bytes.{filled_unsigned}
use Rattle.records.proofs.write.write_head.Goals as goal

pub returns : goal.returns
returns c =
    let a = c.args in
    let f1 = filled_unsigned 0 1 1 refl (omega arith) (filled_none 4 {out = a.part.now} c.requires) a.kind c.write_unsigned.ensures in
    let f2 = filled_unsigned 1 2 1 refl (omega arith) f1 a.duties c.write_unsigned-2.ensures in
    filled_whole (filled_unsigned 2 4 2 refl (omega arith) f2 a.rounds c.write_unsigned-3.ensures)
