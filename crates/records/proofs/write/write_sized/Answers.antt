use mathlib.Core.Path.{refl}
use native.Mathlib.Omega.{arith}
use Rattle.integer.proofs.Filled.{filled_none, filled_part, filled_whole}
use Rattle.records.proofs.Bytes.{filled_unsigned}
use Rattle.records.proofs.write.write_sized.Goals as goal

pub returns : goal.returns
returns c =
    let a = c.args in
    let f1 = filled_part 0 16 16 a.laboratory.now refl (omega arith) c.requires.1 (filled_none 19 {out = a.part.now} c.requires.0) c.copy_from_slice.ensures.after in
    let f2 = filled_unsigned 16 17 1 refl (omega arith) f1 a.sizes.n c.write_unsigned.ensures in
    let f3 = filled_unsigned 17 18 1 refl (omega arith) f2 a.sizes.m c.write_unsigned-2.ensures in
    filled_whole (filled_unsigned 18 19 1 refl (omega arith) f3 a.sizes.horizon c.write_unsigned-3.ensures)
