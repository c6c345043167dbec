use mathlib.Core.Path.{refl}
use native.Mathlib.Omega.{arith}
use Rattle.integer.proofs.Filled.{filled_none, filled_part, filled_whole}
use Rattle.records.specs.Readers.{head}
use Rattle.records.proofs.Bytes.{head-length, filled_absent}
use Rattle.records.proofs.write.write_unproved.Goals as goal

pub returns : goal.returns
returns c =
    let a = c.args in
    let f = filled_part 0 4 4 (head a.kind 0 a.rounds) refl (omega arith) (head-length a.kind 0 a.rounds) (filled_none 16 {out = a.part.now} c.requires) c.write_head.ensures in
    filled_whole (filled_absent 8 16 8 refl (omega arith) (filled_absent 4 8 4 refl (omega arith) f (c.fill.ensures.after (λ y e. e))) (c.fill-2.ensures.after (λ y e. e)))
