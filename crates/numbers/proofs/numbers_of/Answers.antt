use mathlib.Core.Path.{refl}
use mathlib.Core.List.{[], ◌∷◌}
use native.Mathlib.Omega.{arith}
use lib.ListN.{replicate, length-replicate}
use lib.IntN.{pos}
use mir.Syntax.{w64}
use mir.Val.{SFits}
use mir.Facts.{to_z-of_z, to_z_pos}
use Rattle.integer.proofs.Filled.{filled_none, filled_more, filled_whole}
use Rattle.integer.proofs.Sizes.{fitting}
use Rattle.numbers.proofs.numbers_of.Goals as goal

pub returns : goal.returns
returns c =
    let t = c.args.t.now in
    let gain : SFits w64 t.gain = omega (arith, fitting, c.requires.gain) in
    let wanted : SFits w64 t.wanted = omega (arith, fitting, c.requires.wanted) in
    let f1 = filled_more 0 3 {new = c.put.new.out} (pos t.n ∷ pos t.m ∷ pos t.horizon ∷ []) refl (filled_none 118 {out = replicate 118 (pos 0)} (length-replicate 118 (pos 0)))
    (rw (to_z_pos w64 {n = t.n} (omega arith), to_z_pos w64 {n = t.m} (omega arith), to_z_pos w64 {n = t.horizon} (omega arith)) at c.put.ensures) in
    let f2 = filled_more 3 36 t.a (omega arith) f1 c.put-2.ensures in
    let f3 = filled_more 39 24 t.b (omega arith) f2 c.put-3.ensures in
    let f4 = filled_more 63 6 t.drift (omega arith) f3 c.put-4.ensures in
    let f5 = filled_more 69 10 t.low (omega arith) f4 c.put-5.ensures in
    let f6 = filled_more 79 10 t.high (omega arith) f5 c.put-6.ensures in
    let f7 = filled_more 89 10 t.reference (omega arith) f6 c.put-7.ensures in
    let f8 = filled_more 99 10 t.weight (omega arith) f7 c.put-8.ensures in
    let f9 = filled_more 109 6 t.start (omega arith) f8 c.put-9.ensures in
    filled_whole
    (filled_more 115 3 (t.gain ∷ pos t.rounds ∷ t.wanted ∷ []) refl f9
    (rw (to_z-of_z gain, to_z_pos w64 {n = t.rounds} (omega arith), to_z-of_z wanted) at c.put-10.ensures))
