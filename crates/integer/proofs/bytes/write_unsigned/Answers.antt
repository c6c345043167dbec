use native.Mathlib.Omega.{arith}
use Rattle.integer.proofs.Encoding.{bytes_none, bytes_more, bytes_whole}
use Rattle.integer.proofs.bytes.write_unsigned.Goals as goal

pub loop-byte-init : goal.loop-byte-init
loop-byte-init c = bytes_none c.args.number c.args.part.now

pub loop-byte-preserved : goal.loop-byte-preserved
loop-byte-preserved c = let b = c.loop-byte.invariant in bytes_more b (omega (arith, b.long))

pub shape_of-part : goal.shape_of-part
shape_of-part c = c.loop-byte.invariant.long

pub returns : goal.returns
returns c = let b = c.loop-byte.invariant in bytes_whole b (omega (arith, b.long))
