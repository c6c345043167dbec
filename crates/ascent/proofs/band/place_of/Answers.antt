use mathlib.Core.Path.{refl}
use native.Mathlib.Omega.{arith}
use Rattle.ascent.proofs.Places.{place_small}
use Rattle.ascent.proofs.band.place_of.Goals as goal

pub overflow_mul-result : goal.overflow_mul-result
overflow_mul-result c = omega (arith, place_small c.args.a c.args.n c.requires.0 c.requires.1 c.requires.2)

pub overflow_add-result : goal.overflow_add-result
overflow_add-result c = omega (arith, place_small c.args.a c.args.n c.requires.0 c.requires.1 c.requires.2)

pub returns : goal.returns
returns c = (refl, place_small c.args.a c.args.n c.requires.0 c.requires.1 c.requires.2)
