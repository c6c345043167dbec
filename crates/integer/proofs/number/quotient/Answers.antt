use Rattle.std.proofs.Common.{rules}
use Rattle.integer.proofs.Quotient.{euclid_quotient}
use Rattle.integer.proofs.number.quotient.Goals as goal

pub returns : goal.returns
returns c = let told = euclid_quotient c.args.x c.args.d c.requires in search rules
