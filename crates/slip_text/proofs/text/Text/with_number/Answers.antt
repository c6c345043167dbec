use Prim.Native.Nat.{◌≤◌}
use native.Mathlib.Omega.{arith}
use lib.ListN.{length}
use Rattle.slip_text.specs.Decimal.{decimal}
use Rattle.slip_text.proofs.Appending.{appended_within}
use Rattle.slip_text.proofs.Digits.{decimal-length}
use Rattle.slip_text.proofs.text.Text.with_number.Goals as goal

twenty : (c : goal.Start) → length (decimal c.args.x) ≤ 20
twenty c = decimal-length 19 c.args.x (omega (arith, c.ranges.x))

pub with_digits-requires : goal.with_digits-requires
with_digits-requires c = omega (arith, twenty c)

pub returns : goal.returns
returns c = appended_within 20 (twenty c.before) c.with_digits.ensures
