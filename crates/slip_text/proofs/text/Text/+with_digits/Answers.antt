use Prim.Native.Nat.{ℕ, ◌<◌, ◌≤◌, ◌+◌, ◌/◌}
use mathlib.Core.Path.{◌≡◌}
use native.Mathlib.Omega.{arith}
use lib.ListN.{length, length-append}
use Rattle.slip_text.specs.Decimal.{decimal}
use Rattle.slip_text.proofs.Appending.{appended_then}
use Rattle.slip_text.proofs.Digits.{decimal_one, decimal_more}
use Rattle.slip_text.proofs.text.Text.+with_digits.Goals as goal

one_byte : (x : ℕ) → x < 10 → length (decimal x) ≡ 1
one_byte x h = rw (decimal_one x h)

byte_more : (x : ℕ) → 10 ≤ x → length (decimal x) ≡ length (decimal (x / 10)) + 1
byte_more x h = rw (decimal_more x h, length-append)

pub with_byte-requires : goal.with_byte-requires
with_byte-requires t c = omega (arith, one_byte c.args.x (omega arith))

pub returns-then-x-lt10 : goal.returns-then-x-lt10
returns-then-x-lt10 t c = rw (decimal_one c.args.x (omega arith)) c.with_byte.ensures

pub with_digits-front-requires : goal.with_digits-front-requires
with_digits-front-requires t c = (omega arith, omega (arith, byte_more c.args.x (omega arith)))

pub with_byte-requires-2 : goal.with_byte-requires-2
with_byte-requires-2 t c = omega (arith, c.with_digits-front.ensures.longer, byte_more c.args.x (omega arith))

pub returns : goal.returns
returns t c = rw (decimal_more c.args.x (omega arith), length-append) (appended_then c.with_digits-front.ensures c.with_byte-2.ensures)
