use Prim.Native.Nat.{◌-◌, ◌^◌}
use mathlib.Core.Path.{◌∙◌}
use mathlib.Core.Bool.{not, ◌&&◌}
use native.Mathlib.Omega.{arith}
use lib.Bits.{bit_and}
use Rattle.integer.proofs.Tests.{count_cong}
use Rattle.words.specs.Words.{bit}
use Rattle.words.proofs.Bits.{bit_without}
use Rattle.words.proofs.missing_in.Goals as goal

pub returns : goal.returns
returns c =
    let x = c.args.required in
    let y = c.args.given in
    c.ones.ensures
    ∙ count_cong 64 (bit (bit_and x (2 ^ 64 - 1 - y))) (λ b. bit x b && not (bit y b))
    (λ b h. bit_without 64 x y b (omega arith) h)
