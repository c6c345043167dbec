use Prim.Native.Nat.{◌+◌}
use mathlib.Core.Path.{◌≡◌}
use mathlib.Core.List.{[], ◌∷◌, ◌++◌}
use native.Mathlib.Numerals.{add-one}
use native.Mathlib.Omega.{arith}
use lib.ListN.{length, take, get_or}
use lib.Seq.{take-suc, take-length}
use Rattle.slip_text.proofs.Appending.{appended_none, appended_then}
use Rattle.slip_text.proofs.text.Text.with_word.Goals as goal

pub loop-b-init : goal.loop-b-init
loop-b-init c = appended_none _

pub loop-b-preserved : goal.loop-b-preserved
loop-b-preserved c =
    let w = c.args.word.now in
    let i = c.loop-b.b-index in
    let e : take (i + 1) w ≡ take i w ++ (get_or w i 0 ∷ []) = rw add-one (take-suc w i 0 c.loop-b-test.true) in
    rw e (appended_then c.loop-b.invariant c.with_byte-text.ensures)

pub returns : goal.returns
returns c =
    let w = c.args.word.now in
    let e : c.loop-b.b-index ≡ length w = omega arith in
    rw (e, take-length w) at c.loop-b.invariant
