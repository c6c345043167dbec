use Prim.Native.Nat.{ℕ, ◌+◌, ◌*◌}
use mathlib.Core.Path.{sym, ap, ◌∙◌}
use mathlib.Core.Bool.{Bool, ◌&&◌}
use native.Mathlib.Omega.{arith}
use native.Mathlib.Nat.{add_assoc}
use lib.Dec.{ltb}
use Rattle.integer.proofs.Tests.{count_cong, count-first, any-count}
use Rattle.words.specs.Words.{bit}
use Rattle.commands.specs.Marks.{reference_place, marked}
use Rattle.commands.specs.Required.{curved}
use Rattle.marks.proofs.is_curved.Goals as goal

pub returns : goal.returns
unfolding curved
returns c =
    let a = c.args in
    let step : ℕ → Bool = λ k. marked a.given.now (reference_place + (12 * a.column + k)) in
    ap (ltb 0)
    (c.ones.ensures
    ∙ count_cong 64 (bit c.pack.result) (λ k. ltb k a.horizon && step k)
    (λ k h. c.pack.ensures.each k h
    ∙ ap (λ (p : ℕ). ltb k a.horizon && marked a.given.now p) (add_assoc reference_place (12 * a.column) k))
    ∙ count-first 64 a.horizon step (omega arith))
    ∙ sym (any-count a.horizon step)
