use Prim.Native.Nat.{ℕ, ◌+◌}
use mathlib.Core.Path.{ap, ap₂, ◌∙◌}
use mathlib.Core.Bool.{Bool, not, ◌&&◌}
use mathlib.Core.Logic.{inl, inr}
use native.Mathlib.Omega.{arith}
use Rattle.integer.proofs.Tests.{count_cong, count_stretch}
use Rattle.words.specs.Words.{bit_of}
use Rattle.commands.specs.Marks.{column_place, place_count, marked}
use Rattle.commands.specs.Required.{required}
use Rattle.marks.specs.Missing.{missing}
use Rattle.marks.proofs.Places.{not_required}
use Rattle.marks.proofs.count_missing.Goals as goal

-- the words have every place that can be required
pub returns : goal.returns
unfolding missing
returns c =
    let start = c.before.before.before.before.before in
    let a = start.args in
    let given = a.given.now in
    let asked : ℕ → Bool = required a.n a.m a.horizon given in
    let absent : ℕ → Bool = λ p. asked p && not (marked given p) in
    let words = c.required_words-required in
    let marks = c.mark_words-marks in
    c.missing_ones.ensures
    ∙ count_cong 192 (λ i. bit_of words.result i && not (bit_of marks.result i)) (λ i. absent (column_place + i))
    (λ i h. ap₂ (λ (p q : Bool). p && not q) (words.ensures.each i h) (marks.ensures.each i h))
    ∙ count_stretch column_place 192 place_count absent (omega arith)
    (λ p h. ap (λ (t : Bool). t && not (marked given p)) (not_required a.n a.m a.horizon given p start.requires (inl h)))
    (λ p h. ap (λ (t : Bool). t && not (marked given p)) (not_required a.n a.m a.horizon given p start.requires (inr h)))
