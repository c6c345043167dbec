use Prim.Native.Nat.{ℕ, ◌+◌, ◌*◌}
use mathlib.Core.Path.{◌≡◌, refl, sym, ap, ap₂, ◌∙◌}
use mathlib.Core.Bool.{Bool, not, ◌&&◌}
use mathlib.Core.List.{List}
use native.Mathlib.Omega.{arith}
use lib.ListN.{get_or}
use Rattle.integer.specs.Tests.{count}
use Rattle.integer.proofs.Tests.{count_cong, count_parts, count-le}
use Rattle.words.specs.Words.{bit}
use Rattle.words.proofs.Bits.{bit_of_lem}
use Rattle.words.proofs.missing_ones.Invariants.{missing}
use Rattle.words.proofs.missing_ones.Goals as goal

-- those of one word more, which is word w on both sides
one_word_more : (required given : List ℕ) (w p q : ℕ) → p ≡ w → q ≡ w → count (64 * w) (missing required given)
    + count 64 (λ b. bit (get_or required p 0) b && not (bit (get_or given q 0) b)) ≡ count (64 * (w + 1)) (missing required given)
one_word_more required given w p q e f =
    let more : 64 * w + 64 ≡ 64 * (w + 1) = omega arith in
    rw (e, f)
    (ap (λ (n : ℕ). count (64 * w) (missing required given) + n)
    (count_cong 64 (λ b. bit (get_or required w 0) b && not (bit (get_or given w 0) b)) (λ b. missing required given (64 * w + b))
    (λ b l. sym (ap₂ (λ (p q : Bool). p && not q) (bit_of_lem required w b l) (bit_of_lem given w b l))))
    ∙ sym (count_parts (64 * w) 64 (missing required given)) ∙ ap (λ (n : ℕ). count n (missing required given)) more)

pub loop-word-init : goal.loop-word-init
unfolding count
loop-word-init c = refl

-- the sum with this word's
summed : (c : goal.After-missing_in-sum) →
    let a = c.args in
    let loop = c.loop-word in
    loop.sum + c.missing_in-sum.result ≡ count (64 * (loop.word + 1)) (missing a.required.now a.given.now)
summed c =
    let a = c.args in
    let loop = c.loop-word in
    ap₂ ◌+◌ loop.invariant c.missing_in-sum.ensures ∙ one_word_more a.required.now a.given.now loop.word _ _ (omega arith) (omega arith)

pub overflow_add-sum : goal.overflow_add-sum
overflow_add-sum c =
    let a = c.args in
    let loop = c.loop-word in
    record { fits = omega (arith, summed c, count-le (64 * (loop.word + 1)) (missing a.required.now a.given.now)) }

pub loop-word-preserved : goal.loop-word-preserved
loop-word-preserved c = summed c

pub returns : goal.returns
returns c = let e : c.loop-word.word ≡ 3 = omega arith in rw e at c.loop-word.invariant
