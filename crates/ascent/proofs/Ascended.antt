-- What the array functions of step 4 fill: a padded array that holds the next multipliers.
use Prim.Native.Nat.{ℕ, ◌+◌, ◌*◌, ◌/◌, ◌%◌, ◌<◌, ◌≤◌}
use mathlib.Core.Path.{◌≡◌, refl, sym, ap, ◌∙◌}
use mathlib.Core.Bool.{Bool, true, false, cond}
use mathlib.Core.List.{List}
use native.Mathlib.Nat.{div-add-mod', div-lt_iff_lt-mul, mod-lt}
use native.Mathlib.Omega.{arith}
use lib.Dec.{ltb}
use lib.ListN.{replicate}
use lib.IntN.{ℤ, pos, nat_abs}
use lib.Ieee.{Float}
use borrow.Author.Tests.{lt-ltb, le-ltb}
use Rattle.integer.specs.Places.{at, Stretch}
use Rattle.integer.proofs.Places.{step_room}
use Rattle.commands.specs.Ranges.{most_multiplier}
use Rattle.tape.specs.declared.Tape.{Tape}
use Rattle.tape.specs.Legal.{Legal}
use Rattle.problem.specs.Model.{problem_of}
use Rattle.primal.specs.Padded.{padded}
use Rattle.primal.specs.Lent.{lent_of}
use Rattle.primal.proofs.Lent.{lent_multipliers_at}
use Rattle.primal.proofs.Filled.{held_multipliers}
use Rattle.steps.specs.Steps.{ascended}
use Rattle.steps.proofs.Blank.{size-ascended}
use Rattle.banded.specs.Floats.{float, float_at}
use Rattle.banded.specs.Step.{banded_correction, uses_band}
use Rattle.banded.specs.Rows.{Holds}
use Rattle.ascent.specs.Correction.{whole_nearest, correction}
use Rattle.ascent.specs.Held.{HeldStep, Ascended, banded_next}

module _ (t : Tape) (legal : Legal t) {ahead e : List ℤ} (held : HeldStep t ahead e) where
  residual-at : (k i : ℕ) → k < t.horizon → i < t.n → at (lent_of t e) (k * t.n + i) ≡ padded e k i
  residual-at = lent_multipliers_at t.n t.horizon (padded e)

  -- the residuals by rows, as right sides
  pub sides-held : {l : List Float} → Holds (t.horizon * t.n) (λ a. float (at e (6 * (a / t.n) + a % t.n))) l
      → Holds (t.horizon * t.n) (λ a. float (at (lent_of t e) a)) l
  sides-held h = record { each = λ a m. h.each a m ∙ ap float (sym (here a m)) }
    where
      here : (a : ℕ) → a < t.horizon * t.n → at (lent_of t e) a ≡ at e (6 * (a / t.n) + a % t.n)
      here a m =
          let some = legal.states.0 in
          let k : a / t.n < t.horizon = (div-lt_iff_lt-mul {k = t.n} {x = a} {y = t.horizon} (omega arith)).1 m in
          ap (at (lent_of t e)) (sym (div-add-mod' a t.n)) ∙ residual-at (a / t.n) (a % t.n) k (mod-lt a (omega arith))

  module _ {d : List Float} (on : uses_band t ≡ true) (solved : Holds (t.horizon * t.n) (banded_correction (problem_of t) (lent_of t e)) d) where
    band_correction : (k i : ℕ) → k < t.horizon → i < t.n → whole_nearest (float_at d (k * t.n + i)) ≡ correction t (lent_of t e) (k * t.n + i)
    unfolding correction
    band_correction k i a b = rw on (ap whole_nearest (solved.each (k * t.n + i) (omega (arith, step_room t.n k t.horizon a))))

    abbrev number : ℕ → ℤ
    number p = banded_next t.n ahead d p

    size : (p : ℕ) → nat_abs (number p) ≤ most_multiplier
    size p = either (ltb (p % 6) t.n)
      where
        either : (b : Bool) → nat_abs (cond b (ascended (at ahead p) (whole_nearest (float_at d (p / 6 * t.n + p % 6)))) (pos 0)) ≤ most_multiplier
        either true = size-ascended (at ahead p) _
        either false = omega arith

    blank : (k i : ℕ) → t.n ≤ i → i < 6 → number (6 * k + i) ≡ pos 0
    blank k i m o =
        let r : (6 * k + i) % 6 ≡ i = omega arith in
        rw (r, le-ltb i t.n m) refl

    same : (k i : ℕ) → k < t.horizon → i < t.n → number (6 * k + i) ≡ ascended (padded ahead k i) (correction t (lent_of t e) (k * t.n + i))
    same k i a b =
        let few = legal.states.1 in
        let r : (6 * k + i) % 6 ≡ i = omega arith in
        let q : (6 * k + i) / 6 ≡ k = omega arith in
        rw (r, q, lt-ltb i t.n b) (ap (ascended (padded ahead k i)) (band_correction k i a b))

    pub band_ascended : {l : List ℤ} → Stretch 0 (6 * t.horizon) (banded_next t.n ahead d) (replicate 72 (pos 0)) l → Ascended t ahead e l
    band_ascended fill =
        let h = held_multipliers legal.states.1 fill size (λ k i _ m o. blank k i m o) in
        record { same = λ k i a b. h.same k i a b ∙ same k i a b; blank = h.blank; bounded = h.bounded }
