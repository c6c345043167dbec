use mathlib.Core.Path.{◌≡◌, refl, sym, ◌∙◌}
use mathlib.Core.Bool.{false}
use mathlib.Core.List.{List}
use native.Mathlib.Omega.{arith}
use lib.ListN.{length}
use lib.IntN.{ℤ}
use Rattle.integer.specs.Places.{at, Bounded}
use Rattle.integer.proofs.Places.{all_bounded}
use Rattle.integer.proofs.Tests.{any_none, in_size}
use Rattle.corrections.specs.Corrections.{most_given, wrong_residuals}
use Rattle.corrections.proofs.Answers.{no_residuals, no_pivots, no_correction, beyond, used, unused}
use Rattle.corrections.proofs.correct.Goals as goal

bounded : (e : List ℤ) → wrong_residuals e ≡ false → Bounded most_given e
bounded e within = all_bounded e (length e) refl (λ p h. in_size most_given (at e p) (any_none (length e) p _ h within))

pub returns-then-residuals-count : goal.returns-then-residuals-count
returns-then-residuals-count c =
    record {
      value = no_residuals c.args.t c.args.residuals.now _ _ (λ z. c.if-residuals-count.true (z ∙ sym c.row_count-count.ensures.0));
      pivots_after = refl;
      correction_after = refl;
    }

pub returns-then-pivots-count : goal.returns-then-pivots-count
returns-then-pivots-count c =
    let n = c.row_count-count.ensures.0 in
    record {
      value = no_pivots c.args.t c.args.residuals.now _ _ (c.if-residuals-count.false ∙ n) (λ z. c.if-pivots-count.true (z ∙ sym n));
      pivots_after = refl;
      correction_after = refl;
    }

pub returns-then-correction-count : goal.returns-then-correction-count
returns-then-correction-count c =
    let n = c.row_count-count.ensures.0 in
    record {
      value = no_correction c.args.t c.args.residuals.now _ _ (c.if-residuals-count.false ∙ n) (c.if-pivots-count.false ∙ n) (λ z. c.if-correction-count.true (z ∙ sym n));
      pivots_after = refl;
      correction_after = refl;
    }

pub returns-then-is_any_outside : goal.returns-then-is_any_outside
returns-then-is_any_outside c =
    let n = c.row_count-count.ensures.0 in
    record {
      value = beyond c.args.t c.args.residuals.now _ _ (c.if-residuals-count.false ∙ n) (c.if-pivots-count.false ∙ n) (c.if-correction-count.false ∙ n)
          (sym c.is_any_outside.ensures ∙ c.if-is_any_outside.true);
      pivots_after = refl;
      correction_after = refl;
    }

pub write_correction-requires : goal.write_correction-requires
write_correction-requires c =
    let n = c.row_count-count.ensures in
    let first = c.if-residuals-count.false in
    let l = c.requires.states in
    (omega (arith, first, n.0, n.1, l.1), c.if-correction-count.false ∙ sym first, omega arith, bounded _ (sym c.is_any_outside.ensures ∙ c.if-is_any_outside.false))

pub returns-in-Some : goal.returns-in-Some
returns-in-Some c =
    let n = c.row_count-count.ensures.0 in
    let first = c.if-residuals-count.false ∙ n in
    let second = c.if-pivots-count.false ∙ n in
    let f = rw c.in-Some.is at c.factored_of.ensures in
    record {
      value = used c.args.t c.args.residuals.now _ _ first second (c.if-correction-count.false ∙ n) (sym c.is_any_outside.ensures ∙ c.if-is_any_outside.false) f.0;
      pivots_after = rw second at c.write_pivots.ensures _ _ f.1;
      correction_after = rw first at c.write_correction.ensures _ f.1;
    }

pub returns : goal.returns
returns c =
    let n = c.row_count-count.ensures.0 in
    let f = rw c.in_default.is at c.factored_of.ensures in
    record {
      value = unused c.args.t c.args.residuals.now _ _ (c.if-residuals-count.false ∙ n) (c.if-pivots-count.false ∙ n) (c.if-correction-count.false ∙ n)
          (sym c.is_any_outside.ensures ∙ c.if-is_any_outside.false) f;
      pivots_after = refl;
      correction_after = refl;
    }
