-- The answer by its tests, in their order.
use Prim.Native.Nat.{ℕ, ◌*◌}
use mathlib.Core.Path.{◌≡◌, refl}
use mathlib.Core.Bool.{true, false}
use mathlib.Core.List.{List}
use lib.ListN.{length}
use lib.IntN.{ℤ}
use borrow.Author.Tests.{eq-eqb, ne_eqb}
use Rattle.std.specs.Prelude.{Ok, Err}
use Rattle.tape.specs.declared.Tape.{Tape}
use Rattle.tape.specs.declared.refusal.Refusal.TheVariants.{Length, ArgumentOutOfRange}
use Rattle.banded.specs.Step.{uses_band}
use Rattle.corrections.specs.declared.Corrected.TheVariants.{Written, Unused}
use Rattle.corrections.specs.Corrections.{wrong_residuals, corrected_on}

module _ (t : Tape) (e : List ℤ) (p d : ℕ) where
  abbrev rows : ℕ
  rows = t.horizon * t.n

  pub no_residuals : (length e ≡ rows → ⊥) → Err Length ≡ corrected_on t e p d
  unfolding corrected_on
  no_residuals h = rw (ne_eqb (length e) rows h) refl

  module _ (first : length e ≡ rows) where
    pub no_pivots : (p ≡ rows → ⊥) → Err Length ≡ corrected_on t e p d
    unfolding corrected_on
    no_pivots h = rw (eq-eqb (length e) rows first, ne_eqb p rows h) refl

    module _ (second : p ≡ rows) where
      pub no_correction : (d ≡ rows → ⊥) → Err Length ≡ corrected_on t e p d
      unfolding corrected_on
      no_correction h = rw (eq-eqb (length e) rows first, eq-eqb p rows second, ne_eqb d rows h) refl

      module _ (third : d ≡ rows) where
        pub beyond : wrong_residuals e ≡ true → Err ArgumentOutOfRange ≡ corrected_on t e p d
        unfolding corrected_on
        beyond h = rw (eq-eqb (length e) rows first, eq-eqb p rows second, eq-eqb d rows third, h) refl

        pub used : wrong_residuals e ≡ false → uses_band t ≡ true → Ok Written ≡ corrected_on t e p d
        unfolding corrected_on
        used h u = rw (eq-eqb (length e) rows first, eq-eqb p rows second, eq-eqb d rows third, h, u) refl

        pub unused : wrong_residuals e ≡ false → uses_band t ≡ false → Ok Unused ≡ corrected_on t e p d
        unfolding corrected_on
        unused h u = rw (eq-eqb (length e) rows first, eq-eqb p rows second, eq-eqb d rows third, h, u) refl
