-- Each test is one of exact numbers.
use Prim.Native.Nat.{◌≤◌}
use mathlib.Core.Path.{◌≡◌, ap, ◌∙◌, subst}
use mathlib.Core.Bool.{true, false}
use native.Mathlib.Omega.{arith}
use native.Mathlib.Nat.{le_trans}
use lib.Dec.{T}
use lib.IntN.{ℤ, nat_abs}
use lib.Ieee.{binary64, eq, sub, neg, fits, of_int, of_bits, of_fields, odd, span, climb, size, units}
use mir.Syntax.{w64}
use mir.Val.{to_z, of_z}
use Rattle.integer.proofs.Sizes.{called}
use Rattle.float.specs.Value.{finite}
use Rattle.float.proofs.Signs.{passed}
use Rattle.float.proofs.Finite.{finite_of, not_finite}
use Rattle.float.proofs.Whole.{whole_fits}
use Rattle.import.specs.Entries.{number}
use Rattle.import.proofs.Bounds.{too_high, too_low, within}
use Rattle.import.proofs.Product.{product, product_within, product_number, is_whole, not_whole, leftover_is}
use Rattle.import.proofs.Meaning.{nothing_left, is_number, not_finite_answers, large_answers, whole_answers, near_answers}
use Rattle.import.proofs.import_entry.Goals as goal
use Rattle.import.proofs.import_entry.Goals.{Else-entry, Else-entry-3, After-nearest-number}

-- what the first test has found
module _ (c : Else-entry) where
  fitting : T (fits binary64 c.args.entry)
  fitting = passed c.well_formed.0.1

  is_finite : finite c.args.entry ≡ true
  unfolding of_bits of_fields odd
  is_finite = finite_of c.args.entry c.if-entry.false

-- and the two of the range
in_range : (c : Else-entry-3) → nat_abs (number c.args.entry) ≤ 16384
unfolding of_bits of_fields odd span climb size units neg
in_range c = within c.args.entry (passed (finite_of c.args.entry c.if-entry.false)) c.if-entry-2.false c.if-entry-3.false

-- the call gave the entry's number
given : (c : After-nearest-number) → nat_abs (number c.args.entry) ≤ 16384 → to_z w64 (of_z w64 c.nearest-number.result) ≡ number c.args.entry
unfolding of_bits of_fields odd span climb size units
given c l =
    called c.nearest-number.result c.nearest-number.type_inv ∙ c.nearest-number.ensures
    ∙ product_number c.args.entry (passed (finite_of c.args.entry c.if-entry.false)) (passed c.well_formed.0.1) l

pub returns-then-entry : goal.returns-then-entry
unfolding of_bits of_fields odd
returns-then-entry c =
    let a = c.args.entry in
    let w = passed c.well_formed.0.1 in
    let r = not_finite_answers a w (not_finite a w c.if-entry.true) in
    record { value = r.0; exact = r.1 }

pub returns-then-entry-2 : goal.returns-then-entry-2
unfolding of_bits of_fields odd span climb size units
returns-then-entry-2 c =
    let e = (goal.at.returns-then-entry-2 c).Else-entry in
    let f = is_finite e in
    let r = large_answers c.args.entry (fitting e) f (too_high c.args.entry (passed f) c.if-entry-2.true) in
    record { value = r.0; exact = r.1 }

pub returns-then-entry-3 : goal.returns-then-entry-3
unfolding of_bits of_fields odd span climb size units neg
returns-then-entry-3 c =
    let e = (goal.at.returns-then-entry-3 c).Else-entry in
    let f = is_finite e in
    let r = large_answers c.args.entry (fitting e) f (too_low c.args.entry (passed f) c.if-entry-3.true) in
    record { value = r.0; exact = r.1 }

pub nearest-number-requires : goal.nearest-number-requires
unfolding of_bits of_fields odd span climb size units
nearest-number-requires c =
    let w = goal.at.nearest-number-requires c in
    product_within c.args.entry (passed (is_finite w.Else-entry)) (fitting w.Else-entry) (in_range w.Else-entry-3)

pub int_to_float-whole : goal.int_to_float-whole
int_to_float-whole c =
    let w = goal.at.int_to_float-whole c in
    let l = in_range w.Else-entry-3 in
    rw (given w.After-nearest-number l) (whole_fits _ (le_trans l (omega arith)))

pub returns-then-product-whole : goal.returns-then-product-whole
unfolding of_bits of_fields odd span climb size units
returns-then-product-whole c =
    let w = goal.at.returns-then-product-whole c in
    let a = c.args.entry in
    let f = is_finite w.Else-entry in
    let l = in_range w.Else-entry-3 in
    let n = given w.After-nearest-number l in
    let t = subst (λ (z : ℤ). eq (product a) (of_int binary64 z) ≡ true) n c.if-product-whole.true in
    let r = whole_answers a (fitting w.Else-entry) f l (nothing_left a (passed f) (is_whole a (passed f) (fitting w.Else-entry) l t)) n in
    record { value = r.0; exact = r.1 }

pub returns : goal.returns
unfolding of_bits of_fields odd span climb size units
returns c =
    let w = goal.at.returns c in
    let a = c.args.entry in
    let f = is_finite w.Else-entry in
    let l = in_range w.Else-entry-3 in
    let n = given w.After-nearest-number l in
    let t = subst (λ (z : ℤ). eq (product a) (of_int binary64 z) ≡ false) n c.if-product-whole.false in
    let u = not_whole a (passed f) (fitting w.Else-entry) l t in
    let r = near_answers a (fitting w.Else-entry) f l (λ z. u (is_number a (passed f) z)) n
    (ap (λ (z : ℤ). sub binary64 (product a) (of_int binary64 z)) n ∙ leftover_is a (passed f) (fitting w.Else-entry) l u) in
    record { value = r.0; exact = r.1 }
