-- x less its whole part is exact, so each test is one of exact numbers.
use Rattle.std.proofs.Common.{◌≡◌, true, false, ℤ, pos, negsuc, ◌∙◌, subst, le_trans, le_refl, arith, to_z-of_z, w64, to_z, of_z}
use lib.Ieee.{fin, binary64, lt, le, sub, neg, of_int, to_signed, of_bits, of_fields, odd, span, climb, size, units}
use Rattle.integer.proofs.Sizes.{called, fits_by, size-add, size-sub}
use Rattle.float.proofs.Signs.{passed}
use Rattle.float.proofs.Whole.{cut, whole_fits, up_test, down_test, here_test, from_low, to_high}
use Rattle.float.proofs.nearest.Goals as goal

pub truncating_f64_to_i64-whole-requires : goal.truncating_f64_to_i64-whole-requires
truncating_f64_to_i64-whole-requires c = let x = c.args.x in
    record {
      lower_bound = from_low x c.requires (passed c.well_formed.0.1);
      upper_bound = to_high x c.requires (passed c.well_formed.0.1);
    }

pub int_to_float-rest : goal.int_to_float-rest
int_to_float-rest c =
    let s = c.before.before in
    let t = c.truncating_f64_to_i64-whole in
    rw (called t.result t.type_inv, t.ensures) (whole_fits _ (le_trans (cut s.args.x s.requires (passed s.well_formed.0.1)).size (omega arith)))

pub overflow_add-result : goal.overflow_add-result
overflow_add-result c =
    let s = c.before.before.before in
    let t = c.truncating_f64_to_i64-whole in
    rw (called t.result t.type_inv, t.ensures) (fits_by _ (size-add (to_signed 63 s.args.x) (pos 1) (cut s.args.x s.requires (passed s.well_formed.0.1)).size (le_refl 1)) (omega arith))

pub returns-then-rest : goal.returns-then-rest
unfolding of_bits of_fields odd span climb size units
returns-then-rest c =
    let s = c.before.before.before in
    let t = c.truncating_f64_to_i64-whole in
    let x = s.args.x in
    let e : to_z w64 (of_z w64 t.result) ≡ to_signed 63 x = called t.result t.type_inv ∙ t.ensures in
    rw (to_z-of_z (overflow_add-result c), e)
    (up_test x s.requires (passed s.well_formed.0.1) (subst (λ (z : ℤ). le (fin false 1 (negsuc 0)) (sub binary64 x (of_int binary64 z)) ≡ true) e c.if-rest.true))

pub overflow_sub-result : goal.overflow_sub-result
overflow_sub-result c =
    let s = c.before.before.before.before in
    let t = c.truncating_f64_to_i64-whole in
    rw (called t.result t.type_inv, t.ensures) (fits_by _ (size-sub (to_signed 63 s.args.x) (pos 1) (cut s.args.x s.requires (passed s.well_formed.0.1)).size (le_refl 1)) (omega arith))

pub returns-then-rest-2 : goal.returns-then-rest-2
unfolding of_bits of_fields odd span climb size units neg
returns-then-rest-2 c =
    let s = c.before.before.before.before in
    let t = c.truncating_f64_to_i64-whole in
    let x = s.args.x in
    let e : to_z w64 (of_z w64 t.result) ≡ to_signed 63 x = called t.result t.type_inv ∙ t.ensures in
    rw (to_z-of_z (overflow_sub-result c), e)
    (down_test x s.requires (passed s.well_formed.0.1) (subst (λ (z : ℤ). lt (sub binary64 x (of_int binary64 z)) (fin true 1 (negsuc 0)) ≡ true) e c.if-rest-2.true))

pub returns : goal.returns
unfolding of_bits of_fields odd span climb size units neg
returns c =
    let s = c.before.before.before.before in
    let t = c.truncating_f64_to_i64-whole in
    let x = s.args.x in
    let e : to_z w64 (of_z w64 t.result) ≡ to_signed 63 x = called t.result t.type_inv ∙ t.ensures in
    rw e
    (here_test x s.requires (passed s.well_formed.0.1)
    (subst (λ (z : ℤ). le (fin false 1 (negsuc 0)) (sub binary64 x (of_int binary64 z)) ≡ false) e c.if-rest.false)
    (subst (λ (z : ℤ). lt (sub binary64 x (of_int binary64 z)) (fin true 1 (negsuc 0)) ≡ false) e c.if-rest-2.false))
