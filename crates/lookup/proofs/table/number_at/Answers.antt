use Prim.Native.Nat.{ℕ, ◌+◌, ◌*◌, ◌/◌, ◌≤◌}
use mathlib.Core.Path.{◌≡◌, ◌∙◌}
use native.Mathlib.Omega.{arith}
use native.Mathlib.Nat.{le_trans}
use lib.IntN.{ℤ, pos, nat_abs, ◌+ℤ◌, ◌-ℤ◌}
use mir.Syntax.{w64}
use mir.Val.{to_z}
use mir.Facts.{to_z-of_z, to_z_pos}
use Rattle.integer.specs.Places.{at}
use Rattle.integer.proofs.Sizes.{size-add, size-sub, fits_by, casts, called, back, element_is, Formed, formed}
use Rattle.problem.specs.declared.Term.{Term}
use Rattle.primal.specs.Ranges.{most_penalty, Ranged}
use Rattle.lookup.specs.Table.{term_in, centre, span, inverse}
use Rattle.lookup.proofs.RowSizes.{scaled, product, size-centre, inverse_nonneg, size-inverse, size-span, scaled_nonneg, size-scaled, size_product}
use Rattle.lookup.proofs.ByRow.{number_by, by_row}
use Rattle.lookup.proofs.table.number_at.Goals as goal
use Rattle.lookup.proofs.table.number_at.Tie as tie
use Rattle.lookup.proofs.table.number_at.Reads as reads
use Rattle.lookup.proofs.table.number_at.Lts as lts

module _ (c : lts.Start tie.the-claims reads.Pre reads.Post) where
  abbrev t : Term
  t = term_in c.args.table.now c.args.p

  abbrev s : ℤ
  s = c.args.s

  g : Ranged t
  g = c.requires.1.ranged c.args.p c.requires.0

  element : (j : ℕ) → back (at c.args.table.now (7 * c.args.p + j)) ≡ at c.args.table.now (7 * c.args.p + j)
  element j = element_is c.requires.1.bounded (omega arith) (7 * c.args.p + j)

  centre_is : back (at c.args.table.now (7 * c.args.p + 4)) ≡ centre t
  centre_is = element 4 ∙ c.requires.1.centred c.args.p c.requires.0

  span_is : back (at c.args.table.now (7 * c.args.p + 5)) ≡ span t
  span_is = element 5 ∙ c.requires.1.spanned c.args.p c.requires.0

  inverse_is : back (at c.args.table.now (7 * c.args.p + 6)) ≡ inverse t
  inverse_is = element 6 ∙ c.requires.1.inverted c.args.p c.requires.0

  less : Formed (back (at c.args.table.now (7 * c.args.p + 4)) -ℤ back s) (centre t -ℤ s)
  less = formed (rw (centre_is, to_z-of_z c.ranges.s)) (size-sub (centre t) s (size-centre g) c.requires.2) (omega arith)

pub overflow_sub-table : goal.overflow_sub-table
overflow_sub-table c = (less c.before).fits

-- what `limit` gave
module _ (c : goal.After-limit) where
  abbrev b : lts.Start tie.the-claims reads.Pre reads.Post
  b = c.before.before.before

  limit_is : back c.limit.result ≡ scaled (t b) (s b)
  limit_is = called c.limit.result c.limit.type_inv ∙ rw ((less b).is, span_is b) at c.limit.ensures

  size_limit : nat_abs (scaled (t b) (s b)) ≤ 80000 * most_penalty
  size_limit = le_trans (size-scaled (g b) (s b)) (size-span (g b))

  product_is : nat_abs (back c.limit.result) / 8192 * nat_abs (back (at b.args.table.now (7 * b.args.p + 6))) ≡ product (t b) (s b)
  product_is = rw (limit_is, inverse_is b)

  size_whole : product (t b) (s b) / 68719476736 ≤ 10200001
  size_whole = let h = size_product (g b) (s b) in omega arith

  number : Formed
      (back (at b.args.table.now (7 * b.args.p + 1))
      +ℤ to_z w64 (nat_abs (back c.limit.result) / 8192 * nat_abs (back (at b.args.table.now (7 * b.args.p + 6))) / 68719476736))
      (number_by (t b) (s b))
  number =
      let whole = product (t b) (s b) / 68719476736 in
      formed (rw (product_is, element b 1, to_z_pos w64 {n = whole} (let h = size_whole in omega arith)))
      (size-add (t b).low (pos whole) (g b).low size_whole) (omega arith)

pub overflow_cast-d : goal.overflow_cast-d
overflow_cast-d c = rw (limit_is c) (casts (scaled_nonneg (g (b c)) (s (b c))) (fits_by (scaled (t (b c)) (s (b c))) (size_limit c) (omega arith)))

pub overflow_cast-result : goal.overflow_cast-result
overflow_cast-result c =
    let a = b c.before.before in
    rw (inverse_is a) (casts (inverse_nonneg (g a)) (fits_by (inverse (t a)) (size-inverse (g a)) (omega arith)))

pub overflow_mul-result-3 : goal.overflow_mul-result-3
overflow_mul-result-3 c =
    let d = c.before.before in
    rw (product_is d) (record { fits = let h = size_product (g (b d)) (s (b d)) in omega arith })

pub overflow_cast-result-2 : goal.overflow_cast-result-2
overflow_cast-result-2 c =
    let d = c.before.before in
    rw (product_is d) (fits_by (pos (product (t (b d)) (s (b d)) / 68719476736)) (size_whole d) (omega arith))

pub overflow_add-result-3 : goal.overflow_add-result-3
overflow_add-result-3 c = (number c.before.before).fits

pub returns : goal.returns
returns c =
    let d = c.before.before in
    let a = b d in
    (number d).is ∙ by_row (g a) (s a) (a.requires.1.whole a.args.p a.requires.0)
