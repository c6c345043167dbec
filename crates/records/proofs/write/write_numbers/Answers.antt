use Prim.Native.Nat.{ℕ, ◌+◌, ◌*◌, ◌≤◌}
use mathlib.Core.Path.{◌≡◌, refl, sym, ap, ap₂, ◌∙◌}
use native.Mathlib.Omega.{arith}
use lib.ListN.{length}
use lib.Seq.{take_all}
use Rattle.integer.specs.Encoding.{unsigned_bytes, complement, signed_bytes}
use Rattle.integer.specs.Places.{at}
use Rattle.integer.proofs.Encoding.{bytes_length}
use Rattle.integer.proofs.Filled.{filled_none, filled_part, next_part, filled_end}
use Rattle.integer.proofs.Places.{step_room}
use Rattle.integer.proofs.Sizes.{widened}
use Rattle.records.specs.Readers.{number_bytes}
use Rattle.records.proofs.Bytes.{numbers_next}
use Rattle.records.proofs.write.write_numbers.Goals as goal
use Rattle.records.proofs.write.write_numbers.Goals.{In-loop-i}

-- a number's bytes lie in the part
room : (c : In-loop-i) → let w = c.args.width in w * c.loop-i.i + w ≤ length c.args.part.now
room c = omega (arith, step_room c.args.width c.loop-i.i (length c.args.numbers.now) (omega arith))

pub loop-i-init : goal.loop-i-init
unfolding number_bytes
loop-i-init c = let z : c.args.width * 0 ≡ 0 = omega arith in rw z (filled_none _ refl)

pub overflow_mul-at : goal.overflow_mul-at
overflow_mul-at c = omega (arith, room c)

pub overflow_add-end : goal.overflow_add-end
overflow_add-end c = omega (arith, room (goal.at.overflow_add-end c).In-loop-i)

pub overflow_cast-numbers : goal.overflow_cast-numbers
overflow_cast-numbers c = (widened (at c.args.numbers.now c.loop-i.i) c.twos_complement-arg-1.given).fits

pub twos_complement-word-requires : goal.twos_complement-word-requires
twos_complement-word-requires c =
    let i = c.loop-i.i in
    (rw (widened (at c.args.numbers.now i) c.twos_complement-arg-1.given).is (c.requires.3.each i), c.requires.2)

pub slice_bounds-write_unsigned-end : goal.slice_bounds-write_unsigned-end
slice_bounds-write_unsigned-end c = omega (arith, room (goal.at.slice_bounds-write_unsigned-end c).In-loop-i, c.loop-i.invariant.long)

pub loop-i-preserved : goal.loop-i-preserved
loop-i-preserved c =
    let l = c.loop-i in
    let a = c.args in
    let w = a.width in
    let x = at a.numbers.now l.i in
    let r = room (goal.at.loop-i-preserved c).In-loop-i in
    let e : c.write_unsigned.new.part ≡ signed_bytes w x =
    c.write_unsigned.ensures
    ∙ ap₂ unsigned_bytes (next_part (w * l.i) (w * l.i + w) w refl r l.invariant)
    (c.twos_complement-word.ensures ∙ ap₂ complement c.requires.1 (widened x c.twos_complement-arg-1.given).is) in
    let next : w * (l.i + 1) ≡ w * l.i + w = omega arith in
    rw (next, numbers_next w a.numbers.now l.i (omega arith))
    (filled_part (w * l.i) (w * l.i + w) w (signed_bytes w x) refl r (bytes_length w _) l.invariant e)

pub shape_of-part : goal.shape_of-part
shape_of-part c = c.loop-i.invariant.long

pub returns : goal.returns
returns c =
    let l = c.loop-i in
    let a = c.args in
    let e : l.i ≡ length a.numbers.now = omega arith in
    let f : a.width * l.i ≡ length a.part.now = ap (λ (n : ℕ). a.width * n) e ∙ sym c.requires.0 in
    filled_end f l.invariant ∙ ap (number_bytes a.width) (take_all l.i a.numbers.now (omega arith))
