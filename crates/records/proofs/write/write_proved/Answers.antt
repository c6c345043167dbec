use Prim.Native.Nat.{ℕ, ◌+◌, ◌-◌, ◌*◌, ◌≤◌}
use mathlib.Core.Path.{◌≡◌, refl, sym}
use mathlib.Core.List.{List, ◌++◌}
use native.Mathlib.Omega.{arith}
use lib.ListN.{length, take}
use lib.Seq.{length-take-le}
use lib.IntN.{ℤ}
use mir.Facts.{to_z-of_z}
use borrow.Rule.Slice.PartMut.{put_mid}
use Rattle.integer.proofs.Filled.{Filled, filled_none, filled_part, next_part}
use Rattle.integer.proofs.Places.{take-bounded}
use Rattle.integer.proofs.Sizes.{wider}
use Rattle.records.specs.declared.Sizes.{Sizes}
use Rattle.records.specs.Readers.{plan_count, service_length, number_bytes, laboratory_bytes, sized, Proved}
use Rattle.records.proofs.Bytes.{last_part, filled_last, number_bytes_length, sized-length, service_split, duties_room, proved-length}
use Rattle.records.proofs.write.write_proved.Goals as goal

-- the plan has its first duties
first_room : (z : Sizes) {p : ℕ} → 1 ≤ z.horizon → p ≡ plan_count z → z.m ≤ p
first_room z h e = rw e (duties_room z h)

-- ---- The service's slice, part by part

module _
    (z : Sizes) (rounds : ℕ) (gap : ℤ) (plan : List ℤ) (laboratory service new : List ℕ) (some : 1 ≤ z.horizon) (m : z.m ≤ 4) (long : length plan ≡ plan_count z)
    (l : laboratory ≡ laboratory_bytes (Proved rounds gap (take z.m plan))) (h : length service ≡ service_length z) (e : new ≡ sized laboratory z) where
  after_sized : Filled (service_length z) 19 (sized (laboratory_bytes (Proved rounds gap (take z.m plan))) z) (put_mid 0 19 service new)
  after_sized =
      let first = laboratory_bytes (Proved rounds gap (take z.m plan)) in
      let few = length-take-le z.m plan (first_room z some long) in
      filled_part 0 19 19 (sized first z) refl (omega arith) (sized-length first z (proved-length rounds gap (take z.m plan) (omega arith)))
      (filled_none (service_length z) {out = service} h) (rw (← l) e)

  after_plan : (part : List ℕ) → part ≡ number_bytes 4 plan → let p = length plan in
      Filled (service_length z) (19 + 4 * p) (sized (laboratory_bytes (Proved rounds gap (take z.m plan))) z ++ number_bytes 4 plan)
      (put_mid 19 (19 + 4 * p - 19) (put_mid 0 19 service new) part)
  after_plan part k =
      filled_part 19 (19 + 4 * length plan) (4 * length plan) (number_bytes 4 plan) refl (omega (arith, service_split z)) (number_bytes_length 4 plan) after_sized k

pub slice_bounds-write_laboratory-end : goal.slice_bounds-write_laboratory-end
slice_bounds-write_laboratory-end c = let f = c.requires.2.outcome in sym (length-take-le _ _ (first_room c.args.sizes f.0 f.3.long))

pub write_laboratory-requires : goal.write_laboratory-requires
write_laboratory-requires c =
    let f = c.requires.2.outcome in
    let few = length-take-le c.args.sizes.m c.args.plan.now (first_room c.args.sizes f.0 f.3.long) in
    (c.requires.0, omega (arith, c.requires.2.sizes.inputs), take-bounded c.args.sizes.m c.args.plan.now f.3.within)

pub write_numbers-requires : goal.write_numbers-requires
write_numbers-requires c =
    let a = c.args in
    let z = a.sizes in
    let f = c.requires.2 in
    let o = f.outcome in
    let p = length a.plan.now in
    let l = rw (to_z-of_z c.ranges.gap) at c.write_laboratory.ensures in
    let s = after_sized z a.rounds a.gap a.plan.now _ a.service.now _ o.0 f.sizes.inputs o.3.long l c.requires.1 c.write_sized.ensures in
    (next_part 19 (19 + 4 * p) (4 * p) refl (omega (arith, service_split z, o.3.long)) s, refl, omega arith, wider o.3.within (omega arith))

pub write_numbers-requires-2 : goal.write_numbers-requires-2
write_numbers-requires-2 c =
    let a = c.args in
    let z = a.sizes in
    let f = c.requires.2 in
    let o = f.outcome in
    let p = length a.plan.now in
    let q = length a.multipliers.now in
    let l = rw (to_z-of_z c.ranges.gap) at c.write_laboratory.ensures in
    let s = after_plan z a.rounds a.gap a.plan.now _ a.service.now _ o.0 f.sizes.inputs o.3.long l c.requires.1 c.write_sized.ensures _ c.write_numbers.ensures in (
      last_part (19 + 4 * p) (4 * q) (omega (arith, service_split z, o.3.long, o.4.long)) s,
      refl,
      omega arith,
      wider o.4.within (omega arith),
    )

pub returns : goal.returns
returns c =
    let a = c.args in
    let z = a.sizes in
    let f = c.requires.2 in
    let o = f.outcome in
    let p = length a.plan.now in
    let y = a.multipliers.now in
    let q = length y in
    let l = rw (to_z-of_z c.ranges.gap) at c.write_laboratory.ensures in
    let s = after_plan z a.rounds a.gap a.plan.now _ a.service.now _ o.0 f.sizes.inputs o.3.long l c.requires.1 c.write_sized.ensures _ c.write_numbers.ensures in
    let e : 19 + 4 * p + 4 * q ≡ service_length z = omega (arith, service_split z, o.3.long, o.4.long) in
    record {
      laboratory_after = l;
      service_after = filled_last (19 + 4 * p) (4 * q) e s (number_bytes 4 y) (number_bytes_length 4 y) c.write_numbers-2.ensures;
    }
