use Prim.Native.Nat.{ℕ, zero, suc, ◌+◌, ◌-◌, ◌*◌, ◌^◌, ◌≤◌}
use mathlib.Core.Path.{◌≡◌}
use mathlib.Core.Bool.{cond}
use mathlib.Core.List.{List}
use native.Mathlib.Omega.{arith}
use native.Mathlib.Nat.{pow-succ', pow-le-pow_right}
use lib.Dec.{ltb}
use lib.ListN.{length}
use lib.IntN.{ℤ, pos, negsuc, neg_ℤ, ◌-ℤ◌, ◌*ℤ◌}
use Rattle.integer.specs.Order.{◌≼◌, ◌≺◌}
use Rattle.integer.specs.Operand.{unsigned, signed, operand}
use Rattle.integer.proofs.Order.{order}
use Rattle.integer.proofs.Parts.{negated, times}
use Rattle.integer.proofs.Operand.{Bytes, signed-at, signed_value, signed_range, four_bytes, bytes_of}
use Rattle.integer.proofs.Sizes.{called}
use Rattle.integer.proofs.bytes.signed_at.Goals as goal

-- the range by the most that it can be, in halves
doubled : (k most : ℕ) (z : ℤ) → 2 * (1 + most) ≡ 256 ^ k → negsuc most ≼ z → z ≼ pos most →
    (neg_ℤ (pos (256 ^ k)) ≼ pos 2 *ℤ z) × (pos 2 *ℤ z ≺ pos (256 ^ k))
doubled k most z m low high = (omega (arith, order, times (pos 2) z, negated (pos (256 ^ k))), omega (arith, order, times (pos 2) z))

-- what two's complement makes of v is the operand, with its range; of no bytes there is no most
whole : (k : ℕ) (s : List ℕ) (at : ℕ) {v : ℕ} {z : ℤ} → Bytes s → at + k ≤ length s →
    v ≡ unsigned (operand k s at) → z ≡ cond (ltb (2 * v) (256 ^ k)) (pos v) (pos v -ℤ pos (256 ^ k)) →
    (z ≡ signed (operand k s at)) × (neg_ℤ (pos (256 ^ k)) ≼ pos 2 *ℤ z) × (pos 2 *ℤ z ≺ pos (256 ^ k))
whole zero s at b h e f =
    let value = signed_value 0 s at h e f in
    let r = signed_range 0 s at b h in
    (value, rw value r.0, rw value r.1)
whole (suc j) s at {v} {z} b h e f =
    let some : 256 ^ 0 ≤ 256 ^ j = pow-le-pow_right {n = 256} (omega arith) {i = 0} {j = j} (omega arith) in
    let most = 128 * 256 ^ j - 1 in
    let m : 2 * (1 + most) ≡ 256 ^ suc j = rw (pow-succ' 256 j) (omega (arith, some)) in
    let r = signed-at (suc j) most s at m b h e f in
    let d = doubled (suc j) most z m r.1 r.2 in
    (r.0, d.0, d.1)

pub pow-requires : goal.pow-requires
pow-requires g c = omega (arith, four_bytes g.row.N c.requires.1)

pub from_twos_complement-requires : goal.from_twos_complement-requires
from_twos_complement-requires g c = omega (arith, four_bytes g.row.N c.requires.1)

pub returns-clause-value : goal.returns-clause-value
returns-clause-value g c =
    let a = c.args in
    let f = c.from_twos_complement in
    rw (called f.result f.type_inv)
    (whole g.row.N a.s.now a.at (bytes_of c.type_inv.s) c.requires.0 c.unsigned_at.ensures.0 (rw c.pow.ensures at f.ensures)).0

pub returns-clause-range : goal.returns-clause-range
returns-clause-range g c =
    let a = c.args in
    let f = c.from_twos_complement in
    let w = whole g.row.N a.s.now a.at (bytes_of c.type_inv.s) c.requires.0 c.unsigned_at.ensures.0 (rw c.pow.ensures at f.ensures) in
    rw (called f.result f.type_inv) (w.1, w.2)
