use Prim.Native.Nat.{ℕ, ◌+◌, ◌-◌, ◌*◌, ◌^◌, ◌<◌, ◌≤◌}
use mathlib.Core.Path.{◌≡◌, sym}
use mathlib.Core.List.{List}
use native.Mathlib.Omega.{arith}
use lib.ListN.{length, get_or}
use Rattle.integer.specs.Operand.{unsigned, operand}
use Rattle.integer.proofs.Operand.{Bytes, unsigned_byte, unsigned-at, unsigned-range, four_bytes, bytes_of}
use Rattle.integer.proofs.bytes.unsigned_at.Goals as goal

-- what the bytes from place i on make up, and one more in front of them
module _ (s : List ℕ) (at N i : ℕ) {number : ℕ} (b : Bytes s) (room : at + N ≤ length s) (few : N ≤ 4) (more : 0 < i) (within : i ≤ N) (kept : number ≡ unsigned (operand (N - i) s (at + i))) where
  both : (get_or s (at + (i - 1)) 0 + 256 ^ 1 * number ≡ unsigned (operand (1 + (N - i)) s (at + (i - 1))))
      × (get_or s (at + (i - 1)) 0 + 256 ^ 1 * number < 256 ^ (1 + (N - i)))
  both =
      let here : at + (i - 1) + 1 ≡ at + i = omega arith in
      unsigned-at 1 (N - i) s (at + (i - 1)) b (omega arith) (sym (unsigned_byte s (at + (i - 1)) (omega arith))) (rw here kept)

  next : 256 * number + get_or s (at + (i - 1)) 0 ≡ unsigned (operand (N - (i - 1)) s (at + (i - 1)))
  next =
      let e : N - (i - 1) ≡ 1 + (N - i) = omega arith in
      rw e (omega (arith, both.0))

  fits : 256 * number + get_or s (at + (i - 1)) 0 < 4294967296
  fits = omega (arith, both.1, four_bytes (1 + (N - i)) (omega arith))

pub loop-i-init : goal.loop-i-init
unfolding unsigned
loop-i-init g c =
    let none : g.row.N - g.row.N ≡ 0 = omega arith in
    rw none

pub overflow_mul-number : goal.overflow_mul-number
overflow_mul-number g c =
    let a = c.args in
    let f = fits a.s.now a.at g.row.N c.loop-i.i (bytes_of c.type_inv.s) c.requires.0 c.requires.1 c.loop-i-test.true c.loop-i.auto.i c.loop-i.invariant in
    omega (arith, f)

pub overflow_add-number-in-loop-i : goal.overflow_add-number-in-loop-i
overflow_add-number-in-loop-i g c =
    let a = c.args in
    let f = fits a.s.now a.at g.row.N c.loop-i.i (bytes_of c.type_inv.s) c.requires.0 c.requires.1 c.loop-i-test.true c.loop-i.auto.i c.loop-i.invariant in
    omega (arith, f)

pub loop-i-preserved : goal.loop-i-preserved
loop-i-preserved g c =
    let a = c.args in
    next a.s.now a.at g.row.N c.loop-i.i (bytes_of c.type_inv.s) c.requires.0 c.requires.1 c.loop-i-test.true c.loop-i.auto.i c.loop-i.invariant

pub returns : goal.returns
returns g c =
    let a = c.args in
    let whole : g.row.N - c.loop-i.i ≡ g.row.N = omega arith in
    let front : a.at + c.loop-i.i ≡ a.at = omega arith in
    let e : c.loop-i.number ≡ unsigned (operand g.row.N a.s.now a.at) = rw (whole, front) at c.loop-i.invariant in
    (e, rw e (unsigned-range g.row.N a.s.now a.at (bytes_of c.type_inv.s) c.requires.0))
