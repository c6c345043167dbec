use Prim.Native.Nat.{ℕ, ◌+◌, ◌/◌, ◌≤◌}
use mathlib.Core.Path.{◌≡◌}
use native.Mathlib.Omega.{arith}
use native.Mathlib.Nat.{mul-le-mul}
use Rattle.integer.specs.Root.{root_up, LeastRoot}
use Rattle.integer.proofs.Root.{zero_least, next-least, root_is}
use Rattle.integer.proofs.number.root_up.Goals as goal

-- both clauses from the second
found : {z b : ℕ} → LeastRoot z b → record { value : b ≡ root_up z; least_root : LeastRoot z b }
found {z} {b} r = record { value = root_is z b r; least_root = r }

pub returns-then-z-eq0 : goal.returns-then-z-eq0
returns-then-z-eq0 c = let e : c.args.z ≡ 0 = omega arith in rw e (found zero_least)

pub loop-low-init : goal.loop-low-init
loop-low-init c = (omega arith, omega arith, omega arith, omega (arith, c.ranges.z))

abbrev middle : ℕ → ℕ → ℕ
middle low high = (low + high) / 2

pub overflow_mul-middle : goal.overflow_mul-middle
overflow_mul-middle c =
    let l = c.loop-low in
    let h : middle l.low l.high ≤ 4294967295 = omega (arith, l.invariant) in
    omega (arith, mul-le-mul h h)

pub loop-low-preserved-then-middle-z : goal.loop-low-preserved-then-middle-z
loop-low-preserved-then-middle-z c = let h = c.loop-low.invariant in (omega arith, h.1, omega arith, h.3)

pub loop-low-preserved : goal.loop-low-preserved
loop-low-preserved c = let h = c.loop-low.invariant in (omega arith, omega arith, h.2, omega arith)

pub returns : goal.returns
returns c =
    let l = c.loop-low in
    let e : l.high ≡ l.low + 1 = omega (arith, l.invariant) in
    found (next-least _ l.low l.invariant.2 (rw e at l.invariant.3))
