-- The root rounded up: its law, and that the law fixes it.
use Prim.Native.Nat.{ℕ, zero, suc, ◌+◌, ◌*◌, ◌<◌, ◌≤◌}
use mathlib.Core.Path.{◌≡◌}
use mathlib.Core.Logic.{⊎_elim}
use native.Mathlib.Omega.{arith}
use native.Mathlib.Nat.{mul-le-mul}
use borrow.Author.Tests.{lt-ltb, le-ltb}
use Rattle.integer.specs.Root.{root_up, LeastRoot}
use Rattle.integer.proofs.Places.{lt_or_le}

-- where the square of a number is too small, the numbers to take begin behind it
pub next-least : (z a : ℕ) → a * a < z → z ≤ (a + 1) * (a + 1) → LeastRoot z (a + 1)
next-least z a below enough = record {
  enough = enough;
  least = λ c h. ⊎_elim (λ l. let k : c ≤ a = omega arith in omega (arith, mul-le-mul k k)) (λ l. l) (lt_or_le c (a + 1));
}

pub zero_least : LeastRoot 0 0
zero_least = record { enough = omega arith; least = λ c h. omega arith }

pub root_least : (z : ℕ) → LeastRoot z (root_up z)
unfolding root_up
root_least zero = zero_least
root_least (suc n) =
    let b = root_up n in
    let r = root_least n in
    ⊎_elim (λ l. rw (lt-ltb n (b * b) l) (record { enough = l; least = λ c h. r.least c (omega arith) }))
    (λ l. rw (le-ltb n (b * b) l) (next-least (suc n) b (omega arith) (omega (arith, r.enough))))
    (lt_or_le n (b * b))

-- no other number is the least
pub root_is : (z b : ℕ) → LeastRoot z b → b ≡ root_up z
root_is z b r =
    let u = root_least z in
    omega (arith, r.least (root_up z) u.enough, u.least b r.enough)
