-- Places that are never required.
use Prim.Native.Nat.{ℕ, ◌+◌, ◌-◌, ◌*◌, ◌<◌, ◌≤◌}
use mathlib.Core.Path.{◌≡◌, ap}
use mathlib.Core.Bool.{Bool, false, ◌&&◌, and-false}
use mathlib.Core.List.{List}
use mathlib.Core.Logic.{◌⊎◌, inl, inr, ⊎_elim}
use native.Mathlib.Omega.{arith}
use lib.Dec.{leb}
use borrow.Author.Tests.{le-ltb, lt-leb}
use Rattle.integer.proofs.Tests.{any_all}
use Rattle.commands.specs.Marks.{column_place, start_place, rounds_place, reference_place, place_count}
use Rattle.commands.specs.Required.{among, curved, on_curve, required}
use Rattle.commands.specs.Room.{SmallSizes}

not_among : (first count p : ℕ) → (p < first) ⊎ (first + count ≤ p) → among first count p ≡ false
unfolding among
not_among first count p (inl h) = rw (lt-leb first p h)
not_among first count p (inr h) = rw (le-ltb (p - first) count (omega arith)) (and-false (leb first p))

pub not_required : (n m horizon : ℕ) (given : List Bool) (p : ℕ) → SmallSizes n m horizon → (p < column_place) ⊎ (place_count ≤ p)
    → required n m horizon given p ≡ false
unfolding required on_curve
not_required n m horizon given p sizes out =
    rw (
      not_among column_place (n + m) p (outside column_place (n + m) (omega arith) (omega arith)),
      not_among start_place n p (outside start_place n (omega arith) (omega arith)),
      not_among rounds_place 1 p (outside rounds_place 1 (omega arith) (omega arith)),
    )
    (any_all (n + m) (λ c. among (reference_place + 12 * c) horizon p && curved horizon given c)
    (λ c l. ap (λ (t : Bool). t && curved horizon given c)
    (not_among (reference_place + 12 * c) horizon p (outside (reference_place + 12 * c) horizon (omega arith) (omega arith)))))
  where
    outside : (first count : ℕ) → column_place ≤ first → first + count ≤ place_count → (p < first) ⊎ (first + count ≤ p)
    outside first count l g = ⊎_elim (λ h. inl (omega arith)) (λ h. inr (omega arith)) out
