-- The number of an imported entry.
use Prim.Native.Nat.{ℕ, ◌≤◌}
use mathlib.Core.Path.{◌≡◌, refl}
use native.Mathlib.Omega.{arith}
use lib.IntN.{nat_abs}
use lib.Ieee.{Float}
use Rattle.std.specs.Prelude.{Ok}
use Rattle.import.specs.Entries.{number, imported}
use Rattle.import.proofs.Meaning.{by_case}
use Rattle.models.specs.Models.{number_in, verdict}

pub number_small : (a : Float) → nat_abs (number_in (imported a)) ≤ 16384
number_small a = by_case (λ r. nat_abs (number_in r) ≤ 16384) a (λ e. omega arith) (λ f s. omega arith) (λ f s z. s) (λ f s z. s)

pub number_in_lem : (count : ℕ) (a : Float) → verdict count (imported a) ≡ Ok tt → number_in (imported a) ≡ number a
number_in_lem count a =
    by_case (λ r. verdict count r ≡ Ok tt → number_in r ≡ number a) a
    (λ e w. cc) (λ f s w. cc) (λ f s z w. refl) (λ f s z w. refl)
