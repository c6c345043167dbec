-- What is written for the first duties, as the code appends it.
use Prim.Native.Nat.{ℕ, zero, suc}
use mathlib.Core.Path.{◌≡◌, refl}
use mathlib.Core.Bool.{cond}
use mathlib.Core.List.{List, [], ◌∷◌, ◌++◌}
use native.Mathlib.Omega.{arith}
use lib.Dec.{ltb}
use lib.ListN.{take}
use lib.Seq.{take-nil}
use borrow.Author.Tests.{lt-ltb}
use Rattle.slip_text.specs.Slip.{each}

-- each where it is one of the m
pub four_each : {A : Type 0} (f : A → List ℕ) (m : ℕ) (a b c d : A) →
    cond (ltb 0 m) (f a) [] ++ (cond (ltb 1 m) (f b) [] ++ (cond (ltb 2 m) (f c) [] ++ (cond (ltb 3 m) (f d) [] ++ [])))
    ≡ each f (take m (a ∷ b ∷ c ∷ d ∷ []))
four_each f zero a b c d = refl
four_each f (suc zero) a b c d = refl
four_each f (suc (suc zero)) a b c d = refl
four_each f (suc (suc (suc zero))) a b c d = refl
four_each {A} f (suc (suc (suc (suc m)))) a b c d =
    let n = suc (suc (suc (suc m))) in
    rw (lt-ltb 0 n (omega arith), lt-ltb 1 n (omega arith), lt-ltb 2 n (omega arith), lt-ltb 3 n (omega arith), take-nil {A = A} m)
