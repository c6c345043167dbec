-- Test 7 by counting.
use Prim.Native.Nat.{ℕ}
use mathlib.Core.Path.{◌≡◌}
use mathlib.Core.Bool.{Bool, not, ◌&&◌}
use mathlib.Core.List.{List}
use lib.Dec.{ltb}
use Rattle.integer.proofs.Tests.{any-count}
use Rattle.commands.specs.Marks.{place_count, marked}
use Rattle.commands.specs.Required.{required}
use Rattle.marks.specs.Missing.{missing}
use Rattle.tape.specs.Reading.{absent}

-- a required place is absent exactly when the count of missing ones is above 0
pub absent-missing : (n m horizon : ℕ) (given : List Bool) → absent n m horizon given ≡ ltb 0 (missing n m horizon given)
unfolding absent missing
absent-missing n m horizon given = any-count place_count (λ p. required n m horizon given p && not (marked given p))
