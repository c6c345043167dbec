use Prim.Native.Nat.{ℕ, ◌<◌, ◌/◌, ◌%◌}
use mathlib.Core.Path.{◌≡◌}
use lib.ListN.{length}
use Rattle.primal.specs.Padded.{term_at}
use Rattle.primal.specs.Terms.{placed_term}
use Rattle.primal.proofs.terms.terms_of.Given as goal

abbrev pub invariant-loop-place : goal.invariant-loop-place
invariant-loop-place l =
    (length l.terms ≡ 120) × ((p : ℕ) → p < l.place → term_at l.terms p ≡ placed_term l.t (p / 10) (p % 10))
