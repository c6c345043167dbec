use Prim.Native.Nat.{◌*◌, ◌≤◌}
use mathlib.Core.Path.{◌≡◌}
use lib.ListN.{length}
use lib.IntN.{nat_abs}
use Rattle.integer.specs.Places.{Bounded}
use Rattle.commands.specs.Ranges.{most_number}
use Rattle.tape.specs.declared.Tape.{Tape}
use Rattle.primal.specs.Padded.{padded_plan}
use Rattle.primal.proofs.TermSizes.{most_cost}
use Rattle.passes.specs.Followed.{Lends}
use Rattle.passes.proofs.FollowedSteps.{Begun}
use Rattle.passes.proofs.followed.follow.Given as goal

abbrev pub invariant-loop-k : goal.invariant-loop-k
invariant-loop-k l =
    (length l.plan ≡ 120) × Bounded most_number l.plan × (nat_abs l.total ≤ l.k * (6 * most_cost))
    × ((t : Tape) → Lends t l.table l.a l.forced l.start l.n l.horizon l.initial.plan → Begun t (padded_plan l.initial.plan).u l.k l.plan l.total)
