use mathlib.Core.Path.{◌≡◌}
use lib.ListN.{length}
use Rattle.integer.specs.Places.{at, Steps}
use Rattle.primal.specs.Padded.{term_at}
use Rattle.lookup.specs.Table.{row}
use Rattle.lookup.proofs.table.table_of.Given as goal

abbrev pub invariant-loop-p : goal.invariant-loop-p
invariant-loop-p l = (length l.table ≡ 840) × Steps 7 l.p (λ q. at (row (term_at l.terms q))) l.table
