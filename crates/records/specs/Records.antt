-- Document 02, request 5: the record that a solve leaves.
use Rattle.std.specs.Prelude.{ℕ, List, ℤ}
use Rattle.records.specs.declared.Sizes.{Sizes}

-- The kind, with what a record of that kind has: 'proved' gap, plan and multipliers, 'impossible' multipliers. The first duties are
-- the plan's first m numbers.
pub data Outcome : Type 0 where
  Proved : ℤ → List ℤ → List ℤ → Outcome
  Impossible : List ℤ → Outcome
  Open : Outcome

pub record Record : Type 0 where
  pub sizes : Sizes
  pub rounds : ℕ
  pub outcome : Outcome

abbrev pub record_with : Sizes → ℕ → Outcome → Record
record_with z rounds outcome = record { sizes = z; rounds = rounds; outcome = outcome }
