use Rattle.std.proofs.Common.{rules}
use Rattle.steps.specs.Held.{verdict_by}
use Rattle.steps.proofs.verdict.verdict_of.Goals as goal
use Rattle.steps.proofs.verdict.verdict_of.Goals.{in_default-via-in-Some+else-gap-wanted, in_default-via-in_default}

pub returns-in-Some : goal.returns-in-Some
unfolding verdict_by
returns-in-Some c = search rules

pub returns-in_default : goal.returns-in_default
unfolding verdict_by
returns-in_default c = elim c.in_default.branch [
  | in_default-via-in-Some+else-gap-wanted w ↦ search rules
  | in_default-via-in_default w ↦ search rules
]
