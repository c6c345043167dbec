use Rattle.std.proofs.Common.{rules}
use Rattle.rounds.specs.Held.{may_answer}
use Rattle.rounds.proofs.verdict.may_answer.Goals as goal

pub returns-then-highest-upper : goal.returns-then-highest-upper
unfolding may_answer
returns-then-highest-upper c = search rules

pub returns-else-highest-upper : goal.returns-else-highest-upper
unfolding may_answer
returns-else-highest-upper c = search rules
