use Rattle.rounds.proofs.Entered.{Running}
use Rattle.rounds.proofs.search.Given as goal

abbrev pub invariant-loop-k : goal.invariant-loop-k
invariant-loop-k l = Running l.t l.k l.state.current l.state.previous
