use mathlib.Core.List.{[]}
use native.Mathlib.Omega.{arith}
use Rattle.slip_text.proofs.lines.kind_and_rounds.Goals as goal

pub returns : goal.returns
returns c =
    record {
      holds = c.with_rounds.ensures.holds _ (c.with_word-named.ensures.holds [] c.empty-empty.ensures.1);
      length_bound = omega arith;
    }
