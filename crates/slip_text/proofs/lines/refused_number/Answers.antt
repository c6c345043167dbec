use mathlib.Core.List.{[]}
use native.Mathlib.Omega.{arith}
use Rattle.slip_text.proofs.Appending.{appended_then}
use Rattle.slip_text.proofs.lines.refused_number.Goals as goal

pub returns : goal.returns
returns c =
    record {
      holds = (appended_then c.with_word-named.ensures c.with_number.ensures).holds [] c.empty-empty.ensures.1;
      length_bound = omega arith;
    }
