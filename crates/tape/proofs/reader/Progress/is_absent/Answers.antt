use mathlib.Core.Path.{sym, ap, ◌∙◌}
use lib.Dec.{ltb}
use Rattle.tape.proofs.Missing.{absent-missing}
use Rattle.tape.proofs.reader.Progress.is_absent.Goals as goal

pub returns : goal.returns
returns c =
    let p = c.args.self.now in
    ap (ltb 0) c.count_missing.ensures ∙ sym (absent-missing p.tape.n p.tape.m p.tape.horizon p.given)
