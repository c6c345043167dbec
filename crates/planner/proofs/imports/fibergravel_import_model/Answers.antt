use mathlib.Core.Path.{sym, ◌∙◌}
use lib.ListN.{length}
use Rattle.planner.proofs.Figures.{small_model}
use Rattle.planner.proofs.imports.fibergravel_import_model.Goals as goal

pub code-requires : goal.code-requires
code-requires c =
    let s = c.args in
    small_model s.n s.m s.a.now s.b.now (length s.out.now) _ (sym c.import_model.ensures.value ∙ c.in-Err.is)
