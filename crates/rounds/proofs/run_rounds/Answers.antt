use mathlib.Core.Path.{◌∙◌}
use Rattle.integer.proofs.Sizes.{called}
use Rattle.primal.proofs.Padding.{ceiling-padded}
use Rattle.rounds.proofs.Filled.{weights-whole}
use Rattle.rounds.proofs.run_rounds.Goals as goal

pub table_of-requires : goal.table_of-requires
table_of-requires c = let h = c.requires.1 in (h.tables, weights-whole h)

pub search-requires : goal.search-requires
search-requires c =
    let h = c.requires in
    let k = c.ceiling_of-highest in
    let f = c.factored_of.ensures in
    let highest = called k.result k.type_inv ∙ k.ensures ∙ ceiling-padded c.args.t.now h.0 _ h.1 in
    record {
      legal = (h.0, h.1, highest);
      rows_of = (c.table_of.ensures, f);
    }
