use native.Mathlib.Omega.{arith}
use lib.Ieee.{nan}
use Rattle.std.proofs.lemmas.List.Edits.{get_or-between}
use Rattle.banded.proofs.Reduction.{kept_is}
use Rattle.banded.proofs.rows.kept.Goals as goal

pub returns : goal.returns
returns c = λ band w a b h f.
    kept_is band w a c.args.x _ c.args.factors b (record { each = λ j l. rw c.copy_from_slice.ensures.after (get_or-between c.args.x 12 23 j nan (omega arith)) }) h f
