use mathlib.Core.Path.{sym, ◌∙◌, subst}
use native.Mathlib.Omega.{arith}
use lib.ListN.{length}
use Rattle.models.specs.Models.{Readable}
use Rattle.models.proofs.Tested.{Ready, ready, square_small, product_small}
use Rattle.models.proofs.ReadBack.{readable}
use Rattle.models.proofs.import_model.Goals as goal
use Rattle.models.proofs.import_model.Goals.{In_ok-test_model}

-- a model that passes
passed : (c : In_ok-test_model) → let a = c.args in Ready a.n a.m a.a.now a.b.now (length a.out.now)
passed c = let a = c.args in ready a.n a.m a.a.now a.b.now (length a.out.now) (sym c.test_model.ensures ∙ c.in_ok-test_model.was)

pub write_model-requires : goal.write_model-requires
write_model-requires c =
    let a = c.args in
    let r = passed (goal.at.write_model-requires c).In_ok-test_model in
    let p = square_small a.n r.sizes.1 in
    let q = product_small a.n a.m r.sizes.1 r.sizes.3 in
    (omega (arith, r.lengths), omega (arith, r.lengths, p), omega (arith, r.lengths, q), r.sizes.0, r.sizes.2)

pub returns-clause-read_back : goal.returns-clause-read_back
returns-clause-read_back c =
    let a = c.args in
    let r = passed (goal.at.returns-clause-read_back c).In_ok-test_model in
    subst (Readable a.n a.m a.a.now a.b.now) (sym c.write_model.ensures) (readable a.n a.m a.a.now a.b.now (length a.out.now) r)
