use Prim.Native.Nat.{ℕ, ◌+◌, ◌*◌}
use mathlib.Core.Path.{refl, ap, ◌∙◌}
use mathlib.Core.List.{List}
use native.Mathlib.Omega.{arith}
use Rattle.integer.proofs.Filled.{filled_none, filled_part}
use Rattle.records.specs.Readers.{unproved, plan_count, sized}
use Rattle.records.proofs.Bytes.{last_absent, unproved-length, sized-length}
use Rattle.records.proofs.write.write_without_plan.Goals as goal

pub returns : goal.returns
returns c =
    let a = c.args in
    let z = a.sizes in
    let p = plan_count z in
    let l = unproved a.kind a.rounds in
    let e = c.requires.1 in
    let f = filled_part 0 19 19 (sized l z) refl (omega arith) (sized-length l z (unproved-length a.kind a.rounds)) (filled_none (19 + 4 * p) {out = a.front.now} e)
    (c.write_sized.ensures ∙ ap (λ (b : List ℕ). sized b z) c.write_unproved.ensures) in
    record {
      laboratory_after = c.write_unproved.ensures;
      front_after = last_absent 19 (4 * p) refl f (c.fill.ensures.after (λ y e. e));
    }
