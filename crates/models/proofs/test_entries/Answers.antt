use Prim.Native.Nat.{◌+◌}
use mathlib.Core.Path.{◌≡◌, sym, ap, ◌∙◌}
use native.Mathlib.Omega.{arith}
use borrow.Author.Rules.{rules}
use lib.ListN.{get_or, drop}
use lib.Ieee.{nan}
use Rattle.std.specs.Prelude.{Result, Err}
use Rattle.tape.specs.declared.refusal.Refusal.{Refusal}
use Rattle.import.specs.Entries.{imported}
use Rattle.models.specs.Models.{verdict, first, tested}
use Rattle.models.proofs.Tested.{tested-step, tested-none}
use Rattle.models.proofs.test_entries.Goals as goal
use Rattle.models.proofs.test_entries.Goals.{After-test_entry}

-- what is tested from place i on, by the verdict on the entry there
module _ (c : After-test_entry) where
  on : {v : Result (Unit {0}) Refusal} → c.test_entry.result ≡ v →
      tested c.args.count c.args.entries.now ≡ first v (tested (c.args.count + (c.loop-i.i + 1)) (drop (c.loop-i.i + 1) c.args.entries.now))
  on e = let n = c.args.count in let x = c.args.entries.now in let i = c.loop-i.i in
      let v : verdict (n + i) (imported (get_or x i nan)) ≡ c.test_entry.result = sym c.test_entry.ensures in
      c.loop-i.invariant ∙ tested-step n i x (omega arith) ∙ ap (λ (v : Result (Unit {0}) Refusal). first v (tested (n + (i + 1)) (drop (i + 1) x))) (v ∙ e)

pub returns-in_err-test_entry : goal.returns-in_err-test_entry
returns-in_err-test_entry c =
    let e : c.from_residual.result ≡ Err c.in_err-test_entry.field-0.0 = search rules in
    e ∙ sym (on (goal.at.returns-in_err-test_entry c).After-test_entry c.in_err-test_entry.was)

pub loop-i-preserved : goal.loop-i-preserved
loop-i-preserved c = on (goal.at.loop-i-preserved c).After-test_entry c.in_ok-test_entry.was

pub returns : goal.returns
returns c =
    let l = c.loop-i in
    tested-none (c.args.count + l.i) c.args.entries.now l.i (omega arith) ∙ sym l.invariant
