use Prim.Native.Nat.{◌≤◌}
use mathlib.Core.Path.{◌≡◌, sym, ap, ◌∙◌}
use mathlib.Core.Bool.{false}
use native.Mathlib.Omega.{arith}
use borrow.Author.Rules.{rules}
use lib.ListN.{length}
use Rattle.std.specs.Prelude.{Result, Err}
use Rattle.commands.specs.Format.{wrong_size}
use Rattle.tape.specs.declared.refusal.Refusal.{Refusal}
use Rattle.models.specs.Models.{wrong_length, first, tested, model_answer}
use Rattle.models.proofs.Tested.{right_size, size-refused, length-refused, entries_answer, few}
use Rattle.models.proofs.test_model.Goals as goal
use Rattle.models.proofs.test_model.Goals.{Else-is_wrong_length}

pub returns-then-is_wrong_size : goal.returns-then-is_wrong_size
returns-then-is_wrong_size c = size-refused _ _ c.args.a.now c.args.b.now _ (sym c.is_wrong_size.ensures ∙ c.if-is_wrong_size.true)

pub is_wrong_length-requires : goal.is_wrong_length-requires
is_wrong_length-requires c = let h = right_size _ _ (sym c.is_wrong_size.ensures ∙ c.if-is_wrong_size.false) in (h.1, h.3)

pub returns-then-is_wrong_length : goal.returns-then-is_wrong_length
returns-then-is_wrong_length c =
    length-refused _ _ c.args.a.now c.args.b.now _ (sym c.is_wrong_size.ensures ∙ c.if-is_wrong_size.false) (sym c.is_wrong_length.ensures ∙ c.if-is_wrong_length.true)

-- the first two tests are passed
module _ (c : Else-is_wrong_length) where
  sizes : wrong_size c.args.n c.args.m 1 ≡ false
  sizes = sym c.is_wrong_size.ensures ∙ c.if-is_wrong_size.false

  lengths : let s = c.args in wrong_length s.n s.m (length s.a.now) (length s.b.now) s.out ≡ false
  lengths = sym c.is_wrong_length.ensures ∙ c.if-is_wrong_length.false

  short : let s = c.args in (length s.a.now ≤ 36) × (length s.b.now ≤ 24)
  short = let s = c.args in few s.n s.m s.a.now s.b.now s.out sizes lengths

  -- the answer, by what the entries of A are found to be
  answer : {v : Result (Unit {0}) Refusal} → let s = c.args in tested 0 s.a.now ≡ v → first v (tested (length s.a.now) s.b.now) ≡ model_answer s.n s.m s.a.now s.b.now s.out
  answer e = let s = c.args in
      ap (λ (v : Result (Unit {0}) Refusal). first v (tested (length s.a.now) s.b.now)) (sym e) ∙ entries_answer s.n s.m s.a.now s.b.now s.out sizes lengths

pub test_entries-requires : goal.test_entries-requires
test_entries-requires c = omega (arith, short c)

pub returns-in_err-test_entries : goal.returns-in_err-test_entries
returns-in_err-test_entries c =
    let e : c.from_residual.result ≡ Err c.in_err-test_entries.field-0.0 = search rules in
    e ∙ answer (goal.at.returns-in_err-test_entries c).Else-is_wrong_length (sym c.test_entries.ensures ∙ c.in_err-test_entries.was)

pub test_entries-requires-2 : goal.test_entries-requires-2
test_entries-requires-2 c = omega (arith, short (goal.at.test_entries-requires-2 c).Else-is_wrong_length)

pub returns : goal.returns
returns c =
    c.test_entries-2.ensures
    ∙ answer (goal.at.returns c).Else-is_wrong_length (sym c.test_entries.ensures ∙ c.in_ok-test_entries.was)
