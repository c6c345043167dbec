use Prim.Native.Nat.{ℕ, ◌<◌}
use mathlib.Core.Path.{◌≡◌, sym}
use mathlib.Core.Bool.{Bool, true, false}
use mathlib.Core.List.{List}
use native.Mathlib.Omega.{arith}
use lib.ListN.{length}
use lib.IntN.{ℤ, pos, neg_ℤ}
use borrow.Author.Rules.{rules}
use borrow.Author.Tests.{tests}
use Rattle.std.specs.Bool.{MatchBool}
use Rattle.std.specs.List.{HoldsAt, AllWithin}
use Rattle.std.proofs.lemmas.Iterator.{cases_from_any, YieldsList-from_slice}
use Rattle.integer.specs.Tests.{outside}
use Rattle.integer.proofs.Tests.{any_at, any_all}
use Rattle.commands.specs.Ranges.{most_multiplier}
use Rattle.lent.specs.Checks.{wrong_multipliers}
use Rattle.lent.proofs.multipliers.is_any_outside.Goals as goal

abbrev wrong : ℤ → Bool
wrong = outside (neg_ℤ (pos most_multiplier)) (pos most_multiplier)

any_wrong : (r : Bool) (l : List ℤ) → MatchBool r ((p : ℕ) × (p < length l) × HoldsAt (λ y. wrong y ≡ true) l p) (AllWithin (λ y. wrong y ≡ false) l 0 (length l)) →
    r ≡ wrong_multipliers l
any_wrong true l h = sym (any_at (length l) h.0 _ h.1 (h.2 (pos 0)))
any_wrong false l h = sym (any_all (length l) _ (λ p b. h p (pos 0) (omega arith) b))

pub returns : goal.returns
returns c =
    let l = c.args.multipliers.now in
    any_wrong c.any.result l
    (cases_from_any _ _ _ (λ y. wrong y ≡ true) (λ y. wrong y ≡ false) c.any.ensures.ran (YieldsList-from_slice l cc) (λ x q k. search (rules, tests)) (λ x q k. search (rules, tests)))
