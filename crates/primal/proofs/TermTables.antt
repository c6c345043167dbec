-- A tape's terms: what stands at each padded place, and that every term is in document 01's ranges.
use Prim.Native.Nat.{ℕ, ◌+◌, ◌*◌, ◌-◌, ◌/◌, ◌%◌, ◌<◌, ◌≤◌}
use mathlib.Core.Path.{◌≡◌, sym, ◌∙◌, subst, subst⁻¹}
use mathlib.Core.Logic.{◌⊎◌, inl, inr}
use mathlib.Core.List.{List}
use native.Mathlib.Omega.{arith}
use native.Mathlib.Nat.{div-add-mod, mod-lt}
use lib.ListN.{replicate}
use lib.IntN.{ℤ, pos, nat_abs, ◌*ℤ◌}
use borrow.Author.Tests.{lt-ltb, le-ltb}
use Rattle.integer.specs.Places.{at, Stretch, Steps}
use Rattle.integer.proofs.Order.{order, le→}
use Rattle.integer.proofs.Parts.{times}
use Rattle.integer.proofs.Places.{lt_or_le, fill_at}
use Rattle.integer.proofs.Tests.{by_test}
use Rattle.commands.specs.Ranges.{most_number}
use Rattle.commands.specs.Marks.{marked}
use Rattle.tape.specs.declared.Tape.{Tape}
use Rattle.tape.specs.Tape.{step_reference, reference_at}
use Rattle.tape.specs.Legal.{Legal}
use Rattle.problem.specs.declared.Term.{Term}
use Rattle.problem.specs.Model.{column_term}
use Rattle.primal.specs.Padded.{blank_term, term_at}
use Rattle.primal.specs.Ranges.{Ranged}
use Rattle.primal.specs.Terms.{placed_term, TermsOf}
use Rattle.primal.proofs.ProductSizes.{size_units}

-- ---- What stands at place c of a step

module _ (t : Tape) (k c : ℕ) where
  pub placed-input : c < 4 → c < t.m → placed_term t k c ≡ column_term t (t.n + c) k
  unfolding placed_term
  placed-input h l = rw (lt-ltb c 4 h, lt-ltb c t.m l)

  pub placed_no_input : c < 4 → t.m ≤ c → placed_term t k c ≡ blank_term
  unfolding placed_term
  placed_no_input h l = rw (lt-ltb c 4 h, le-ltb c t.m l)

  pub placed-state : 4 ≤ c → c - 4 < t.n → placed_term t k c ≡ column_term t (c - 4) k
  unfolding placed_term
  placed-state h l = rw (le-ltb c 4 h, lt-ltb (c - 4) t.n l)

  pub placed_no_state : 4 ≤ c → t.n ≤ c - 4 → placed_term t k c ≡ blank_term
  unfolding placed_term
  placed_no_state h l = rw (le-ltb c 4 h, le-ltb (c - 4) t.n l)

-- ---- Ranges

ranged-blank : Ranged blank_term
ranged-blank = record {
  weighed = λ h. omega (arith, order);
  penalty = omega arith;
  low = omega arith;
  high = omega arith;
  reference = omega arith;
  ordered = omega (arith, order);
}

size-reference : (t : Tape) → Legal t → (column k : ℕ) → nat_abs (reference_at t column k) ≤ most_number
unfolding step_reference
size-reference t legal column k =
    by_test (λ z. nat_abs z ≤ most_number) (marked t.curves.given (12 * column + k))
    (λ _. legal.curves.each (12 * column + k)) (λ _. legal.reference.each column)

ranged-column : {t : Tape} → Legal t → (column k : ℕ) → Ranged (column_term t column k)
ranged-column {t} legal column k = record {
  weighed = λ h. omega (arith, order, times (pos 4096) (at t.weight column), le→ (legal.weighed column));
  penalty = size_units legal.weight column;
  low = legal.low.each column;
  high = legal.high.each column;
  reference = size-reference t legal column k;
  ordered = legal.ordered column;
}

-- ---- The terms of all places

module _ {t : Tape} (terms : List Term) (legal : Legal t) (e : (p : ℕ) → p < 120 → term_at terms p ≡ placed_term t (p / 10) (p % 10)) where
  term : (k c : ℕ) → k < 12 → c < 10 → term_at terms (10 * k + c) ≡ placed_term t k c
  term k c a b =
      let p = e (10 * k + c) (omega arith) in
      let q : (10 * k + c) / 10 ≡ k = omega arith in
      let r : (10 * k + c) % 10 ≡ c = omega arith in
      rw (q, r) at p

  ranged : (k c : ℕ) → Ranged (placed_term t k c)
  ranged k c = go (lt_or_le c 4) (lt_or_le c t.m) (lt_or_le (c - 4) t.n)
    where
      go : (c < 4) ⊎ (4 ≤ c) → (c < t.m) ⊎ (t.m ≤ c) → (c - 4 < t.n) ⊎ (t.n ≤ c - 4) → Ranged (placed_term t k c)
      go (inl x) (inl y) z = subst⁻¹ Ranged (placed-input t k c x y) (ranged-column legal (t.n + c) k)
      go (inl x) (inr y) z = subst⁻¹ Ranged (placed_no_input t k c x y) ranged-blank
      go (inr x) y (inl z) = subst⁻¹ Ranged (placed-state t k c x z) (ranged-column legal (c - 4) k)
      go (inr x) y (inr z) = subst⁻¹ Ranged (placed_no_state t k c x z) ranged-blank

  pub terms_are : TermsOf t terms
  terms_are = record {
    input = λ k j a b. let m = legal.inputs in term k j a (omega arith) ∙ placed-input t k j (omega arith) b;
    state = λ k i a b.
        let n = legal.states in
        let s : 4 + i - 4 ≡ i = omega arith in
        term k (4 + i) a (omega arith) ∙ (rw s at (placed-state t k (4 + i) (omega arith) (omega arith)));
    no_input = λ k j a b d. term k j a (omega arith) ∙ placed_no_input t k j d b;
    no_state = λ k i a b d. term k (4 + i) a (omega arith) ∙ placed_no_state t k (4 + i) (omega arith) (omega arith);
    tables = record { each = λ p d. subst⁻¹ Ranged (e p d) (ranged (p / 10) (p % 10)) };
  }
