use Prim.Native.Nat.{ℕ, ◌+◌, ◌<◌}
use mathlib.Core.Path.{◌≡◌, refl, ◌∙◌}
use mathlib.Core.List.{List}
use native.Mathlib.Omega.{arith}
use native.Mathlib.Decide.{ℕ_discrete}
use lib.ListN.{length, length-set, set, get_or}
use lib.Seq.{get_or-set_same, get_or-set_other}
use Rattle.problem.specs.declared.Term.{Term}
use Rattle.primal.specs.Padded.{blank_term, term_at}
use Rattle.primal.specs.Terms.{placed_term}
use Rattle.primal.proofs.TermTables.{terms_are}
use Rattle.primal.proofs.terms.terms_of.Goals as goal

-- one place more
filled : (terms : List Term) {q : ℕ} {x : Term} (f : ℕ → Term) → q < length terms → ((p : ℕ) → p < q → term_at terms p ≡ f p) → x ≡ f q →
    (p : ℕ) → p < q + 1 → term_at (set terms q x) p ≡ f p
filled terms {q} {x} f room same e p l = go (ℕ_discrete p q)
  where
    go : Dec (p ≡ q) → term_at (set terms q x) p ≡ f p
    go (yes h) = rw h (get_or-set_same terms q x blank_term room ∙ e)
    go (no n) = get_or-set_other terms q p x blank_term n ∙ same p (omega arith)

pub loop-place-init : goal.loop-place-init
loop-place-init c = (refl, λ p l. absurd (omega (arith, l)))

pub loop-place-preserved : goal.loop-place-preserved
loop-place-preserved c =
    let l = c.loop-place in
    let room : l.place < length l.terms = omega (arith, l.invariant.0) in
    (simp length-set l.invariant.0, filled l.terms _ room l.invariant.1 c.placed_term.ensures)

pub returns : goal.returns
returns c = terms_are c.loop-place.terms c.requires (λ p l. c.loop-place.invariant.1 p (omega arith))
