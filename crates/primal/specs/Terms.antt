-- A tape's terms at padded places.
use Rattle.std.specs.Prelude.{ℕ, ◌+◌, ◌*◌, ◌-◌, ◌<◌, ◌≤◌, ◌≡◌, cond, List, ltb}
use Rattle.tape.specs.declared.Tape.{Tape}
use Rattle.problem.specs.declared.Term.{Term}
use Rattle.problem.specs.Model.{column_term}
use Rattle.primal.specs.Padded.{blank_term, term_at}
use Rattle.primal.specs.Ranges.{Tables}

-- What stands at place c of step k: inputs are columns n on, at places 0 to m−1; states are columns 0 on, at places 4 on.
unfoldable pub placed_term : Tape → ℕ → ℕ → Term
placed_term t k c =
    cond (ltb c 4) (cond (ltb c t.m) (column_term t (t.n + c) k) blank_term)
    (cond (ltb (c - 4) t.n) (column_term t (c - 4) k) blank_term)

-- The terms of the tape's columns in every step, at padded places.
pub record TermsOf (t : Tape) (terms : List Term) : Type 0 where
  pub input : (k j : ℕ) → k < 12 → j < t.m → term_at terms (10 * k + j) ≡ column_term t (t.n + j) k
  pub state : (k i : ℕ) → k < 12 → i < t.n → term_at terms (10 * k + (4 + i)) ≡ column_term t i k
  pub no_input : (k j : ℕ) → k < 12 → t.m ≤ j → j < 4 → term_at terms (10 * k + j) ≡ blank_term
  pub no_state : (k i : ℕ) → k < 12 → t.n ≤ i → i < 6 → term_at terms (10 * k + (4 + i)) ≡ blank_term
  pub tables : Tables terms
