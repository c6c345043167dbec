-- Slopes, pieces and multipliers by place and by step.
use Prim.Native.Nat.{ℕ, ◌+◌, ◌*◌, ◌-◌, ◌<◌}
use mathlib.Core.Path.{◌≡◌, ◌∙◌, ap}
use native.Mathlib.Omega.{arith}
use mathlib.Core.List.{List}
use lib.IntN.{ℤ, pos, nat_abs}
use borrow.Author.Tests.{lt-ltb, le-ltb}
use Rattle.integer.specs.Places.{at, Steps}
use Rattle.integer.specs.Sum.{sum}
use Rattle.problem.specs.Dual.{input_slope, state_slope, piece, pieces, sizes}
use Rattle.problem.proofs.Total.{total_cong}
use Rattle.problem.specs.declared.Term.{Term}
use Rattle.primal.specs.Padded.{state_matrix, input_matrix, padded, term_at, padded_problem}
use Rattle.primal.proofs.Places.{sum-steps, total_places}
use Rattle.dual.specs.Slopes.{by_place}

pub sizes_places : (N : ℕ) (y : List ℤ) → sum (6 * N) (λ p. pos (nat_abs (at y p))) ≡ sizes 6 N (padded y)
unfolding sizes
sizes_places N y = sum-steps 6 N (λ p. pos (nat_abs (at y p)))

pub place_input : (f g : ℕ → ℕ → ℤ) (k j : ℕ) → j < 4 → by_place f g k j ≡ f k j
unfolding by_place
place_input f g k j h = rw (lt-ltb j 4 h)

pub place_state : (f g : ℕ → ℕ → ℤ) (k i : ℕ) → by_place f g k (4 + i) ≡ g k i
unfolding by_place
place_state f g k i = let e : 4 + i - 4 ≡ i = omega arith in rw (le-ltb (4 + i) 4 (omega arith), e)

-- what `slopes` gives, by step and place
abbrev pub slope_at : List ℤ → List ℤ → List ℤ → ℕ → ℕ → ℕ → ℤ
slope_at a b y horizon = by_place (input_slope 6 (input_matrix b) (padded y)) (state_slope 6 horizon (state_matrix a) (padded y))

-- the pieces by place, from the slopes by place
pub pieces_places : (N : ℕ) (a b drift start : List ℤ) (terms : List Term) (y s : List ℤ) →
    Steps 10 N (slope_at a b y N) s → sum (10 * N) (λ p. piece (term_at terms p) (at s p)) ≡ pieces (padded_problem N a b drift start terms) (padded y)
unfolding pieces
pieces_places N a b drift start terms y s h =
    let f = input_slope 6 (input_matrix b) (padded y) in
    let g = state_slope 6 N (state_matrix a) (padded y) in
    total_places N (λ p. piece (term_at terms p) (at s p))
    ∙ total_cong 6 4 N _ _ _ _
    (λ k j l m. ap (piece (term_at terms (10 * k + j))) (h.each k j l (omega arith) ∙ place_input f g k j m))
    (λ k i l m. ap (piece (term_at terms (10 * k + (4 + i)))) (h.each k (4 + i) l (omega arith) ∙ place_state f g k i))
