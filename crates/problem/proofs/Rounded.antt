-- Document 01's floor, whose third piece has the quotient rounded down, lies above the floor by at most one for each plan number. So the
-- gap of a plan and multipliers has grown by at most N(n+m).
use Prim.Native.Nat.{ℕ, zero, suc, ◌+◌, ◌*◌, ◌<◌}
use mathlib.Core.Path.{◌≡◌, refl, ◌∙◌, ap, ap₂}
use mathlib.Core.Bool.{Bool, true, false, cond}
use mathlib.Core.List.{List}
use native.Mathlib.Omega.{arith}
use lib.IntN.{ℤ, pos, ◌+ℤ◌, ◌-ℤ◌, ◌*ℤ◌}
use lib.Signed.{le_z}
use Rattle.integer.specs.Order.{◌≼◌}
use Rattle.integer.specs.Quotient.{◌÷◌}
use Rattle.integer.specs.Sum.{sum}
use Rattle.integer.proofs.Parts.{plus, minus, times}
use Rattle.integer.proofs.Order.{order}
use Rattle.integer.proofs.Quotient.{up_down}
use Rattle.integer.proofs.Sum.{sum_cong, sum-mul}
use Rattle.tape.specs.declared.Tape.{Tape}
use Rattle.tape.specs.Legal.{Legal}
use Rattle.problem.specs.declared.Term.{Term}
use Rattle.problem.specs.Model.{Problem, problem_of, multipliers_of}
use Rattle.problem.specs.Cost.{total, square, cost, cost_of}
use Rattle.problem.specs.Dual.{input_slope, state_slope, weightless, unweighted, conjugate, tilt, piece, pieces, constant, sizes, floor, floor_of, gap_of}
use Rattle.problem.proofs.Total.{total-add, total-le}
use Rattle.problem.proofs.Piece.{conjugate-is}
use Rattle.problem.proofs.Bound.{Sound}
use Rattle.problem.proofs.Duality.{sound}

-- ---- Piece and floor by any quotient for the third piece

-- by the three tests: at weight 0, at lo, at hi, or the third
abbrev chosen : Bool → Bool → Bool → Term → ℤ → ℤ → ℤ
chosen unweighed low high t s third =
    cond unweighed (s *ℤ unweighted t.low t.high s)
    (cond low (cost t t.low +ℤ s *ℤ t.low)
    (cond high (cost t t.high +ℤ s *ℤ t.high)
    third))

abbrev piece_by : (ℤ → ℤ → ℤ) → Term → ℤ → ℤ
piece_by c t s =
    chosen (weightless t.penalty) (le_z (pos 0) (tilt t s t.low)) (le_z (tilt t s t.high) (pos 0)) t s
    (s *ℤ t.reference -ℤ c t.penalty s)

unfoldable pub pieces_by : (ℤ → ℤ → ℤ) → Problem → (ℕ → ℕ → ℤ) → ℤ
pieces_by c q y =
    total q.n q.m q.horizon
    (λ k j. piece_by c (q.input_term k j) (input_slope q.n q.B y k j))
    (λ k i. piece_by c (q.state_term k i) (state_slope q.n q.horizon q.A y k i))

unfoldable pub floor_by : (ℤ → ℤ → ℤ) → Problem → (ℕ → ℕ → ℤ) → ℤ
floor_by c q y = pieces_by c q y +ℤ constant q y -ℤ pos 2048 *ℤ sizes q.n q.horizon y

-- with its own quotient it is the floor
floor_by_lem : (q : Problem) (y : ℕ → ℕ → ℤ) → floor_by conjugate q y ≡ floor q y
unfolding pieces_by floor_by piece pieces floor
floor_by_lem q y = refl

-- document 01's
unfoldable pub conjugate_down : ℤ → ℤ → ℤ
conjugate_down p s = square s ÷ (pos 4 *ℤ p)

-- ---- b is a, or one less

abbrev OneLess : ℤ → ℤ → Type 0
OneLess a b = (b ≼ a) × (a ≼ b +ℤ pos 1)

piece-rounded : (t : Term) (s : ℤ) → pos 0 ≼ t.penalty → OneLess (piece_by conjugate_down t s) (piece t s)
unfolding piece conjugate_down
piece-rounded t s weighed = go (weightless t.penalty) (le_z (pos 0) (tilt t s t.low)) (le_z (tilt t s t.high) (pos 0)) refl
  where
    same : (a : ℤ) → OneLess a a
    same a = omega (arith, order, plus a (pos 1))

    third : pos 1 ≼ t.penalty → OneLess (s *ℤ t.reference -ℤ conjugate_down t.penalty s) (s *ℤ t.reference -ℤ conjugate t.penalty s)
    third one =
        let z = s *ℤ t.reference in
        let d = square s ÷ (pos 4 *ℤ t.penalty) in
        let u = conjugate t.penalty s in
        let r = rw (← conjugate-is t.penalty s one) at (up_down (square s) (pos 4 *ℤ t.penalty) (omega (arith, order, times (pos 4) t.penalty))) in
        omega (arith, order, minus z d, minus z u, plus d (pos 1), plus (z -ℤ u) (pos 1))

    go : (w l h : Bool) → weightless t.penalty ≡ w →
        OneLess (chosen w l h t s (s *ℤ t.reference -ℤ conjugate_down t.penalty s)) (chosen w l h t s (s *ℤ t.reference -ℤ conjugate t.penalty s))
    go true l h e = same (s *ℤ unweighted t.low t.high s)
    go false true h e = same (cost t t.low +ℤ s *ℤ t.low)
    go false false true e = same (cost t t.high +ℤ s *ℤ t.high)
    go false false false e = third (omega (arith, order))

-- ---- As many ones as there are plan numbers

sum_one : (n : ℕ) → sum n (λ _. pos 1) ≡ pos n
unfolding sum
sum_one zero = refl
sum_one (suc n) = ap (λ (z : ℤ). z +ℤ pos 1) (sum_one n) ∙ ap pos (omega arith)

total_one : (n m horizon : ℕ) → total n m horizon (λ _ _. pos 1) (λ _ _. pos 1) ≡ pos (horizon * (n + m))
unfolding total
total_one n m horizon =
    let e : pos m +ℤ pos n ≡ pos (n + m) *ℤ pos 1 = ap pos (omega arith) in
    sum_cong horizon _ _ (λ k h. ap₂ (λ (p q : ℤ). p +ℤ q) (sum_one m) (sum_one n) ∙ e)
    ∙ sum-mul horizon (pos (n + m)) (λ _. pos 1)
    ∙ ap (λ (z : ℤ). pos (n + m) *ℤ z) (sum_one horizon)
    ∙ ap pos (omega arith)

-- ---- The floor, and the gap

module _ (q : Problem) (ok : Sound q) (y : ℕ → ℕ → ℤ) where
  abbrev numbers : ℤ
  numbers = pos (q.horizon * (q.n + q.m))

  input : (k j : ℕ) → j < q.m →
      let s = input_slope q.n q.B y k j in
      OneLess (piece_by conjugate_down (q.input_term k j) s) (piece (q.input_term k j) s)
  input k j l = piece-rounded (q.input_term k j) (input_slope q.n q.B y k j) (ok.inputs k j l)

  state : (k i : ℕ) → i < q.n →
      let s = state_slope q.n q.horizon q.A y k i in
      OneLess (piece_by conjugate_down (q.state_term k i) s) (piece (q.state_term k i) s)
  state k i l = piece-rounded (q.state_term k i) (state_slope q.n q.horizon q.A y k i) (ok.states k i l)

  pieces-rounded : (pieces q y ≼ pieces_by conjugate_down q y) × (pieces_by conjugate_down q y ≼ pieces q y +ℤ numbers)
  unfolding pieces_by pieces
  pieces-rounded = (
    total-le q.n q.m q.horizon _ _ _ _ (λ k j _ l. (input k j l).0) (λ k i _ l. (state k i l).0),
    rw (← total_one q.n q.m q.horizon, ← total-add)
        (total-le q.n q.m q.horizon _ _ _ _ (λ k j _ l. (input k j l).1) (λ k i _ l. (state k i l).1)),
  )

  pub floor-rounded : (floor q y ≼ floor_by conjugate_down q y) × (floor_by conjugate_down q y ≼ floor q y +ℤ numbers)
  unfolding floor_by floor
  floor-rounded =
      let r = pieces-rounded in
      let c = constant q y in
      let z = pos 2048 *ℤ sizes q.n q.horizon y in
      let new = pieces q y in
      let old = pieces_by conjugate_down q y in
      omega (
        arith,
        order,
        plus new c,
        plus old c,
        minus (new +ℤ c) z,
        minus (old +ℤ c) z,
        plus new numbers,
        plus (new +ℤ c -ℤ z) numbers,
      )

module _ (t : Tape) (legal : Legal t) (v y : List ℤ) where
  -- document 01's gap of a plan and multipliers
  abbrev pub gap_down_of : ℤ
  gap_down_of = cost_of t v -ℤ floor_by conjugate_down (problem_of t) (multipliers_of t.n y)

  pub gap_grows : (gap_down_of ≼ gap_of t v y) × (gap_of t v y ≼ gap_down_of +ℤ pos (t.horizon * (t.n + t.m)))
  gap_grows =
      let r = floor-rounded (problem_of t) (sound t legal) (multipliers_of t.n y) in
      let old = floor_by conjugate_down (problem_of t) (multipliers_of t.n y) in
      let new = floor_of t y in
      let numbers = pos (t.horizon * (t.n + t.m)) in
      omega (arith, order, minus (cost_of t v) old, minus (cost_of t v) new, plus new numbers, plus gap_down_of numbers)
