-- Document 01, "Multipliers and the floor under all plans".
use Rattle.std.specs.Prelude.{ℕ, ◌+◌, Bool, cond, List, ltb, ℤ, pos, negsuc, nat_abs, ◌+ℤ◌, ◌-ℤ◌, ◌*ℤ◌}
use Rattle.std.specs.Int.Signed.{le_z, lt_z}
use Rattle.integer.specs.Quotient.{quotient_up}
use Rattle.integer.specs.Sum.{sum}
use Rattle.tape.specs.declared.Tape.{Tape}
use Rattle.problem.specs.declared.Term.{Term}
use Rattle.problem.specs.Model.{Problem, problem_of, multipliers_of}
use Rattle.problem.specs.Cost.{total, square, cost, cost_of}

-- ---- Slopes

-- Of u(k,j): the sum over i of y(k,i) B(i,j).
unfoldable pub input_slope : ℕ → (ℕ → ℕ → ℤ) → (ℕ → ℕ → ℤ) → ℕ → ℕ → ℤ
input_slope n B y k j = sum n (λ i. y k i *ℤ B i j)

-- The sum over q of y(k,q) A(q,j): A's transpose times y(k).
unfoldable pub adjoint : ℕ → (ℕ → ℕ → ℤ) → (ℕ → ℕ → ℤ) → ℕ → ℕ → ℤ
adjoint n A y k j = sum n (λ q. y k q *ℤ A q j)

-- What A adds to the slope of x(k+1,i), where there is a step k+1.
unfoldable pub carried : ℕ → ℕ → (ℕ → ℕ → ℤ) → (ℕ → ℕ → ℤ) → ℕ → ℕ → ℤ
carried n horizon A y k i = cond (ltb (k + 1) horizon) (adjoint n A y (k + 1) i) (pos 0)

-- Of x(k+1,i): −4096 y(k,i), and that.
unfoldable pub state_slope : ℕ → ℕ → (ℕ → ℕ → ℤ) → (ℕ → ℕ → ℤ) → ℕ → ℕ → ℤ
state_slope n horizon A y k i = negsuc 4095 *ℤ y k i +ℤ carried n horizon A y k i

-- ---- Pieces: the least of P (v − r)² + s v over the numbers v from lo to hi, rounded down where it is not whole

-- P = 0: a column of weight 0 (document 02, request 4). P is never below 0.
abbrev pub weightless : ℤ → Bool
weightless p = le_z p (pos 0)

-- The number of such a column: lo where s ≥ 0, hi otherwise.
unfoldable pub unweighted : ℤ → ℤ → ℤ → ℤ
unweighted lo hi s = cond (le_z (pos 0) s) lo hi

-- s² / 4P, rounded up, since rivals lie between whole units too (document 02, request 7); 0 at P = 0, where no piece has it.
unfoldable pub conjugate : ℤ → ℤ → ℤ
conjugate p s = cond (weightless p) (pos 0) (quotient_up (square s) (pos 4 *ℤ p))

-- 2P (v − r) + s.
unfoldable pub tilt : Term → ℤ → ℤ → ℤ
tilt t s v = pos 2 *ℤ t.penalty *ℤ (v -ℤ t.reference) +ℤ s

-- Which of document 01's three applies where P is from 1.
abbrev pub by_piece : Term → ℤ → ℤ → ℤ → ℤ → ℤ
by_piece t s first second third =
    cond (le_z (pos 0) (tilt t s t.low)) first (cond (le_z (tilt t s t.high) (pos 0)) second third)

-- At P = 0 s × lo where s ≥ 0, s × hi otherwise; else one of the three.
unfoldable pub piece : Term → ℤ → ℤ
piece t s =
    cond (weightless t.penalty) (s *ℤ unweighted t.low t.high s)
    (by_piece t s (cost t t.low +ℤ s *ℤ t.low) (cost t t.high +ℤ s *ℤ t.high) (s *ℤ t.reference -ℤ conjugate t.penalty s))

unfoldable pub pieces : Problem → (ℕ → ℕ → ℤ) → ℤ
pieces q y =
    total q.n q.m q.horizon
    (λ k j. piece (q.input_term k j) (input_slope q.n q.B y k j))
    (λ k i. piece (q.state_term k i) (state_slope q.n q.horizon q.A y k i))

-- ---- Floor and gap

-- The sum of y(k,i) w(i) over all k and i, plus y(0,i) A(i,j) x(0,j) over i and j, which is summed over i first.
unfoldable pub constant : Problem → (ℕ → ℕ → ℤ) → ℤ
constant q y =
    sum q.horizon (λ k. sum q.n (λ i. y k i *ℤ q.w i))
    +ℤ sum q.n (λ j. adjoint q.n q.A y 0 j *ℤ q.start j)

-- The sum of |y|.
unfoldable pub sizes : ℕ → ℕ → (ℕ → ℕ → ℤ) → ℤ
sizes n horizon y = sum horizon (λ k. sum n (λ i. pos (nat_abs (y k i))))

unfoldable pub floor : Problem → (ℕ → ℕ → ℤ) → ℤ
floor q y = pieces q y +ℤ constant q y -ℤ pos 2048 *ℤ sizes q.n q.horizon y

-- Of lent multipliers.
abbrev pub floor_of : Tape → List ℤ → ℤ
floor_of t y = floor (problem_of t) (multipliers_of t.n y)

abbrev pub gap_of : Tape → List ℤ → List ℤ → ℤ
gap_of t v y = cost_of t v -ℤ floor_of t y

-- ---- Ceiling

unfoldable pub larger : ℤ → ℤ → ℤ
larger a b = cond (le_z a b) b a

-- P times the larger of (lo − r)² and (hi − r)².
unfoldable pub most : Term → ℤ
most t = t.penalty *ℤ larger (square (t.low -ℤ t.reference)) (square (t.high -ℤ t.reference))

unfoldable pub ceiling : Problem → ℤ
ceiling q = total q.n q.m q.horizon (λ k j. most (q.input_term k j)) (λ k i. most (q.state_term k i))

-- The floor exceeds the ceiling: the multipliers show impossibility.
abbrev pub shows : Problem → (ℕ → ℕ → ℤ) → Bool
shows q y = lt_z (ceiling q) (floor q y)
