-- Laws of W: the sizes of its coefficients, and its sums step by step.
use Prim.Native.Nat.{ℕ, ◌+◌, ◌-◌, ◌*◌, ◌^◌, ◌<◌, ◌≤◌}
use mathlib.Core.Path.{◌≡◌, refl, ap}
use mathlib.Core.Bool.{Bool, true, false, cond}
use mathlib.Core.List.{List}
use native.Mathlib.Numerals.{add-one}
use native.Mathlib.Omega.{arith}
use lib.Dec.{eqb}
use lib.IntN.{ℤ, pos, negsuc, nat_abs, ◌*ℤ◌}
use lib.ListN.{length, set}
use lib.Signed.{mag}
use lib.Ieee.{Float, nan}
use Rattle.integer.specs.Places.{at, Bounded}
use Rattle.problem.specs.Model.{Problem}
use Rattle.primal.specs.Padded.{state_matrix, input_matrix}
use Rattle.integer.proofs.Sizes.{back, called, Formed, formed, size-mul}
use Rattle.banded.specs.Floats.{float_at, sum_from}
use Rattle.banded.specs.Elimination.{Matrix, eliminated}
use Rattle.banded.specs.Weights.{input_coefficient, state_coefficient, share, input_share, state_share, weight_to}
use Rattle.banded.specs.Rows.{Working}
use Rattle.banded.proofs.Stores.{stored, below}

chosen_size : (t : Bool) (x y : ℤ) {B : ℕ} → nat_abs x ≤ B → nat_abs y ≤ B → nat_abs (cond t x y) ≤ B
chosen_size true x y h k = h
chosen_size false x y h k = k

pub input-size : {b : List ℤ} → Bounded 16384 b → (k i s j : ℕ) → nat_abs (input_coefficient (input_matrix b) k i s j) ≤ 16384
unfolding input_coefficient
input-size {b} h k i s j = chosen_size (eqb s k) (at b (4 * i + j)) (pos 0) (h.each (4 * i + j)) (omega arith)

pub state-size : {a : List ℤ} → Bounded 16384 a → (k i s j : ℕ) → nat_abs (state_coefficient (state_matrix a) k i s j) ≤ 16384
unfolding state_coefficient
state-size {a} h k i s j =
    chosen_size (eqb s k) (cond (eqb j i) (negsuc 4095) (pos 0)) (cond (eqb (s + 1) k) (at a (6 * i + j)) (pos 0))
    (chosen_size (eqb j i) (negsuc 4095) (pos 0) (omega arith) (omega arith))
    (chosen_size (eqb (s + 1) k) (at a (6 * i + j)) (pos 0) (h.each (6 * i + j)) (omega arith))

-- 2P as the code forms it
module _ (h : ℤ) (small : nat_abs h ≤ 255) where
  pub weight_is : Formed h h
  weight_is = formed refl small (omega arith)

  pub penalty-is : Formed (pos 4096 *ℤ back h) (pos 4096 *ℤ h)
  penalty-is = formed (ap (λ (z : ℤ). pos 4096 *ℤ z) weight_is.is) (size-mul (pos 4096) h {A = 4096} (omega arith) small) (omega arith)

  pub doubled_size : nat_abs (pos 2 *ℤ (pos 4096 *ℤ h)) ≤ 2088960
  doubled_size = size-mul (pos 2) (pos 4096 *ℤ h) {A = 2} (omega arith) (size-mul (pos 4096) h {A = 4096} (omega arith) small)

  pub doubled_is : Formed (pos 2 *ℤ back (pos 4096 *ℤ back h)) (pos 2 *ℤ (pos 4096 *ℤ h))
  doubled_is = formed (ap (λ (z : ℤ). pos 2 *ℤ z) penalty-is.is) doubled_size (omega arith)

-- a call's result, as it is read back
pub sized_back : (r w : ℤ) {B : ℕ} → mag r < 2 ^ 63 → r ≡ w → nat_abs w ≤ B → nat_abs (back r) ≤ B
sized_back r w ok e h = rw (called r ok, e) h

pub share_cong : (x y h x' y' h' : ℤ) → x ≡ x' → y ≡ y' → h ≡ h' → share x y (pos 4096 *ℤ h) ≡ share x' y' (pos 4096 *ℤ h')
share_cong x y h x' y' h' e f g = rw (e, f, g) refl

-- one step more
pub weight_more : (q : Problem) (k i l j s : ℕ) (sum more : Float) → sum ≡ weight_to q k i l j s
    → more ≡ sum_from sum q.m (input_share q.B (λ c. (q.input_term s c).penalty) k i l j s)
    → sum_from more q.n (state_share q.A (λ c. (q.state_term s c).penalty) k i l j s) ≡ weight_to q k i l j (s + 1)
unfolding weight_to
weight_more q k i l j s sum more h g = rw (g, h, add-one) refl

-- Row `row` of W is filled up to column c.
pub record FilledTo (band : ℕ) (w : Matrix) (row c : ℕ) (x : List Float) : Type 0 where
  pub each : (b s : ℕ) → b + 11 ≡ row + s → b < c → row ≤ b + band → float_at x s ≡ w row b

module _ (band : ℕ) (w : Matrix) (row : ℕ) (x : List Float) where
  pub filled_none : FilledTo band w row (row - band) x
  filled_none = record { each = λ b s e l u. absurd (omega arith) }

  pub filled_store : (c s : ℕ) (v : Float) → c + 11 ≡ row + s → s < length x → v ≡ w row c → FilledTo band w row c x → FilledTo band w row (c + 1) (set x s v)
  filled_store c s v here room e o = record {
    each = λ b t g l u. stored nan x s v t room (λ y. y ≡ w row b)
        (λ z. let y : b ≡ c = omega arith in rw y e)
        (λ z. o.each b t g (below b c l (λ y. z (omega arith))) u);
  }

  pub filled_all : (c : ℕ) → row + band < c → FilledTo band w row c x → Working band w 0 row x
  unfolding eliminated
  filled_all c h o = record { each = λ b s e l u. o.each b s e (omega arith) u }
