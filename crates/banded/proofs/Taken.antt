-- Laws of the elimination: what taking a row leaves as it is, and what it changes.
use Prim.Native.Nat.{ℕ, zero, suc, ◌+◌, ◌-◌, ◌<◌, ◌≤◌}
use mathlib.Core.Path.{◌≡◌, refl, ◌∙◌}
use mathlib.Core.Bool.{Bool, true, false, cond, ◌&&◌}
use native.Mathlib.Omega.{arith}
use native.Mathlib.Decide.{dec_le}
use lib.Ieee.{Float}
use borrow.Author.Tests.{lt-ltb, le-ltb, le-leb, lt-leb}
use Rattle.banded.specs.Floats.{◌⊖◌, ◌⊗◌}
use Rattle.banded.specs.Elimination.{Matrix, follows, factor, taken, eliminated, sides}

module _ (band p a : ℕ) where
  pub follows_yes : p < a → a ≤ p + band → follows band p a ≡ true
  unfolding follows
  follows_yes h k = simp (lt-ltb p a h, le-leb a (p + band) k)

  pub follows_under : a ≤ p → follows band p a ≡ false
  unfolding follows
  follows_under h = simp (le-ltb p a h)

  pub follows_past : p + band < a → follows band p a ≡ false
  unfolding follows
  follows_past h = simp (lt-ltb p a (omega arith), lt-leb a (p + band) h)

module _ (band : ℕ) (w : Matrix) where
  -- a row that row p does not reach
  taken_past : (p a c : ℕ) → p + band < a → eliminated band w (suc p) a c ≡ eliminated band w p a c
  unfolding eliminated taken
  taken_past p a c h = simp (follows_past band p a h)

  -- a column that row p does not reach
  pub taken-column : (p a c : ℕ) → follows band p c ≡ false → eliminated band w (suc p) a c ≡ eliminated band w p a c
  unfolding eliminated taken
  taken-column p a c h = rw h (neither (follows band p a) _ _)
    where
      neither : (t : Bool) (x y : Float) → cond (t && false) x y ≡ y
      neither true x y = refl
      neither false x y = refl

  -- an entry that row p reaches
  pub taken_entry : (p a c : ℕ) → follows band p a ≡ true → follows band p c ≡ true
      → eliminated band w (suc p) a c ≡ eliminated band w p a c ⊖ (factor (eliminated band w p) p a ⊗ eliminated band w p p c)
  unfolding eliminated taken
  taken_entry p a c h k = simp (h, k)

  -- the first row that reaches row a
  pub eliminated-first : (a c : ℕ) → eliminated band w (a - band) a c ≡ w a c
  unfolding eliminated
  eliminated-first a c = from (dec_le band a)
    where
      early : (p : ℕ) → p + band ≤ a → eliminated band w p a c ≡ w a c
      early zero h = refl
      early (suc p) h = taken_past p a c (omega arith) ∙ early p (omega arith)

      from : Dec (band ≤ a) → eliminated band w (a - band) a c ≡ w a c
      from (yes h) = early (a - band) (omega arith)
      from (no h) =
          let e : a - band ≡ 0 = omega arith in
          rw e refl

  pub sides_first : (e : ℕ → Float) (a : ℕ) → sides band w e (a - band) a ≡ e a
  unfolding sides
  sides_first e a = from (dec_le band a)
    where
      early : (p : ℕ) → p + band ≤ a → sides band w e p a ≡ e a
      early zero h = refl
      early (suc p) h = simp (follows_past band p a (omega arith)) (early p (omega arith))

      from : Dec (band ≤ a) → sides band w e (a - band) a ≡ e a
      from (yes h) = early (a - band) (omega arith)
      from (no h) =
          let z : a - band ≡ 0 = omega arith in
          rw z refl
