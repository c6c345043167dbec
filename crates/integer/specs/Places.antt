-- Arrays and slices as lists: what stands at a place, how large it is, and what a stretch of stores leaves.
use Rattle.std.specs.Prelude.{ℕ, ◌+◌, ◌*◌, ◌<◌, ◌≤◌, ◌≡◌, ◌⊎◌, List, length, get_or, ℤ, pos, nat_abs}

-- The number at a place, 0 past the end.
abbrev pub at : List ℤ → ℕ → ℤ
at l p = get_or l p (pos 0)

-- Every number is at most B in size.
pub record Bounded (B : ℕ) (l : List ℤ) : Type 0 where
  pub each : (p : ℕ) → nat_abs (at l p) ≤ B

-- `new` is `old` but for the w places from o on, which hold f 0, f 1, ..
pub record Stretch (o w : ℕ) (f : ℕ → ℤ) (old new : List ℤ) : Type 0 where
  pub inside : (j : ℕ) → j < w → at new (o + j) ≡ f j
  pub outside : (p : ℕ) → (p < o) ⊎ (o + w ≤ p) → at new p ≡ at old p
  pub same : length new ≡ length old

-- k steps of d places each hold g 0 0, g 0 1, .. then g 1 0, ..; the places behind them hold 0.
pub record Steps (d k : ℕ) (g : ℕ → ℕ → ℤ) (l : List ℤ) : Type 0 where
  pub each : (q j : ℕ) → q < k → j < d → at l (d * q + j) ≡ g q j
  pub rest : (p : ℕ) → d * k ≤ p → at l p ≡ pos 0
