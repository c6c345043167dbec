-- Places filled from the front, with zeros behind them; and the multipliers that such an array holds.
use Prim.Native.Nat.{ℕ, ◌+◌, ◌*◌, ◌<◌, ◌≤◌}
use mathlib.Core.Path.{◌≡◌, refl, ◌∙◌}
use mathlib.Core.Logic.{inr, ⊎_elim}
use mathlib.Core.List.{List}
use native.Mathlib.Omega.{arith}
use lib.ListN.{replicate}
use lib.IntN.{ℤ, pos, nat_abs}
use Rattle.integer.specs.Places.{at, Bounded, Stretch}
use Rattle.integer.proofs.Places.{lt_or_le, zeros, fill_at}
use Rattle.commands.specs.Ranges.{most_multiplier}
use Rattle.primal.specs.Held.{HeldMultipliers}

module _ (c : ℕ) {w : ℕ} {f : ℕ → ℤ} {l : List ℤ} (fill : Stretch 0 w f (replicate c (pos 0)) l) where
  behind : (p : ℕ) → w ≤ p → at l p ≡ pos 0
  behind p h = fill.outside p (inr (omega arith)) ∙ zeros c p

  -- a fact on 0 and on every number that is filled in holds of every place
  pub everywhere : (P : ℤ → Type 0) → P (pos 0) → (p : ℕ) → (p < w → P (f p)) → P (at l p)
  everywhere P none p some = ⊎_elim (λ h. rw (fill_at fill p h) (some h)) (λ h. rw (behind p h) none) (lt_or_le p w)

pub zeros-bounded : {B : ℕ} (c : ℕ) → Bounded B (replicate c (pos 0))
zeros-bounded c = record { each = λ p. rw (zeros c p) (omega arith) }

-- ---- Multipliers

pub held_multipliers : {n N : ℕ} {f : ℕ → ℤ} {l : List ℤ} → n ≤ 6 → Stretch 0 (6 * N) f (replicate 72 (pos 0)) l →
    ((p : ℕ) → nat_abs (f p) ≤ most_multiplier) → ((k i : ℕ) → k < N → n ≤ i → i < 6 → f (6 * k + i) ≡ pos 0) → HeldMultipliers n N (λ k i. f (6 * k + i)) l
held_multipliers {n} {N} {f} {l} few fill size blank = record {
  same = λ k i h m. fill_at fill (6 * k + i) (omega arith);
  blank = record { each = λ k i h m. everywhere 72 fill (λ z. z ≡ pos 0) refl (6 * k + i) (λ r. blank k i (omega arith) h m) };
  bounded = record { each = λ p. everywhere 72 fill (λ z. nat_abs z ≤ most_multiplier) (omega arith) p (λ _. size p) };
}
