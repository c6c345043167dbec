-- Parts of a slice that are lent one after the other and come back filled, and the numbers that stand first in a plan.
use Prim.Native.Nat.{ℕ, ◌+◌, ◌*◌, ◌-◌, ◌<◌, ◌≤◌}
use mathlib.Core.Path.{◌≡◌, refl, sym, ◌∙◌, ap, ap₂}
use mathlib.Core.List.{List, ◌++◌}
use native.Mathlib.Omega.{arith}
use lib.ListN.{length, take}
use lib.Seq.{take_all}
use lib.IntN.{ℤ}
use borrow.Rule.Slice.PartMut.{mid_of, put_mid}
use Rattle.integer.specs.Places.{at}
use Rattle.integer.proofs.Places.{step_room}
use Rattle.integer.proofs.Middle.{length_part, length_put, front_put}
use Rattle.problem.specs.Model.{Plan}
use Rattle.primal.specs.Lent.{joined, lent_plan}
use Rattle.primal.proofs.Lent.{joined_more, lent_plan_input}

-- ---- Step by step

-- k steps, each w long, are written
pub record WrittenSteps (w k : ℕ) (f : ℕ → List ℤ) (old new : List ℤ) : Type 0 where
  pub same : length new ≡ length old
  pub front : take (k * w) new ≡ joined k f

pub written_none : (w : ℕ) (f : ℕ → List ℤ) (l : List ℤ) → WrittenSteps w 0 f l l
unfolding joined
written_none w f l = let z : 0 * w ≡ 0 = omega arith in record { same = refl; front = rw z refl }

module _ {w k N : ℕ} {f : ℕ → List ℤ} {old new : List ℤ} (s : WrittenSteps w k f old new) (l : length old ≡ N * w) where
  -- the next step lies within the slice
  pub written_room : k < N → k * w + w ≤ length new
  written_room h = omega (arith, s.same, step_room w k N h)

  pub written_part : k < N → length (mid_of (k * w) (k * w + w - k * w) new) ≡ w
  written_part h = length_part (k * w) (k * w + w) w new refl (written_room h)

  pub written_more : (zs : List ℤ) → k < N → zs ≡ f k → length (f k) ≡ w → WrittenSteps w (k + 1) f old (put_mid (k * w) (k * w + w - k * w) new zs)
  written_more zs h e n =
      let next : (k + 1) * w ≡ k * w + w = omega arith in
      record {
        same = length_put (k * w) (k * w + w) w new refl (written_room h) zs (ap length e ∙ n) ∙ s.same;
        front = rw next (front_put (k * w) (k * w + w) w new refl (written_room h) zs (ap length e ∙ n) ∙ ap₂ ◌++◌ s.front e ∙ sym (joined_more k f));
      }

  pub written_whole : k ≡ N → new ≡ joined N f
  written_whole e = let n : length new ≡ k * w = s.same ∙ l ∙ ap (λ (n : ℕ). n * w) (sym e) in sym (take_all (k * w) new (omega (arith, n))) ∙ s.front ∙ ap (λ (n : ℕ). joined n f) e

-- ---- A plan's first numbers

-- u(0) stands first
pub first-inputs : (n m horizon : ℕ) (v : Plan) (j : ℕ) → 1 ≤ horizon → j < m → at (lent_plan n m horizon v) j ≡ v.u 0 j
first-inputs n m horizon v j h l =
    let z : j ≡ 0 * (n + m) + j = omega arith in
    ap (at (lent_plan n m horizon v)) z ∙ lent_plan_input n m horizon v 0 j h l
