-- Sums of products: what `dot` gives, and how large they are.
use Prim.Native.Nat.{ℕ, ◌*◌, ◌^◌, ◌<◌, ◌≤◌}
use mathlib.Core.Path.{◌≡◌, ◌∙◌, ap}
use mathlib.Core.List.{List}
use native.Mathlib.Nat.{le_refl}
use lib.IntN.{ℤ, pos, nat_abs, ◌*ℤ◌}
use lib.Signed.{mag}
use Rattle.integer.specs.Places.{at, Bounded}
use Rattle.integer.specs.Sum.{sum}
use Rattle.integer.proofs.Sizes.{size-mul, called, back}
use Rattle.integer.proofs.Sum.{sum_cong, size-sum}

-- what `dot` gave, r, with the places counted otherwise
pub dotted : {r : ℤ} {g : ℕ → ℕ} (n : ℕ) (f : ℕ → ℤ) (l : List ℤ) (h : ℕ → ℕ) → mag r < 2 ^ 63 → r ≡ sum n (λ q. f q *ℤ at l (g q)) →
    ((q : ℕ) → g q ≡ h q) → back r ≡ sum n (λ q. f q *ℤ at l (h q))
dotted {r} n f l h ok e same = called r ok ∙ e ∙ sum_cong n _ _ (λ q _. ap (λ (p : ℕ). f q *ℤ at l p) (same q))

pub size_product_at : {A B : ℕ} {x y : List ℤ} → Bounded A x → Bounded B y → (p q : ℕ) → nat_abs (at x p *ℤ at y q) ≤ A * B
size_product_at {x = x} {y = y} hx hy p q = size-mul (at x p) (at y q) (hx.each p) (hy.each q)

pub size_products : {A B : ℕ} {x y : List ℤ} → Bounded A x → Bounded B y → (n : ℕ) (f g : ℕ → ℕ) →
    nat_abs (sum n (λ q. at x (f q) *ℤ at y (g q))) ≤ n * (A * B)
size_products {A} {B} hx hy n f g = size-sum n (A * B) _ (λ q _. size_product_at hx hy (f q) (g q))

-- 4096 times a number
pub size_units : {B : ℕ} {l : List ℤ} → Bounded B l → (p : ℕ) → nat_abs (pos 4096 *ℤ at l p) ≤ 4096 * B
size_units {l = l} b p = size-mul (pos 4096) (at l p) (le_refl 4096) (b.each p)
