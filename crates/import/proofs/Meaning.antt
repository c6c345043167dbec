-- What `imported` says of an entry, over whole numbers.
use Prim.Native.Nat.{ℕ, ◌<◌, ◌≤◌}
use mathlib.Core.Path.{◌≡◌, sym, ap, ap₂, ◌∙◌, subst}
use mathlib.Core.Bool.{true, false, true≢false}
use native.Mathlib.Omega.{arith}
use lib.Dec.{T, eqb, ltb}
use lib.IntN.{ℤ, pos, neg_ℤ, nat_abs, ◌-ℤ◌, ◌*ℤ◌}
use lib.Ieee.{Float, binary64, fits}
use lib.Ieee.Bits.{is_true}
use borrow.Author.Tests.{ltb-true, ltb-false, eqb-true, eqb-false, lt-ltb, le-ltb, eq-eqb, ne_eqb}
use Rattle.std.specs.Prelude.{Result, Ok, Err}
use Rattle.integer.specs.Order.{◌≼◌, ◌≺◌}
use Rattle.integer.proofs.Parts.{plus, minus, negated, times}
use Rattle.integer.proofs.Ring.{ring, K, ⊝, ◌⊗◌, ◌≐◌}
use Rattle.integer.proofs.Order.{order, le→, lt→, eq→, mul-le, mul-lt, mul_cancel_le, mul_cancel_lt}
use Rattle.integer.proofs.Sizes.{size_parts}
use Rattle.integer.proofs.Tests.{by_test}
use Rattle.float.specs.Value.{finite, Finite, numerator, denominator, Equals, float_of}
use Rattle.float.specs.Nearest.{Nearest}
use Rattle.float.proofs.Values.{denominator_pos, from_one}
use Rattle.float.proofs.Rounded.{nearest-from, nearest-below, nearest_by, nearest-is}
use Rattle.import.specs.Entries.{scaled, number, rest, imported, Rounds, Is, UnderHalf, Left, Exact}
use Rattle.import.specs.declared.Entry.{Entry}
use Rattle.import.specs.declared.Entry.TheVariants.{Whole, Near}
use Rattle.import.specs.declared.ImportError.{ImportError}
use Rattle.import.specs.declared.ImportError.TheVariants.{NotFinite, TooLarge}
use Rattle.import.proofs.Bounds.{is-nearest}
use Rattle.import.proofs.Product.{leftover_is, leftover_value}

-- ---- A fraction that is what is left of p / d

under_half : (p : ℤ) (d : ℕ) (k : ℤ) (x : Float) → 0 < d → Nearest p d k → Equals x (p -ℤ k *ℤ pos d) d → UnderHalf x
under_half p d k x h near v =
    let n = numerator x in
    let c = pos (denominator x) in
    let D = pos d in
    let u = k *ℤ D in
    let z = p -ℤ u in
    let C : pos 1 ≼ c = from_one (denominator x) (denominator_pos x) in
    let E : pos 1 ≼ D = from_one d h in
    let l : neg_ℤ D ≼ pos 2 *ℤ z =
    omega (arith, order, le→ (nearest-from near), negated D, minus p u, minus (pos 2 *ℤ u) D, times (pos 2) z, times (pos 2) u, times (pos 2) p) in
    let h : pos 2 *ℤ z ≺ D =
    omega (arith, order, lt→ (nearest-below near), minus p u, plus (pos 2 *ℤ u) D, times (pos 2) z, times (pos 2) u, times (pos 2) p) in
    let e : c *ℤ (pos 2 *ℤ z) ≡ D *ℤ (pos 2 *ℤ n) =
    ring 2 (λ c z. c ⊗ (K 2 ⊗ z) ≐ K 2 ⊗ (z ⊗ c)) tt c z ∙ ap (λ (y : ℤ). pos 2 *ℤ y) (sym v.value) ∙ ring 2 (λ n d. K 2 ⊗ (n ⊗ d) ≐ d ⊗ (K 2 ⊗ n)) tt n D in
    let f : c *ℤ neg_ℤ D ≡ D *ℤ neg_ℤ c = ring 2 (λ c d. c ⊗ (⊝ d) ≐ d ⊗ (⊝ c)) tt c D in
    let g : c *ℤ D ≡ D *ℤ c = ring 2 (λ c d. c ⊗ d ≐ d ⊗ c) tt c D in
    record {
      from = mul_cancel_le D E (rw (f, e) at (mul-le c (omega (arith, order, le→ C)) l));
      below = mul_cancel_lt D (omega (arith, order, le→ E)) (rw (e, g) at (mul-lt c C h));
    }

-- a whole number is nearest to itself
nearest-itself : (z : ℤ) (d : ℕ) → 0 < d → Nearest (z *ℤ pos d) d z
nearest-itself z d h =
    let u = z *ℤ pos d in
    nearest_by (omega (arith, order, minus (pos 2 *ℤ u) (pos d))) (omega (arith, order, plus (pos 2 *ℤ u) (pos d)))

-- ---- The cases of `imported`

module _ (a : Float) (f : Finite a) where
  rounds : Rounds a (number a)
  rounds = record { finite = f; nearest = is-nearest a f }

  -- where 4096 × a is a whole number, that is the number
  only_number : (z : ℤ) → Is a z → z ≡ number a
  unfolding number
  only_number z e = nearest-is (scaled a) (denominator a) z (denominator_pos a) (rw e (nearest-itself z (denominator a) (denominator_pos a)))

  pub nothing_left : Is a (number a) → nat_abs (rest a) ≡ 0
  unfolding rest
  nothing_left e =
      let u = number a *ℤ pos (denominator a) in
      omega (arith, eq→ e, size_parts (scaled a -ℤ u), minus (scaled a) u)

  pub is_number : nat_abs (rest a) ≡ 0 → Is a (number a)
  unfolding rest
  is_number e =
      let u = number a *ℤ pos (denominator a) in
      omega (arith, order, e, size_parts (scaled a -ℤ u), minus (scaled a) u)

  module _ (g : T (fits binary64 a)) (s : nat_abs (number a) ≤ 16384) where
    left : (nat_abs (rest a) ≡ 0 → ⊥) → Left a (number a) (float_of (rest a) (denominator a))
    unfolding rest
    left n =
        let broken : (z : ℤ) → Is a z → ⊥ = λ z e. n (nothing_left (subst (λ (w : ℤ). Is a w) (only_number z e) e)) in
        let v = rw (leftover_is a f g s (broken (number a))) at (leftover_value a f g s) in
        record { broken = broken; exactly = v; range = under_half (scaled a) (denominator a) (number a) _ (denominator_pos a) (is-nearest a f) v }

-- P of what `imported` gives, from P of each of its cases and what the tests say there
pub by_case : (P : Result Entry ImportError → Type 0) (a : Float) → (finite a ≡ false → P (Err NotFinite)) → (Finite a → 16384 < nat_abs (number a) → P (Err TooLarge))
    → (Finite a → nat_abs (number a) ≤ 16384 → nat_abs (rest a) ≡ 0 → P (Ok (Whole (number a))))
    → (Finite a → nat_abs (number a) ≤ 16384 → (nat_abs (rest a) ≡ 0 → ⊥) → P (Ok (Near (number a) (float_of (rest a) (denominator a))))) → P (imported a)
unfolding imported
by_case P a not-Finite large whole near =
    by_test P (finite a)
    (λ e. let f = subst T (sym e) tt in
    by_test P (ltb 16384 (nat_abs (number a)))
    (λ t. large f (ltb-true 16384 (nat_abs (number a)) t))
    (λ t. let s = ltb-false 16384 (nat_abs (number a)) t in
    by_test P (eqb (nat_abs (rest a)) 0) (λ z. whole f s (eqb-true (nat_abs (rest a)) 0 z)) (λ z. near f s (eqb-false (nat_abs (rest a)) 0 z))))
    not-Finite

pub exact : (a : Float) → T (fits binary64 a) → Exact a (imported a)
exact a g =
    by_case (Exact a) a
    (λ e f. true≢false (sym (is_true (finite a) f) ∙ e))
    (λ f s. (number a, rounds a f, s))
    (λ f s z. (rounds a f, s, is_number a f z))
    (λ f s z. (rounds a f, s, left a f g s z))

-- ---- What `import_entry` hands over, by what its tests have found

module _ (a : Float) (g : T (fits binary64 a)) where
  abbrev Answers : Result Entry ImportError → Type 0
  Answers r = (r ≡ imported a) × Exact a r

  answers : (r : Result Entry ImportError) → r ≡ imported a → Answers r
  answers r e = (e, subst (Exact a) (sym e) (exact a g))

  pub not_finite_answers : finite a ≡ false → Answers (Err NotFinite)
  unfolding imported
  not_finite_answers f = answers (Err NotFinite) (rw f)

  module _ (f : finite a ≡ true) where
    pub large_answers : 16384 < nat_abs (number a) → Answers (Err TooLarge)
    unfolding imported
    large_answers l = answers (Err TooLarge) (rw (f, lt-ltb 16384 (nat_abs (number a)) l))

    module _ (l : nat_abs (number a) ≤ 16384) where
      whole-imported : nat_abs (rest a) ≡ 0 → Ok (Whole (number a)) ≡ imported a
      unfolding imported
      whole-imported z = rw (f, le-ltb 16384 (nat_abs (number a)) l, eq-eqb (nat_abs (rest a)) 0 z)

      pub whole_answers : nat_abs (rest a) ≡ 0 → {k : ℤ} → k ≡ number a → Answers (Ok (Whole k))
      whole_answers z {k} e = answers (Ok (Whole k)) (ap (λ (k : ℤ). Ok (Whole k)) e ∙ whole-imported z)

      near-imported : (nat_abs (rest a) ≡ 0 → ⊥) → Ok (Near (number a) (float_of (rest a) (denominator a))) ≡ imported a
      unfolding imported
      near-imported n = rw (f, le-ltb 16384 (nat_abs (number a)) l, ne_eqb (nat_abs (rest a)) 0 n)

      pub near_answers : (nat_abs (rest a) ≡ 0 → ⊥) → {k : ℤ} {leftover : Float} → k ≡ number a → leftover ≡ float_of (rest a) (denominator a) → Answers (Ok (Near k leftover))
      near_answers n {k} {leftover} e x = answers (Ok (Near k leftover)) (ap₂ (λ (k : ℤ) (leftover : Float). Ok (Near k leftover)) e x ∙ near-imported n)
