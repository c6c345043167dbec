-- Entries tested one by one, and what is known of a model that is not refused.
use Prim.Native.Nat.{ℕ, zero, suc, ◌+◌, ◌*◌, ◌<◌, ◌≤◌}
use mathlib.Core.Path.{◌≡◌, refl}
use mathlib.Core.Bool.{Bool, true, false, not, cond, true≢false}
use mathlib.Core.List.{List, [], ◌∷◌}
use native.Mathlib.Omega.{arith}
use native.Mathlib.Nat.{mul-le-mul, le_of_suc-le-suc, not-suc-le-zero}
use native.Mathlib.Numerals.{add-one}
use lib.Dec.{T, ltb, eqb, eqb→eq}
use lib.ListN.{length, get_or, drop, drop_of_length-le}
use lib.Seq.{drop-cons}
use lib.Ieee.{Float, nan}
use borrow.Author.Tests.{ltb-false}
use Rattle.integer.proofs.Tests.{none, by_test}
use Rattle.std.specs.Prelude.{Result, Ok, Err}
use Rattle.commands.specs.Format.{wrong_size}
use Rattle.tape.specs.declared.refusal.Refusal.{Refusal}
use Rattle.tape.specs.declared.refusal.Refusal.TheVariants as refusal
use Rattle.tape.specs.Refusals.{row, figure}
use Rattle.import.specs.Entries.{number, imported}
use Rattle.models.specs.Models.{wrong_length, verdict, first, tested, model_answer, number_in}
use Rattle.import.specs.declared.Entry.{Entry}
use Rattle.import.specs.declared.ImportError.{ImportError}
use Rattle.import.specs.declared.ImportError.TheVariants.{NotFinite, TooLarge}
use Rattle.models.proofs.Number.{number_in_lem}

-- ---- One entry further

pub tested-step : (count i : ℕ) (l : List Float) → i < length l
    → tested (count + i) (drop i l) ≡ first (verdict (count + i) (imported (get_or l i nan))) (tested (count + (i + 1)) (drop (i + 1) l))
unfolding tested
tested-step count i l h =
    let e : suc (count + i) ≡ count + (i + 1) = omega arith in
    rw (drop-cons l i nan h, ← e, add-one i)

pub tested-none : (count : ℕ) (l : List Float) (i : ℕ) → length l ≤ i → Ok tt ≡ tested count (drop i l)
unfolding tested
tested-none count l i h = rw (drop_of_length-le l h)

-- ---- A model that is not refused

first_written : (v w : Result (Unit {0}) Refusal) → first v w ≡ Ok tt → (v ≡ Ok tt) × (w ≡ Ok tt)
first_written (Ok tt) w e = (refl, e)
first_written (Err why) w e = absurd cc

passed_by : (test : Bool) (why : Refusal) (v : Result (Unit {0}) Refusal) → cond test (Err why) v ≡ Ok tt → (test ≡ false) × (v ≡ Ok tt)
passed_by true why v e = absurd cc
passed_by false why v e = (refl, e)

equal : (a b : ℕ) → not (eqb a b) ≡ false → a ≡ b
equal a b e = eqb→eq a b (go (eqb a b) e)
  where
    go : (b : Bool) → not b ≡ false → T b
    go true e = tt
    go false e = absurd (true≢false e)

-- its entries have their numbers
pub number_at : (count : ℕ) (l : List Float) → tested count l ≡ Ok tt → (i : ℕ) → i < length l → number_in (imported (get_or l i nan)) ≡ number (get_or l i nan)
unfolding tested
number_at count [] e i h = absurd (not-suc-le-zero h)
number_at count (a ∷ l) e zero h = number_in_lem count a (first_written (verdict count (imported a)) (tested (suc count) l) e).0
number_at count (a ∷ l) e (suc i) h = number_at (suc count) l (first_written (verdict count (imported a)) (tested (suc count) l) e).1 i (le_of_suc-le-suc h)

pub square_small : (n : ℕ) → n ≤ 6 → n * n ≤ 36
square_small n h = mul-le-mul h h

pub product_small : (n m : ℕ) → n ≤ 6 → m ≤ 4 → n * m ≤ 24
product_small n m h k = mul-le-mul h k

pub right_size : (n m : ℕ) → wrong_size n m 1 ≡ false → (1 ≤ n) × (n ≤ 6) × (1 ≤ m) × (m ≤ 4)
unfolding wrong_size
right_size n m e =
    let t = none (ltb n 1) (ltb 6 n ∷ ltb m 1 ∷ ltb 4 m ∷ ltb 1 1 ∷ ltb 12 1 ∷ []) e in
    (ltb-false n 1 t.0, ltb-false 6 n t.1.0, ltb-false m 1 t.1.1.0, ltb-false 4 m t.1.1.1.0)

pub right_lengths : (n m a b out : ℕ) → wrong_length n m a b out ≡ false → (a ≡ n * n) × (b ≡ n * m) × (out ≡ 5 * (n * n + n * m))
right_lengths n m a b out e =
    let t = none (not (eqb a (n * n))) (not (eqb b (n * m)) ∷ not (eqb out (5 * (n * n + n * m))) ∷ []) e in
    (equal a (n * n) t.0, equal b (n * m) t.1.0, equal out (5 * (n * n + n * m)) t.1.1.0)

-- ---- The answer by its tests

module _ (n m : ℕ) (a b : List Float) (out : ℕ) where
  pub size-refused : wrong_size n m 1 ≡ true → Err refusal.ArgumentOutOfRange ≡ model_answer n m a b out
  unfolding model_answer
  size-refused e = rw e

  module _ (e : wrong_size n m 1 ≡ false) where
    pub length-refused : wrong_length n m (length a) (length b) out ≡ true → Err refusal.Length ≡ model_answer n m a b out
    unfolding model_answer
    length-refused f = rw (e, f)

    pub entries_answer : wrong_length n m (length a) (length b) out ≡ false → first (tested 0 a) (tested (length a) b) ≡ model_answer n m a b out
    unfolding model_answer
    entries_answer f = rw (e, f)

    -- both lists together have 60 entries at most
    pub few : wrong_length n m (length a) (length b) out ≡ false → (length a ≤ 36) × (length b ≤ 24)
    few f =
        let s = right_size n m e in
        let l = right_lengths n m (length a) (length b) out f in
        (omega (arith, l.0, square_small n s.1), omega (arith, l.1, product_small n m s.1 s.3))

pub record Ready (n m : ℕ) (a b : List Float) (out : ℕ) : Type 0 where
  pub sizes : (1 ≤ n) × (n ≤ 6) × (1 ≤ m) × (m ≤ 4)
  pub lengths : (length a ≡ n * n) × (length b ≡ n * m) × (out ≡ 5 * (n * n + n * m))
  pub states : tested 0 a ≡ Ok tt
  pub inputs : tested (length a) b ≡ Ok tt

pub ready : (n m : ℕ) (a b : List Float) (out : ℕ) → model_answer n m a b out ≡ Ok tt → Ready n m a b out
unfolding model_answer
ready n m a b out e =
    let entries = first (tested 0 a) (tested (length a) b) in
    let wrong = wrong_length n m (length a) (length b) out in
    let p = passed_by (wrong_size n m 1) refusal.ArgumentOutOfRange (cond wrong (Err refusal.Length) entries) e in
    let q = passed_by wrong refusal.Length entries p.1 in
    let r = first_written (tested 0 a) (tested (length a) b) q.1 in
    record { sizes = right_size n m p.0; lengths = right_lengths n m (length a) (length b) out q.0; states = r.0; inputs = r.1 }

-- ---- What a refusal carries is the count of one of 60 entries at most, or nothing

abbrev pub Counted : ℕ → Result (Unit {0}) Refusal → Type 0
Counted most (Ok tt) = Unit {0}
Counted most (Err why) = figure (row why).carries ≤ most

verdict_counted : (most count : ℕ) (r : Result Entry ImportError) → count ≤ most → Counted most (verdict count r)
verdict_counted most count (Ok entry) h = tt
verdict_counted most count (Err NotFinite) h = h
verdict_counted most count (Err TooLarge) h = h

first_counted : (most : ℕ) (v w : Result (Unit {0}) Refusal) → Counted most v → Counted most w → Counted most (first v w)
first_counted most (Ok tt) w h k = k
first_counted most (Err why) w h k = h

tested_counted : (most count : ℕ) (l : List Float) → count + length l ≤ most → Counted most (tested count l)
unfolding tested
tested_counted most count [] h = tt
tested_counted most count (a ∷ l) h =
    first_counted most (verdict count (imported a)) (tested (suc count) l) (verdict_counted most count (imported a) (omega arith)) (tested_counted most (suc count) l (omega arith))

pub answer_counted : (n m : ℕ) (a b : List Float) (out : ℕ) → Counted 60 (model_answer n m a b out)
unfolding model_answer
answer_counted n m a b out =
    by_test (Counted 60) (wrong_size n m 1) (λ e. omega arith)
    (λ e. by_test (Counted 60) (wrong_length n m (length a) (length b) out) (λ f. omega arith)
    (λ f. let l = few n m a b out e f in
    first_counted 60 (tested 0 a) (tested (length a) b) (tested_counted 60 0 a (omega (arith, l.0))) (tested_counted 60 (length a) b (omega (arith, l.0, l.1)))))
