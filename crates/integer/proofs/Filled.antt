-- A list filled from the front, part by part.
use Prim.Native.Nat.{ℕ, ◌+◌, ◌-◌, ◌<◌, ◌≤◌}
use mathlib.Core.Path.{◌≡◌, refl, sym, ◌∙◌, ap, ap₂}
use mathlib.Core.List.{List, [], ◌∷◌, ◌++◌}
use native.Mathlib.Omega.{arith}
use native.Mathlib.Numerals.{add-one}
use lib.ListN.{length, set, take, length-set}
use lib.Seq.{take_all, take-suc-set}
use borrow.Rule.Slice.PartMut.{mid_of, put_mid}
use Rattle.integer.proofs.Middle.{length_part, length_put, front_put}

module _ {X : Type 0} where
  -- of L places the first count hold `done`
  pub record Filled (L count : ℕ) (done out : List X) : Type 0 where
    pub first : take count out ≡ done
    pub long : length out ≡ L

  pub filled_none : (L : ℕ) {out : List X} → length out ≡ L → Filled L 0 [] out
  filled_none L l = record { first = refl; long = l }

  -- by what a call wrote behind them
  pub filled_more : {L : ℕ} (count width : ℕ) {done old new : List X} (from : List X) → length from ≡ width → Filled L count done old →
      (take (count + length from) new ≡ take count old ++ from) × (length new ≡ length old) → Filled L (count + width) (done ++ from) new
  filled_more count width {new = new} from w f h =
      record { first = ap (λ (k : ℕ). take (count + k) new) (sym w) ∙ h.0 ∙ ap (λ (l : List X). l ++ from) f.first; long = h.1 ∙ f.long }

  -- by what a call wrote into the part that was lent to it
  pub filled_part : {L : ℕ} (a e w : ℕ) {done old zs : List X} (from : List X) → a + w ≡ e → e ≤ L → length from ≡ w → Filled L a done old → zs ≡ from →
      Filled L e (done ++ from) (put_mid a (e - a) old zs)
  filled_part a e w {old = old} {zs} from h l n f z =
      let room : e ≤ length old = omega (arith, f.long) in
      let k : length zs ≡ w = ap length z ∙ n in
      record {
        first = front_put a e w old h room zs k ∙ ap₂ ◌++◌ f.first z;
        long = length_put a e w old h room zs k ∙ f.long;
      }

  -- the part that comes next has its width
  pub next_part : {L : ℕ} (a e w : ℕ) {done old : List X} → a + w ≡ e → e ≤ L → Filled L a done old → length (mid_of a (e - a) old) ≡ w
  next_part a e w {old = old} h l f = length_part a e w old h (omega (arith, f.long))

  -- by one more element
  pub filled_next : {L i : ℕ} {done l : List X} (x : X) → Filled L i done l → i < L → Filled L (i + 1) (done ++ x ∷ []) (set l i x)
  filled_next {L} {i} {done} {l} x f h = record {
    first = ap (λ (k : ℕ). take k (set l i x)) (add-one i) ∙ take-suc-set l i x (omega (arith, f.long)) ∙ ap (λ (d : List X). d ++ x ∷ []) f.first;
    long = simp length-set f.long;
  }

  -- filled up to the end
  pub filled_end : {L e : ℕ} {done out : List X} → e ≡ L → Filled L e done out → out ≡ done
  filled_end {e = e} {out = out} h f = sym (take_all e out (omega (arith, f.long))) ∙ f.first

  pub filled_whole : {L : ℕ} {done out : List X} → Filled L L done out → out ≡ done
  filled_whole = filled_end refl
