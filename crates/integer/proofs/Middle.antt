-- A part of a slice that is lent as `&mut xs[a..e]`, w long, and comes back as zs.
use Prim.Native.Nat.{ℕ, ◌+◌, ◌-◌, ◌≤◌}
use mathlib.Core.Path.{◌≡◌, sym, ◌∙◌, ap}
use mathlib.Core.List.{List, ◌++◌, append_assoc}
use native.Mathlib.Omega.{arith}
use lib.ListN.{length, take, drop, length-append}
use lib.Seq.{length-take-le, take_at}
use borrow.Rule.Slice.PartMut.{mid_of, put_mid, same_len_mid, mid_len}

module _ {X : Type 0} (a e w : ℕ) (xs : List X) (h : a + w ≡ e) (l : e ≤ length xs) where
  pub length_part : length (mid_of a (e - a) xs) ≡ w
  length_part = mid_len a e xs l ∙ omega arith

  module _ (zs : List X) (n : length zs ≡ w) where
    pub length_put : length (put_mid a (e - a) xs zs) ≡ length xs
    length_put = same_len_mid a (e - a) xs zs (n ∙ sym length_part)

    pub front_put : take e (put_mid a (e - a) xs zs) ≡ take a xs ++ zs
    front_put =
        ap (take e) (sym (append_assoc (take a xs) zs (drop (e - a) (drop a xs))))
        ∙ take_at (take a xs ++ zs) (drop (e - a) (drop a xs)) e
        (length-append (take a xs) zs ∙ omega (arith, length-take-le a xs (omega arith)))
