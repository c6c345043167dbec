-- Commands written one behind the other.
use Prim.Native.Nat.{ℕ, suc, ◌+◌, ◌*◌, ◌<◌}
use mathlib.Core.Path.{◌≡◌, refl, sym, ap, ◌∙◌}
use mathlib.Core.List.{List, [], ◌∷◌, ◌++◌, append_assoc, append-nil}
use native.Mathlib.Omega.{arith}
use native.Mathlib.Nat.{add-zero}
use native.Mathlib.Numerals.{add-one}
use lib.ListN.{length, get_or, take, length-append}
use lib.Seq.{take-suc, length-take-le}
use lib.IntN.{ℤ}
use lib.Ieee.{Float, nan}
use Rattle.integer.specs.Encoding.{complement}
use Rattle.integer.proofs.Encoding.{bytes_length}
use Rattle.import.specs.Entries.{imported}
use Rattle.models.specs.Models.{number_in, command, commands_from}

pub command-length : (byte columns place : ℕ) (k : ℤ) → length (command byte columns place k) ≡ 5
unfolding command
command-length byte columns place k = ap (λ (n : ℕ). suc (suc (suc n))) (bytes_length 2 (complement 65536 k))

abbrev pub entry_command : ℕ → ℕ → ℕ → Float → List ℕ
entry_command byte columns place a = command byte columns place (number_in (imported a))

pub commands_append : (byte columns place : ℕ) (l r : List Float) → commands_from byte columns place (l ++ r) ≡ commands_from byte columns place l ++ commands_from byte columns (place + length l) r
unfolding commands_from
commands_append byte columns place [] r = ap (λ (n : ℕ). commands_from byte columns n r) (sym (add-zero place))
commands_append byte columns place (a ∷ l) r =
    let e : suc place + length l ≡ place + suc (length l) = omega arith in
    rw (commands_append byte columns (suc place) l r, e, append_assoc (entry_command byte columns place a) (commands_from byte columns (suc place) l) (commands_from byte columns (place + suc (length l)) r)) refl

pub commands_length : (byte columns place : ℕ) (l : List Float) → length (commands_from byte columns place l) ≡ 5 * length l
unfolding commands_from
commands_length byte columns place [] = refl
commands_length byte columns place (a ∷ l) =
    length-append (entry_command byte columns place a) (commands_from byte columns (suc place) l)
    ∙ (omega (arith, command-length byte columns place (number_in (imported a)), commands_length byte columns (suc place) l))

one_command : (byte columns place : ℕ) (a : Float) → commands_from byte columns place (a ∷ []) ≡ entry_command byte columns place a
unfolding commands_from
one_command byte columns place a = append-nil (entry_command byte columns place a)

-- the next entry's command
pub commands_next : (byte columns : ℕ) (l : List Float) (i : ℕ) → i < length l
    → commands_from byte columns 0 (take (i + 1) l) ≡ commands_from byte columns 0 (take i l) ++ entry_command byte columns i (get_or l i nan)
commands_next byte columns l i h =
    let z : 0 + length (take i l) ≡ i = omega (arith, length-take-le i l (omega arith)) in
    ap (λ (n : ℕ). commands_from byte columns 0 (take n l)) (add-one i)
    ∙ ap (λ (z : List Float). commands_from byte columns 0 z) (take-suc l i nan h)
    ∙ commands_append byte columns 0 (take i l) (get_or l i nan ∷ [])
    ∙ ap (λ (n : ℕ). commands_from byte columns 0 (take i l) ++ commands_from byte columns n (get_or l i nan ∷ [])) z
    ∙ ap (λ (z : List ℕ). commands_from byte columns 0 (take i l) ++ z) (one_command byte columns i (get_or l i nan))
