-- Appending to a text, step by step.
use Prim.Native.Nat.{ℕ, suc, ◌+◌, ◌-◌, ◌<◌, ◌≤◌}
use mathlib.Core.Path.{◌≡◌, sym, ◌∙◌, ap}
use mathlib.Core.List.{List, [], ◌∷◌, ◌++◌, append-nil, append_assoc}
use native.Mathlib.Omega.{arith}
use lib.ListN.{length, length-append, set, take, replicate}
use lib.Seq.{set-append_seam, take-append_seam}
use Rattle.slip_text.specs.declared.text.Text.{Text}
use Rattle.slip_text.specs.Slip.{text_of}
use Rattle.slip_text.specs.Written.{Appended}

-- a text with a byte stored right after it
abbrev pub stored : Text → ℕ → Text
stored t b = record { bytes = set t.bytes t.length b; length = t.length + 1 }

stored_is : (s : List ℕ) (b : ℕ) → length s < 360 → stored (text_of s) b ≡ text_of (s ++ (b ∷ []))
unfolding text_of
stored_is s b h =
    let rest : List ℕ = replicate (360 - (length s + 1)) 0 in
    let k : 360 - length s ≡ suc (360 - (length s + 1)) = omega arith in
    rw (k, set-append_seam s 0 rest b, length-append s (b ∷ []), append_assoc s (b ∷ []) rest)

pub appended_byte : {t r : Text} {b : ℕ} → t.length < 360 → r ≡ stored t b → Appended t (b ∷ []) 1 r
unfolding text_of
appended_byte {b = b} h e =
    record { holds = λ s k. record { is = (rw k.is at e) ∙ stored_is s b (rw k.is at h) }; longer = rw e (omega arith) }

pub appended_none : (t : Text) → Appended t [] 0 t
appended_none t = record { holds = λ s h. rw (append-nil s) h; longer = omega arith }

pub appended_then : {t r q : Text} {s u : List ℕ} {m n : ℕ} → Appended t s m r → Appended r u n q → Appended t (s ++ u) (m + n) q
appended_then {s = s} {u = u} a b = record {
  holds = λ before h. rw (sym (append_assoc before s u)) (b.holds (before ++ s) (a.holds before h));
  longer = omega (arith, a.longer, b.longer);
}

pub appended_within : {t r : Text} {s : List ℕ} {m : ℕ} (n : ℕ) → m ≤ n → Appended t s m r → Appended t s n r
appended_within n h a = record { holds = a.holds; longer = omega (arith, a.longer) }

-- the first bytes of a text's buffer can be lent, as many as its length says
pub record Lendable (t : Text) : Type 0 where
  pub inside : t.length ≤ length t.bytes
  pub counted : t.length ≡ length (take t.length t.bytes)

pub lendable : {t : Text} (s : List ℕ) → t ≡ text_of s → Lendable t
unfolding text_of
lendable s e =
    rw e
    (record {
      inside = rw (length-append s (replicate (360 - length s) 0)) (omega arith);
      counted = ap length (sym (take-append_seam s (replicate (360 - length s) 0)));
    })
