-- Commands that were written are decoded as they were meant, whatever stands before and behind them.
use Prim.Native.Nat.{ℕ, ◌+◌, ◌*◌, ◌/◌, ◌%◌, ◌<◌, ◌≤◌}
use mathlib.Core.Path.{◌≡◌, refl, sym, ap, ap₂, ◌∙◌, subst}
use mathlib.Core.Bool.{false}
use mathlib.Core.List.{List, [], ◌∷◌, ◌++◌, append_assoc}
use native.Mathlib.Omega.{arith}
use native.Mathlib.Nat.{mul-add-div, div-eq_of_lt, mul-add-mod_self_left, mod-eq_of_lt}
use native.Mathlib.Numerals.{add-one}
use lib.ListN.{length, get_or, take, drop, length-append, take-append-drop}
use lib.Seq.{drop-cons, length-take-le, get_or-append_seam}
use lib.IntN.{ℤ, pos, neg_ℤ, nat_abs}
use lib.Ieee.{Float, nan}
use borrow.Author.Tests.{lt-leb}
use Rattle.integer.specs.Operand.{unsigned, operand}
use Rattle.integer.specs.Encoding.{unsigned_bytes, signed_bytes}
use Rattle.integer.proofs.Sizes.{size_low, size-high}
use Rattle.integer.proofs.Operand.{operand_behind}
use Rattle.integer.proofs.Encoding.{in_bytes, signed_back}
use Rattle.integer.proofs.Tests.{not_outside}
use Rattle.integer.proofs.Places.{step_room}
use Rattle.commands.specs.declared.Command.TheVariants.{Give}
use Rattle.commands.specs.declared.Entry.{Entry}
use Rattle.commands.specs.declared.Entry.TheVariants.{State, Input}
use Rattle.commands.specs.Ranges.{most_entry, exceeding}
use Rattle.commands.specs.Format.{pair_command, decoded, beyond, wrong}
use Rattle.import.specs.Entries.{number, imported}
use Rattle.models.specs.Models.{number_in, command, commands_from, Gives, Readable}
use Rattle.models.proofs.Number.{number_small}
use Rattle.models.proofs.Tested.{Ready, number_at}
use Rattle.models.proofs.Output.{entry_command, commands_append, commands_length}

-- ---- One command

module _ (front behind : List ℕ) (i j : ℕ) (z : ℤ) (h : nat_abs z ≤ 16384) where
  abbrev five : ℕ → List ℕ
  five byte = byte ∷ i ∷ j ∷ (signed_bytes 2 z ++ behind)

  index : (byte k v : ℕ) → operand 1 (five byte) k ≡ v ∷ [] → unsigned (operand 1 (front ++ five byte) (length front + k)) ≡ v
  unfolding unsigned
  index byte k v e = rw (operand_behind 1 front (five byte) k, e) (omega arith)

  two : (byte : ℕ) → operand 2 (front ++ five byte) (length front + 3) ≡ signed_bytes 2 z
  unfolding unsigned_bytes
  two byte = operand_behind 2 front (five byte) 3

  long : (byte : ℕ) → length front + 4 < length (front ++ five byte)
  unfolding unsigned_bytes
  long byte = omega (arith, length-append front (five byte))

  pair_given : (byte : ℕ) (entry : ℕ → ℕ → ℤ → Entry) → pair_command entry (front ++ five byte) (length front) ≡ Give (entry i j z)
  unfolding pair_command
  pair_given byte entry =
      let r = in_bytes 2 z h (omega arith) in
      let back = signed_back 2 z r.0 r.1 in
      rw (lt-leb (length (front ++ five byte)) (length front + 4) (long byte), index byte 1 i refl, index byte 2 j refl, two byte, back) refl

  state-given : decoded (front ++ five 0x20) (length front) ≡ Give (State i j z)
  unfolding decoded
  state-given = rw (get_or-append_seam front 0x20 (i ∷ j ∷ (signed_bytes 2 z ++ behind)) 0) (pair_given 0x20 State)

  input-given : decoded (front ++ five 0x21) (length front) ≡ Give (Input i j z)
  unfolding decoded
  input-given = rw (get_or-append_seam front 0x21 (i ∷ j ∷ (signed_bytes 2 z ++ behind)) 0) (pair_given 0x21 Input)

-- ---- One command among others

module _ (byte columns : ℕ) (l : List Float) (p : ℕ) (h : p < length l) where
  earlier : List ℕ
  earlier = commands_from byte columns 0 (take p l)

  later : List ℕ
  later = commands_from byte columns (p + 1) (drop (p + 1) l)

  parted : commands_from byte columns 0 l ≡ earlier ++ (entry_command byte columns p (get_or l p nan) ++ later)
  unfolding earlier later commands_from
  parted =
      let z : 0 + length (take p l) ≡ p = omega (arith, length-take-le p l (omega arith)) in
      ap (commands_from byte columns 0) (sym (take-append-drop p l))
      ∙ commands_append byte columns 0 (take p l) (drop p l)
      ∙ ap₂ (λ (n : ℕ) (r : List Float). commands_from byte columns 0 (take p l) ++ commands_from byte columns n r) z (drop-cons l p nan h)
      ∙ ap (λ (n : ℕ). commands_from byte columns 0 (take p l) ++ (entry_command byte columns p (get_or l p nan) ++ commands_from byte columns n (drop n l))) (sym (add-one p))

  module _ (front behind : List ℕ) where
    at_place : length (front ++ earlier) ≡ length front + 5 * p
    unfolding earlier
    at_place =
        length-append front (commands_from byte columns 0 (take p l))
        ∙ omega (arith, commands_length byte columns 0 (take p l), length-take-le p l (omega arith))

    standing : front ++ (commands_from byte columns 0 l ++ behind) ≡ (front ++ earlier) ++ (entry_command byte columns p (get_or l p nan) ++ (later ++ behind))
    standing =
        let c = entry_command byte columns p (get_or l p nan) in
        ap (λ (s : List ℕ). front ++ (s ++ behind)) parted
        ∙ ap (λ (s : List ℕ). front ++ s) (append_assoc earlier (c ++ later) behind ∙ ap (λ (s : List ℕ). earlier ++ s) (append_assoc c later behind))
        ∙ sym (append_assoc front earlier (c ++ (later ++ behind)))

-- at row i and column j
row_of : (columns i j : ℕ) → j < columns → (columns * i + j) / columns ≡ i
row_of columns i j h = mul-add-div (omega arith) i j ∙ omega (arith, div-eq_of_lt h)

column_of : (columns i j : ℕ) → j < columns → (columns * i + j) % columns ≡ j
column_of columns i j h = mul-add-mod_self_left columns i j ∙ mod-eq_of_lt h

command-at : (byte columns i j : ℕ) (k : ℤ) → j < columns → command byte columns (columns * i + j) k ≡ byte ∷ i ∷ j ∷ signed_bytes 2 k
unfolding command
command-at byte columns i j k h = rw (row_of columns i j h, column_of columns i j h) refl

-- each command of a matrix of so many columns, by what a single one gives
module _ (byte columns : ℕ) (entry : ℕ → ℕ → ℤ → Entry) (l : List Float)
    (one : (front behind : List ℕ) (i j : ℕ) (z : ℤ) → nat_abs z ≤ 16384 → decoded (front ++ (byte ∷ i ∷ j ∷ (signed_bytes 2 z ++ behind))) (length front) ≡ Give (entry i j z)) where
  decoded-at : (front behind : List ℕ) (i j : ℕ) → j < columns → columns * i + j < length l
      → decoded (front ++ (commands_from byte columns 0 l ++ behind)) (length front + 5 * (columns * i + j)) ≡ Give (entry i j (number_in (imported (get_or l (columns * i + j) nan))))
  decoded-at front behind i j h k =
      let p = columns * i + j in
      let z = number_in (imported (get_or l p nan)) in
      let before = front ++ earlier byte columns l p k in
      let after = later byte columns l p k ++ behind in
      ap₂ decoded
      (standing byte columns l p k front behind ∙ ap (λ (c : List ℕ). before ++ (c ++ after)) (command-at byte columns i j z h))
      (sym (at_place byte columns l p k front behind))
      ∙ one before after i j z (number_small (get_or l p nan))

-- ---- A model

place_inside : (columns rows i j : ℕ) → i < rows → j < columns → columns * i + j < columns * rows
place_inside columns rows i j h k = omega (arith, step_room columns i rows h)

in_range : (z : ℤ) → nat_abs z ≤ 16384 → exceeding most_entry z ≡ false
in_range z h = not_outside (neg_ℤ (pos 16384)) (pos 16384) z (size_low z h, size-high z h)

pub readable : (n m : ℕ) (a b : List Float) (out : ℕ) → Ready n m a b out → Readable n m a b (commands_from 0x20 n 0 a ++ commands_from 0x21 m 0 b)
unfolding beyond wrong
readable n m a b out r = record { state = state; input = input }
  where
    A : List ℕ
    A = commands_from 0x20 n 0 a

    B : List ℕ
    B = commands_from 0x21 m 0 b

    small : (l : List Float) (p : ℕ) → number_in (imported (get_or l p nan)) ≡ number (get_or l p nan) → nat_abs (number (get_or l p nan)) ≤ 16384
    small l p e = subst (λ (z : ℤ). nat_abs z ≤ 16384) e (number_small (get_or l p nan))

    state : (front behind : List ℕ) (i j : ℕ) → i < n → j < n →
        Gives (front ++ ((A ++ B) ++ behind)) (length front + 5 * (n * i + j)) n m (State i j (number (get_or a (n * i + j) nan)))
    state front behind i j h k =
        let p = n * i + j in
        let l : p < length a = omega (arith, place_inside n n i j h k, r.lengths.0) in
        let e = number_at 0 a r.states p l in
        record {
          is = ap (λ (s : List ℕ). decoded (front ++ s) (length front + 5 * p)) (append_assoc A B behind)
              ∙ decoded-at 0x20 n State a state-given front (B ++ behind) i j k l ∙ ap (λ (z : ℤ). Give (State i j z)) e;
          indexes = λ N. rw (lt-leb n i h, lt-leb n j k);
          range = in_range (number (get_or a p nan)) (small a p e);
        }

    input : (front behind : List ℕ) (i j : ℕ) → i < n → j < m →
        Gives (front ++ ((A ++ B) ++ behind)) (length front + 5 * (n * n + (m * i + j))) n m (Input i j (number (get_or b (m * i + j) nan)))
    input front behind i j h k =
        let p = m * i + j in
        let l : p < length b = omega (arith, place_inside m n i j h k, r.lengths.1) in
        let e = number_at (length a) b r.inputs p l in
        let at : length front + 5 * (n * n + p) ≡ length (front ++ A) + 5 * p = omega (arith, length-append front A, commands_length 0x20 n 0 a, r.lengths.0) in
        record {
          is = ap₂ decoded (ap (λ (s : List ℕ). front ++ s) (append_assoc A B behind) ∙ sym (append_assoc front A (B ++ behind))) at
              ∙ decoded-at 0x21 m Input b input-given (front ++ A) behind i j k l ∙ ap (λ (z : ℤ). Give (Input i j z)) e;
          indexes = λ N. rw (lt-leb n i h, lt-leb m j k);
          range = in_range (number (get_or b p nan)) (small b p e);
        }
