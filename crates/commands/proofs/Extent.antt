-- How far commands reach: place and bytes of each, how many bytes all take, and that bytes behind a command change nothing.
use Prim.Native.Nat.{ℕ, ◌+◌, ◌<◌, ◌≤◌}
use mathlib.Core.Path.{◌≡◌, refl}
use mathlib.Core.Bool.{Bool, true, false, cond}
use mathlib.Core.List.{List, ◌++◌}
use native.Mathlib.Omega.{arith}
use lib.Dec.{ltb}
use lib.ListN.{length, length-append, get_or-append}
use lib.IntN.{ℤ}
use borrow.Author.Tests.{lt-ltb, le-ltb, lt-leb}
use Rattle.integer.specs.Operand.{operand}
use Rattle.integer.proofs.Naturals.{sum_ℕ}
use Rattle.integer.proofs.Operand.{operand_front}
use Rattle.commands.specs.declared.Command.{Command}
use Rattle.commands.specs.declared.Entry.{Entry}
use Rattle.commands.specs.declared.Entry.TheVariants.{State, Input, Drift, Column, Reference, Start, Rounds}
use Rattle.commands.specs.Format.{whole, pair_command, size_command, drift_command, column_command, start_command, rounds_command, decoded}
use Rattle.commands.specs.Format.{size_bytes, bytes_of, place_of}
use Rattle.commands.specs.Marks.{drift_place, column_place, start_place, rounds_place, reference_place, place_count}
use Rattle.commands.specs.Room.{Inside}

-- ---- A command's place and its bytes

-- of the command that gives a place
unfoldable pub bytes_at : ℕ → ℕ
bytes_at place =
    cond (ltb place drift_place) 5
    (cond (ltb place column_place) 6
    (cond (ltb place start_place) 9
    (cond (ltb place rounds_place) 4
    (cond (ltb place reference_place) 9 5))))

-- of the longest command
abbrev pub longest_bytes : ℕ
longest_bytes = 9

-- The most that can stand before FF, in commands that are accepted: 10, and every place once.
unfoldable pub most_bytes : ℕ
most_bytes = size_bytes + sum_ℕ place_count bytes_at

-- So many bytes decide a tape, whatever follows: `decides` in the crate `tape`.
unfoldable pub deciding_bytes : ℕ
deciding_bytes = most_bytes + longest_bytes

pub place_below : (e : Entry) → Inside e → place_of e < place_count
place_below (State i j v) h = omega arith
place_below (Input i j v) h = omega arith
place_below (Drift i v) h = omega arith
place_below (Column c lo hi r w) h = omega arith
place_below (Reference c k r) h = omega arith
place_below (Start i v) h = omega arith
place_below (Rounds banded g rounds t) h = omega arith

pub some_bytes : (e : Entry) → 1 ≤ bytes_of e
some_bytes (State i j v) = omega arith
some_bytes (Input i j v) = omega arith
some_bytes (Drift i v) = omega arith
some_bytes (Column c lo hi r h) = omega arith
some_bytes (Reference c k r) = omega arith
some_bytes (Start i v) = omega arith
some_bytes (Rounds banded g rounds t) = omega arith

pub bytes_at_lem : (e : Entry) → Inside e → bytes_at (place_of e) ≡ bytes_of e
unfolding bytes_at
bytes_at_lem (State i j v) h = rw (lt-ltb (place_of (State i j v)) drift_place (omega arith))
bytes_at_lem (Input i j v) h = rw (lt-ltb (place_of (Input i j v)) drift_place (omega arith))
bytes_at_lem (Drift i v) h = rw (le-ltb (drift_place + i) drift_place (omega arith), lt-ltb (drift_place + i) column_place (omega arith))
bytes_at_lem (Column c lo hi r w) h =
    rw (le-ltb (column_place + c) drift_place (omega arith), le-ltb (column_place + c) column_place (omega arith), lt-ltb (column_place + c) start_place (omega arith))
bytes_at_lem (Reference c k r) h =
    let at_least : reference_place ≤ place_of (Reference c k r) = omega arith in
    rw (
      le-ltb (place_of (Reference c k r)) drift_place (omega arith),
      le-ltb (place_of (Reference c k r)) column_place (omega arith),
      le-ltb (place_of (Reference c k r)) start_place (omega arith),
      le-ltb (place_of (Reference c k r)) rounds_place (omega arith),
      le-ltb (place_of (Reference c k r)) reference_place (omega arith),
    )
bytes_at_lem (Start i v) h =
    rw (
      le-ltb (start_place + i) drift_place (omega arith),
      le-ltb (start_place + i) column_place (omega arith),
      le-ltb (start_place + i) start_place (omega arith),
      lt-ltb (start_place + i) rounds_place (omega arith),
    )
bytes_at_lem (Rounds banded g rounds t) h = refl

pub deciding_bytes_lem : deciding_bytes ≡ 1072
unfolding deciding_bytes most_bytes sum_ℕ bytes_at
deciding_bytes_lem = refl

-- ---- A command that ends in the front part of a tape: bytes behind that part change nothing

module _ (xs ys : List ℕ) (at : ℕ) (room : at + longest_bytes ≤ length xs) where
  operand_same : (k j : ℕ) → j + k ≤ longest_bytes → operand k (xs ++ ys) (at + j) ≡ operand k xs (at + j)
  operand_same k j h = operand_front k xs ys (at + j) (omega arith)

  whole_same : (k : ℕ) {c d : Command} → k < longest_bytes → c ≡ d → whole k (xs ++ ys) at c ≡ whole k xs at d
  whole_same k h e =
      let l : at + k < length (xs ++ ys) = simp length-append (omega arith) in
      rw (lt-leb (length (xs ++ ys)) (at + k) l, lt-leb (length xs) (at + k) (omega arith)) e

  size_same : size_command (xs ++ ys) at ≡ size_command xs at
  unfolding size_command
  size_same = whole_same 3 (omega arith) (rw (operand_same 1 1 (omega arith), operand_same 1 2 (omega arith), operand_same 1 3 (omega arith)))

  pair_same : (entry : ℕ → ℕ → ℤ → Entry) → pair_command entry (xs ++ ys) at ≡ pair_command entry xs at
  unfolding pair_command
  pair_same entry = whole_same 4 (omega arith) (rw (operand_same 1 1 (omega arith), operand_same 1 2 (omega arith), operand_same 2 3 (omega arith)))

  drift-same : drift_command (xs ++ ys) at ≡ drift_command xs at
  unfolding drift_command
  drift-same = whole_same 5 (omega arith) (rw (operand_same 1 1 (omega arith), operand_same 4 2 (omega arith)))

  column-same : column_command (xs ++ ys) at ≡ column_command xs at
  unfolding column_command
  column-same =
      whole_same 8 (omega arith)
      (rw (
        operand_same 1 1 (omega arith),
        operand_same 2 2 (omega arith),
        operand_same 2 4 (omega arith),
        operand_same 2 6 (omega arith),
        operand_same 1 8 (omega arith),
      ))

  start-same : start_command (xs ++ ys) at ≡ start_command xs at
  unfolding start_command
  start-same = whole_same 3 (omega arith) (rw (operand_same 1 1 (omega arith), operand_same 2 2 (omega arith)))

  rounds-same : (banded : Bool) → rounds_command banded (xs ++ ys) at ≡ rounds_command banded xs at
  unfolding rounds_command
  rounds-same banded = whole_same 8 (omega arith) (rw (operand_same 2 1 (omega arith), operand_same 2 3 (omega arith), operand_same 4 5 (omega arith)))

  pub decoded_front : decoded (xs ++ ys) at ≡ decoded xs at
  unfolding decoded
  decoded_front =
      rw (get_or-append xs ys 0 at (omega arith), size_same, pair_same State, pair_same Input, drift-same, column-same, pair_same Reference, start-same, rounds-same false, rounds-same true)
