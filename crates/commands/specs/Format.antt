-- Document 01, "Tape commands": its table, line by line; and commands 31 and 51 of document 02, requests 1 and 9.
use Rattle.std.specs.Prelude.{ℕ, ◌+◌, ◌*◌, Bool, true, false, cond, ◌||◌, List, eqb, ltb, leb, length, get_or, ℤ, pos}
use Rattle.std.specs.Int.Signed.{lt_z}
use Rattle.integer.specs.Operand.{unsigned, signed, operand}
use Rattle.integer.specs.Tests.{outside}
use Rattle.commands.specs.declared.Command.{Command}
use Rattle.commands.specs.declared.Command.TheVariants.{Unknown, Cut, Size, Give, End}
use Rattle.commands.specs.declared.Entry.{Entry}
use Rattle.commands.specs.declared.Entry.TheVariants.{State, Input, Drift, Column, Reference, Start, Rounds}
use Rattle.commands.specs.Ranges.{most_entry, most_drift, most_number, most_weight, most_rounds, exceeding}
use Rattle.commands.specs.Marks.{state_place, input_place, drift_place, column_place, start_place, rounds_place, reference_place}

-- ---- Byte and operands. A command that has not all of its operands is cut

abbrev pub whole : ℕ → List ℕ → ℕ → Command → Command
whole operands s at c = cond (leb (length s) (at + operands)) Cut c

-- k unsigned, or signed, bytes at a place
abbrev pub unsigned_at : ℕ → List ℕ → ℕ → ℕ
unsigned_at k s p = unsigned (operand k s p)

abbrev pub signed_at : ℕ → List ℕ → ℕ → ℤ
signed_at k s p = signed (operand k s p)

-- Two indexes, one byte each, and a number: 2 signed bytes.
unfoldable pub pair_command : (ℕ → ℕ → ℤ → Entry) → List ℕ → ℕ → Command
pair_command entry s at = whole 4 s at (Give (entry (unsigned_at 1 s (at + 1)) (unsigned_at 1 s (at + 2)) (signed_at 2 s (at + 3))))

-- n, m, N: one byte each
unfoldable pub size_command : List ℕ → ℕ → Command
size_command s at = whole 3 s at (Size (unsigned_at 1 s (at + 1)) (unsigned_at 1 s (at + 2)) (unsigned_at 1 s (at + 3)))

-- i, j, value: 2 signed
abbrev pub state_command : List ℕ → ℕ → Command
state_command = pair_command State

-- i, j, value: 2 signed
abbrev pub input_command : List ℕ → ℕ → Command
input_command = pair_command Input

-- i, value: 4 signed
unfoldable pub drift_command : List ℕ → ℕ → Command
drift_command s at = whole 5 s at (Give (Drift (unsigned_at 1 s (at + 1)) (signed_at 4 s (at + 2))))

-- column, lo, hi, r: 2 signed each, h: 1
unfoldable pub column_command : List ℕ → ℕ → Command
column_command s at =
    whole 8 s at
    (Give (Column (unsigned_at 1 s (at + 1)) (signed_at 2 s (at + 2)) (signed_at 2 s (at + 4)) (signed_at 2 s (at + 6)) (pos (unsigned_at 1 s (at + 8)))))

-- column, step, reference: 2 signed
abbrev pub reference_command : List ℕ → ℕ → Command
reference_command = pair_command Reference

-- i, value: 2 signed
unfoldable pub start_command : List ℕ → ℕ → Command
start_command s at = whole 3 s at (Give (Start (unsigned_at 1 s (at + 1)) (signed_at 2 s (at + 2))))

-- g: 2, R: 2, T: 4, all unsigned; banded where it is command 51, and not where it is 50
unfoldable pub rounds_command : Bool → List ℕ → ℕ → Command
rounds_command banded s at = whole 8 s at (Give (Rounds banded (pos (unsigned_at 2 s (at + 1))) (unsigned_at 2 s (at + 3)) (pos (unsigned_at 4 s (at + 5)))))

unfoldable pub decoded : List ℕ → ℕ → Command
decoded s at =
    let byte = get_or s at 0 in
    cond (eqb byte 0x10) (size_command s at)
    (cond (eqb byte 0x20) (state_command s at)
    (cond (eqb byte 0x21) (input_command s at)
    (cond (eqb byte 0x22) (drift_command s at)
    (cond (eqb byte 0x30) (column_command s at)
    (cond (eqb byte 0x31) (reference_command s at)
    (cond (eqb byte 0x40) (start_command s at)
    (cond (eqb byte 0x50) (rounds_command false s at)
    (cond (eqb byte 0x51) (rounds_command true s at)
    (cond (eqb byte 0xFF) End
    Unknown)))))))))

-- the command byte and its operands: of command 10, and of an entry's
abbrev pub size_bytes : ℕ
size_bytes = 4

abbrev pub bytes_of : Entry → ℕ
bytes_of (State i j v) = 5
bytes_of (Input i j v) = 5
bytes_of (Drift i v) = 6
bytes_of (Column c lo hi r h) = 9
bytes_of (Reference c k r) = 5
bytes_of (Start i v) = 4
bytes_of (Rounds banded g rounds t) = 9

-- ---- Meaning: indexes and ranges

-- n 1 to 6, m 1 to 4, N 1 to 12
unfoldable pub wrong_size : ℕ → ℕ → ℕ → Bool
wrong_size n m horizon = ltb n 1 || ltb 6 n || ltb m 1 || ltb 4 m || ltb horizon 1 || ltb 12 horizon

-- an index outside the size
unfoldable pub beyond : ℕ → ℕ → ℕ → Entry → Bool
beyond n m horizon (State i j v) = leb n i || leb n j
beyond n m horizon (Input i j v) = leb n i || leb m j
beyond n m horizon (Drift i v) = leb n i
beyond n m horizon (Column c lo hi r h) = leb (n + m) c
beyond n m horizon (Reference c k r) = leb (n + m) c || leb horizon k
beyond n m horizon (Start i v) = leb n i
beyond n m horizon (Rounds banded g rounds t) = false

-- lo, hi, r -20,000 to 20,000, lo ≤ hi; h 0 to 255 (document 02, request 4), which is every byte
unfoldable pub wrong_column : ℤ → ℤ → ℤ → ℤ → Bool
wrong_column lo hi r h =
    exceeding most_number lo || exceeding most_number hi || exceeding most_number r
    || lt_z hi lo || outside (pos 0) (pos most_weight) h

-- an operand outside its range, or lo > hi
unfoldable pub wrong : Entry → Bool
wrong (State i j v) = exceeding most_entry v
wrong (Input i j v) = exceeding most_entry v
wrong (Drift i v) = exceeding most_drift v
wrong (Column c lo hi r h) = wrong_column lo hi r h
wrong (Reference c k r) = exceeding most_number r
wrong (Start i v) = exceeding most_number v
wrong (Rounds banded g rounds t) = lt_z g (pos 1) || ltb rounds 1 || ltb most_rounds rounds

-- ---- The place whose mark the entry sets

abbrev pub place_of : Entry → ℕ
place_of (State i j v) = state_place + (6 * i + j)
place_of (Input i j v) = input_place + (4 * i + j)
place_of (Drift i v) = drift_place + i
place_of (Column c lo hi r h) = column_place + c
place_of (Reference c k r) = reference_place + (12 * c + k)
place_of (Start i v) = start_place + i
place_of (Rounds banded g rounds t) = rounds_place
