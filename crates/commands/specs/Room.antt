-- What the functions of the reader tell each other: a command that is not cut ends within the tape, and sizes and indexes are document 01's
-- at most.
use Rattle.std.specs.Prelude.{ℕ, ◌+◌, ◌<◌, ◌≤◌, ◌≡◌, List, ℤ}
use Rattle.commands.specs.declared.Command.{Command}
use Rattle.commands.specs.declared.Command.TheVariants.{Unknown, Cut, Size, Give, End}
use Rattle.commands.specs.declared.Entry.{Entry}
use Rattle.commands.specs.declared.Entry.TheVariants.{State, Input, Drift, Column, Reference, Start, Rounds}
use Rattle.commands.specs.Format.{unsigned_at, signed_at, pair_command, size_bytes, bytes_of}

abbrev pub Room : ℕ → ℕ → Command → Type 0
Room at length Unknown = at < length
Room at length Cut = at < length
Room at length (Size n m horizon) = at + size_bytes ≤ length
Room at length (Give e) = at + bytes_of e ≤ length
Room at length End = at < length

-- a pair's command, where `Makes` leaves only what `entry` makes of two indexes and a number
abbrev pub PairBy : (ℕ → ℕ → ℤ → Entry → Type 0) → List ℕ → ℕ → Command → Type 0
PairBy Makes s at c =
    (entry : ℕ → ℕ → ℤ → Entry) →
    ((x : Entry) → let i = unsigned_at 1 s (at + 1) in let j = unsigned_at 1 s (at + 2) in let v = signed_at 2 s (at + 3) in Makes i j v x → x ≡ entry i j v) →
    c ≡ pair_command entry s at

-- 0 where command 10 is still to come
pub record SmallSizes (n m horizon : ℕ) : Type 0 where
  pub states : n ≤ 6
  pub inputs : m ≤ 4
  pub steps : horizon ≤ 12

-- the indexes of an entry that has a place
abbrev pub Inside : Entry → Type 0
Inside (State i j v) = (i < 6) × (j < 6)
Inside (Input i j v) = (i < 6) × (j < 4)
Inside (Drift i v) = i < 6
Inside (Column c lo hi r h) = c < 10
Inside (Reference c k r) = (c < 10) × (k < 12)
Inside (Start i v) = i < 6
Inside (Rounds banded g rounds t) = Unit {0}
