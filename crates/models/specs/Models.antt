-- Document 02, request 2: a model of n states and m inputs as commands of a tape, A by rows as 20, then B by rows as 21.
use Rattle.std.specs.Prelude.{ℕ, suc, ◌+◌, ◌*◌, ◌/◌, ◌%◌, ◌<◌, Bool, false, cond, not, ◌||◌, ◌≡◌, List, [], ◌∷◌, ◌++◌, eqb, length, get_or, ℤ, pos, Float, Result, Ok, Err}
use Rattle.std.specs.Float.{nan}
use Rattle.integer.specs.Encoding.{signed_bytes}
use Rattle.commands.specs.declared.Command.TheVariants.{Give}
use Rattle.commands.specs.declared.Entry as commands
use Rattle.commands.specs.declared.Entry.TheVariants.{State, Input}
use Rattle.commands.specs.Format.{decoded, wrong_size, beyond, wrong}
use Rattle.tape.specs.declared.refusal.Refusal.{Refusal}
use Rattle.tape.specs.declared.refusal.Refusal.TheVariants as refusal
use Rattle.import.specs.Entries.{number, imported}
use Rattle.import.specs.declared.Entry.{Entry}
use Rattle.import.specs.declared.Entry.TheVariants.{Whole, Near}
use Rattle.import.specs.declared.ImportError.{ImportError}
use Rattle.import.specs.declared.ImportError.TheVariants.{NotFinite, TooLarge}

-- ---- The answer: refusals in their order

-- 9: a slice has not n², n·m or 5(n² + n·m) elements
abbrev pub wrong_length : ℕ → ℕ → ℕ → ℕ → ℕ → Bool
wrong_length n m a b out = not (eqb a (n * n)) || not (eqb b (n * m)) || not (eqb out (5 * (n * n + n * m)))

-- 16 or 17, with the entry's count
abbrev pub verdict : ℕ → Result Entry ImportError → Result (Unit {0}) Refusal
verdict count (Ok entry) = Ok tt
verdict count (Err NotFinite) = Err (refusal.NotFinite count)
verdict count (Err TooLarge) = Err (refusal.TooLarge count)

-- the first refusal counts
abbrev pub first : Result (Unit {0}) Refusal → Result (Unit {0}) Refusal → Result (Unit {0}) Refusal
first (Ok tt) later = later
first (Err why) later = Err why

-- entries in order, the first of which has this count
unfoldable pub tested : ℕ → List Float → Result (Unit {0}) Refusal
tested count [] = Ok tt
tested count (a ∷ others) = first (verdict count (imported a)) (tested (suc count) others)

-- 5 for sizes that no command 10 may have, then 9, then the entries of A and of B. `out` is the length of what is lent for the commands.
unfoldable pub model_answer : ℕ → ℕ → List Float → List Float → ℕ → Result (Unit {0}) Refusal
unfolding tested
model_answer n m a b out =
    cond (wrong_size n m 1) (Err refusal.ArgumentOutOfRange)
    (cond (wrong_length n m (length a) (length b) out) (Err refusal.Length)
    (first (tested 0 a) (tested (length a) b)))

-- ---- What is left in `out`

abbrev pub number_in : Result Entry ImportError → ℤ
number_in (Ok (Whole k)) = k
number_in (Ok (Near k leftover)) = k
number_in (Err why) = pos 0

-- the entry at a place of a matrix by rows: byte, row, column, number in 2 signed bytes
unfoldable pub command : ℕ → ℕ → ℕ → ℤ → List ℕ
command byte columns place k = byte ∷ place / columns ∷ place % columns ∷ signed_bytes 2 k

-- one command for each entry, zeros included
unfoldable pub commands_from : ℕ → ℕ → ℕ → List Float → List ℕ
commands_from byte columns place [] = []
commands_from byte columns place (a ∷ others) = command byte columns place (number_in (imported a)) ++ commands_from byte columns (suc place) others

abbrev pub model_left : Result (Unit {0}) Refusal → ℕ → ℕ → List Float → List Float → List ℕ → List ℕ
model_left (Ok tt) n m a b before = commands_from 0x20 n 0 a ++ commands_from 0x21 m 0 b
model_left (Err why) n m a b before = before

-- ---- The tape reads it so

-- At the place p of s stands a command that gives e, and its indexes and its number pass on every tape of n states and m inputs.
pub record Gives (s : List ℕ) (p n m : ℕ) (e : commands.Entry) : Type 0 where
  pub is : decoded s p ≡ Give e
  pub indexes : (N : ℕ) → beyond n m N e ≡ false
  pub range : wrong e ≡ false

-- With any bytes before and behind: A(i,j) is the number of the entry at n·i + j of a, B(i,j) that of the entry at m·i + j of b.
pub record Readable (n m : ℕ) (a b : List Float) (out : List ℕ) : Type 0 where
  pub state : (front behind : List ℕ) (i j : ℕ) → i < n → j < n →
      Gives (front ++ (out ++ behind)) (length front + 5 * (n * i + j)) n m (State i j (number (get_or a (n * i + j) nan)))
  pub input : (front behind : List ℕ) (i j : ℕ) → i < n → j < m →
      Gives (front ++ (out ++ behind)) (length front + 5 * (n * n + (m * i + j))) n m (Input i j (number (get_or b (m * i + j) nan)))

abbrev pub ReadBack : Result (Unit {0}) Refusal → ℕ → ℕ → List Float → List Float → List ℕ → Type 0
ReadBack (Ok tt) n m a b out = Readable n m a b out
ReadBack (Err why) n m a b out = Unit {0}
