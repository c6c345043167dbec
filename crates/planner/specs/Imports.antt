-- The exported calls of an import: the number that they return, what they leave, and what that says.
use Rattle.std.specs.Prelude.{ℕ, false, ◌≡◌, List, [], ◌∷◌, get_or, ℤ, pos, Float, Result, Ok, Err}
use Rattle.std.specs.Float.{nan, fin}
use Rattle.integer.specs.Places.{at}
use Rattle.tape.specs.declared.refusal.Refusal.{Refusal}
use Rattle.import.specs.declared.Entry.{Entry}
use Rattle.import.specs.declared.Entry.TheVariants.{Whole, Near}
use Rattle.import.specs.declared.ImportError.{ImportError}
use Rattle.import.specs.declared.ImportError.TheVariants.{NotFinite, TooLarge}
use Rattle.import.specs.Entries.{Exact}
use Rattle.models.specs.Models.{Readable}
use Rattle.numbers.specs.Numbers.{code_of}

-- ---- one entry

-- kind (1 whole, 2 near) and number
abbrev pub entry_left : Result Entry ImportError → List ℤ → List ℤ
entry_left (Ok (Whole k)) before = pos 1 ∷ k ∷ []
entry_left (Ok (Near k leftover)) before = pos 2 ∷ k ∷ []
entry_left (Err why) before = before

-- the leftover, 0.0 where there is none
abbrev pub leftover_left : Result Entry ImportError → List Float → List Float
leftover_left (Ok (Whole k)) before = fin false 0 (pos 0) ∷ []
leftover_left (Ok (Near k leftover)) before = leftover ∷ []
leftover_left (Err why) before = before

-- What the number and the two arrays say of the entry a.
pub record ExactBy (number : ℕ) (a : Float) (out : List ℤ) (leftover : List Float) : Type 0 where
  pub whole : number ≡ 0 → at out 0 ≡ pos 1 → Exact a (Ok (Whole (at out 1)))
  pub near : number ≡ 0 → at out 0 ≡ pos 2 → Exact a (Ok (Near (at out 1) (get_or leftover 0 nan)))
  pub not_finite : number ≡ 16 → Exact a (Err NotFinite)
  pub too_large : number ≡ 17 → Exact a (Err TooLarge)

-- ---- a model

abbrev pub model_code : Result (Unit {0}) Refusal → ℕ
model_code (Ok tt) = 0
model_code (Err why) = code_of why

-- Where the number is 0, the tape reads each command in `out` as the entry that it was made from.
pub record ReadBackBy (number : ℕ) (n m : ℕ) (a b : List Float) (out : List ℕ) : Type 0 where
  pub readable : number ≡ 0 → Readable n m a b out
