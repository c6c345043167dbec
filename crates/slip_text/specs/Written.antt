-- What a text's buffer holds, and what appending leaves in it.
use Rattle.std.specs.Prelude.{ℕ, ◌+◌, ◌≤◌, ◌≡◌, List, ◌++◌}
use Rattle.slip_text.specs.declared.text.Text.{Text}
use Rattle.slip_text.specs.Slip.{text_of}

-- t is the text s. A record, so that proofs need not spell s.
pub record Holds (t : Text) (s : List ℕ) : Type 0 where
  pub is : t ≡ text_of s

-- r is t with s, of at most `most` bytes, after what t holds.
pub record Appended (t : Text) (s : List ℕ) (most : ℕ) (r : Text) : Type 0 where
  pub holds : (before : List ℕ) → Holds t before → Holds r (before ++ s)
  pub longer : r.length ≤ t.length + most
