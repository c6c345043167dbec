-- A tape and a refusal as numbers, for other languages.
use Rattle.std.specs.Prelude.{ℕ, ◌+◌, ◌*◌, Bool, cond, List, [], ◌∷◌, ◌++◌, map, ℤ, pos}
use Rattle.tape.specs.declared.Tape.{Tape}
use Rattle.tape.specs.declared.refusal.Refusal.{Refusal}
use Rattle.tape.specs.Refusals.{row, figure}

-- A refusal's number, and 256 times what it carries.
abbrev pub code_of : Refusal → ℕ
code_of why = (row why).number + 256 * figure (row why).carries

-- The 118 numbers of a tape: n, m, N; A, B, w; lo, hi, r, h of each column; x(0); g, R, T.
abbrev pub read_numbers : Tape → List ℤ
read_numbers t =
    (pos t.n ∷ pos t.m ∷ pos t.horizon ∷ [])
    ++ t.a ++ t.b ++ t.drift ++ t.low ++ t.high ++ t.reference ++ t.weight ++ t.start
    ++ (t.gain ∷ pos t.rounds ∷ t.wanted ∷ [])

-- 1 for a mark
abbrev pub mark_number : Bool → ℤ
mark_number given = cond given (pos 1) (pos 0)

-- The 240 numbers of a tape's curves: for column c and step k the reference of command 31 at 12c + k, 0 where there is none; its
-- mark at 120 + 12c + k.
abbrev pub reference_numbers : Tape → List ℤ
reference_numbers t = t.curves.reference ++ map mark_number t.curves.given

-- The one number of a tape's step: 0 where the tape has command 50, 1 where it has 51.
abbrev pub step_numbers : Tape → List ℤ
step_numbers t = mark_number t.banded ∷ []
