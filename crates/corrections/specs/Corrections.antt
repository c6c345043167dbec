-- Document 02, request 9: the correction of given residuals by the banded step, for service and for comparison.
use Rattle.std.specs.Prelude.{ℕ, ◌*◌, Bool, not, cond, ◌||◌, List, eqb, length, ℤ, pos, neg_ℤ, Float, Result, Ok, Err}
use Rattle.integer.specs.Places.{at}
use Rattle.integer.specs.Tests.{outside, any}
use Rattle.tape.specs.Reading.{reading}
use Rattle.tape.specs.Answer.{Answer}
use Rattle.tape.specs.Answer as answer
use Rattle.tape.specs.declared.Tape.{Tape}
use Rattle.tape.specs.declared.refusal.Refusal.{Refusal}
use Rattle.tape.specs.declared.refusal.Refusal.TheVariants.{Length, ArgumentOutOfRange}
use Rattle.problem.specs.Model.{problem_of}
use Rattle.primal.specs.Lent.{listed}
use Rattle.banded.specs.Step.{uses_band, banded_pivot, banded_correction}
use Rattle.corrections.specs.declared.Corrected.{Corrected}
use Rattle.corrections.specs.declared.Corrected.TheVariants.{Written, Unused}

-- one of the three slices has not as many numbers as there are rows
abbrev pub wrong_rows : ℕ → ℕ → ℕ → ℕ → Bool
wrong_rows rows e pivots d = not (eqb e rows) || not (eqb pivots rows) || not (eqb d rows)

-- 2^40
abbrev pub most_given : ℕ
most_given = 1099511627776

-- a residual is beyond 2^40 in size
abbrev pub wrong_residuals : List ℤ → Bool
wrong_residuals e = any (length e) (λ p. outside (neg_ℤ (pos most_given)) (pos most_given) (at e p))

-- 9, 5, and whether the tape is solved by the banded step
unfoldable pub corrected_on : Tape → List ℤ → ℕ → ℕ → Result Corrected Refusal
corrected_on t e pivots d =
    cond (wrong_rows (t.horizon * t.n) (length e) pivots d) (Err Length)
    (cond (wrong_residuals e) (Err ArgumentOutOfRange)
    (cond (uses_band t) (Ok Written) (Ok Unused)))

abbrev pub corrected_after : Answer → Result Corrected Refusal → Result Corrected Refusal
corrected_after answer.Accepted accepted = accepted
corrected_after (answer.Refused why) accepted = Err why

-- The answer, given the lengths of the slices for pivots and d.
unfoldable pub corrected : List ℕ → List ℤ → ℕ → ℕ → Result Corrected Refusal
corrected s e pivots d = corrected_after (reading s).answer (corrected_on (reading s).tape e pivots d)

-- What the two slices hold at exit: the pivots, and d of the residuals e, in the order of the rows; what they held where the tape
-- is not solved by the banded step, and on a refusal.
abbrev pub pivots_left : Result Corrected Refusal → Tape → List Float → List Float
pivots_left (Ok Written) t before = listed (t.horizon * t.n) (banded_pivot (problem_of t))
pivots_left (Ok Unused) t before = before
pivots_left (Err why) t before = before

abbrev pub correction_left : Result Corrected Refusal → Tape → List ℤ → List Float → List Float
correction_left (Ok Written) t e before = listed (t.horizon * t.n) (banded_correction (problem_of t) e)
correction_left (Ok Unused) t e before = before
correction_left (Err why) t e before = before
