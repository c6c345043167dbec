-- The number falls at each call.
use Rattle.slip_text.proofs.text.Text.+with_digits.Given as goal

abbrev pub decreases-with_digits : goal.decreases-with_digits
decreases-with_digits l = l.x
