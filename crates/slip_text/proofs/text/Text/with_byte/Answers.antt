use mathlib.Core.Path.{refl}
use borrow.Author.Rules.{rules}
use Rattle.slip_text.proofs.Appending.{appended_byte}
use Rattle.slip_text.proofs.text.Text.with_byte.Goals as goal

pub returns : goal.returns
returns c = appended_byte (search rules) refl
