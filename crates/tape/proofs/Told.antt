-- What `read` hands on says which reading it is of.
use mathlib.Core.Path.{◌≡◌}
use borrow.Author.Rules.{rules}
use Rattle.std.specs.Prelude.{Ok, Err}
use Rattle.tape.specs.declared.Tape.{Tape}
use Rattle.tape.specs.declared.refusal.Refusal.{Refusal}
use Rattle.tape.specs.Answer.{Answer, Accepted, Refused, Reading, told, told_of}

module _ (r : Reading) where
  pub told_ok : {t : Tape} → told_of r ≡ Ok t → (r.answer ≡ Accepted) × (r.tape ≡ t)
  told_ok e = go r.answer r.tape e
    where
      go : (a : Answer) (u : Tape) {t : Tape} → told a u ≡ Ok t → (a ≡ Accepted) × (u ≡ t)
      go Accepted u e = search rules
      go (Refused why) u e = search rules

  pub told_err : {why : Refusal} → told_of r ≡ Err why → r.answer ≡ Refused why
  told_err e = go r.answer r.tape e
    where
      go : (a : Answer) (u : Tape) {why : Refusal} → told a u ≡ Err why → a ≡ Refused why
      go Accepted u e = search rules
      go (Refused why) u e = search rules
