-- Laws about the reader's steps: what the next command leads to, sizes that stay in range, and reading on.
use Prim.Native.Nat.{ℕ, zero, suc, ◌+◌, ◌-◌, ◌<◌, ◌≤◌}
use mathlib.Core.Path.{◌≡◌, refl}
use mathlib.Core.Bool.{Bool, true, false, not}
use mathlib.Core.Logic.{◌⊎◌, inl, inr}
use mathlib.Core.List.{List, [], ◌∷◌}
use native.Mathlib.Omega.{arith}
use native.Mathlib.Numerals.{sub-one}
use lib.Dec.{ltb}
use lib.ListN.{length, set}
use borrow.Author.Tests.{ltb-false}
use Rattle.integer.proofs.Tests.{by_test, none}
use Rattle.commands.specs.declared.Command.{Command}
use Rattle.commands.specs.declared.Command.TheVariants as command
use Rattle.commands.specs.declared.Entry.{Entry}
use Rattle.commands.specs.declared.Entry.TheVariants.{State, Input, Drift, Column, Reference, Start, Rounds}
use Rattle.commands.specs.Format.{decoded, size_bytes, bytes_of, wrong_size, beyond, wrong, place_of}
use Rattle.commands.specs.Marks.{marked}
use Rattle.commands.specs.Room.{SmallSizes}
use Rattle.tape.specs.Answer.{Reading}
use Rattle.tape.specs.declared.Tape.{Tape}
use Rattle.tape.specs.declared.refusal.Refusal.{Refusal}
use Rattle.tape.specs.Refusals.{row, figure}
use Rattle.tape.specs.Tape.{with_size, with}
use Rattle.tape.specs.Reading.{Reader, Verdict, Going, Ended, Refused, refuse, refuse_when, sized, absent, lacks_weight, obey_size, obey_entry, obey_end, obey, next, outcome, read_from, opened}

-- 1 to 8 or 18, with a figure that is at most so large
abbrev pub OfTape : ℕ → Refusal → Type 0
OfTape most why = (((row why).number ≤ 8) ⊎ ((row why).number ≡ 18)) × (figure (row why).carries ≤ most)

-- ---- What the next command leads to: to a reader of which P holds, if P holds where the command is refused and where it is obeyed

pub record Leads (P : Reader → Type 0) (s : List ℕ) (q : Reader) : Type 0 where
  pub refused : (why : Refusal) → OfTape (q.at + 1) why → P (refuse why q)
  pub size : (n m horizon : ℕ) → sized q.tape ≡ false → wrong_size n m horizon ≡ false →
      P (record { at = q.at + size_bytes; verdict = Going; tape = with_size q.tape n m horizon; given = q.given })
  pub entry : (e : Entry) → decoded s q.at ≡ command.Give e →
      not (sized q.tape) ≡ false → beyond q.tape.n q.tape.m q.tape.horizon e ≡ false → wrong e ≡ false → marked q.given (place_of e) ≡ false →
      P (record { at = q.at + bytes_of e; verdict = Going; tape = with q.tape e; given = set q.given (place_of e) true })
  pub ended : not (sized q.tape) ≡ false → absent q.tape.n q.tape.m q.tape.horizon q.given ≡ false → lacks_weight q.tape ≡ false →
      length s ≤ q.at + 1 →
      P (record { at = q.at; verdict = Ended; tape = q.tape; given = q.given })

module _ (P : Reader → Type 0) (s : List ℕ) (q : Reader) (k : Leads P s q) where
  -- a test whose refusal is one of 1 to 8
  passed : (test : Bool) (why : Refusal) {r : Reader} → ((row why).number ≤ 8) × (figure (row why).carries ≤ q.at + 1) → (test ≡ false → P r) → P (refuse_when test why q r)
  passed test why h f = by_test P test (λ _. k.refused why (inl h.0, h.1)) f

  obeyed : (c : Command) → decoded s q.at ≡ c → P (obey c s q)
  unfolding obey obey_size obey_entry obey_end
  obeyed command.Unknown d = k.refused _ (inl (omega arith), omega arith)
  obeyed command.Cut d = k.refused _ (inl (omega arith), omega arith)
  obeyed (command.Size n m horizon) d = passed _ _ (omega arith) (λ u. passed _ _ (omega arith) (λ w. k.size n m horizon u w))
  obeyed (command.Give e) d =
      passed _ _ (omega arith) (λ u. passed _ _ (omega arith) (λ b. passed _ _ (omega arith) (λ w. passed (marked q.given (place_of e)) _ (omega arith) (λ g. k.entry e d u b w g))))
  obeyed command.End d =
      passed _ _ (omega arith) (λ u. passed _ _ (omega arith) (λ a. by_test P (lacks_weight q.tape) (λ _. k.refused _ (inr refl, omega arith)) (λ w. passed (ltb (q.at + 1) (length s)) _ (omega arith) (λ o. k.ended u a w (ltb-false _ _ o)))))

  pub next-leads : P (next s q)
  unfolding next
  next-leads = by_test P (ltb q.at (length s)) (λ _. obeyed (decoded s q.at) refl) (λ h. k.refused _ (inl (omega arith), omega (arith, ltb-false q.at (length s) h)))

-- ---- The sizes stay in range

abbrev pub SmallTape : Tape → Type 0
SmallTape t = SmallSizes t.n t.m t.horizon

pub small_opened : SmallTape opened.tape
small_opened = record { states = omega arith; inputs = omega arith; steps = omega arith }

small_size : (t : Tape) (n m horizon : ℕ) → wrong_size n m horizon ≡ false → SmallTape (with_size t n m horizon)
unfolding wrong_size
small_size t n m horizon e =
    let o = none (ltb n 1) (ltb 6 n ∷ ltb m 1 ∷ ltb 4 m ∷ ltb horizon 1 ∷ ltb 12 horizon ∷ []) e in
    record { states = omega (arith, ltb-false); inputs = omega (arith, ltb-false); steps = omega (arith, ltb-false) }

-- an entry leaves the sizes
pub same-sizes : (t : Tape) (e : Entry) → ((with t e).n ≡ t.n) × ((with t e).m ≡ t.m) × ((with t e).horizon ≡ t.horizon)
same-sizes t (State i j v) = (refl, refl, refl)
same-sizes t (Input i j v) = (refl, refl, refl)
same-sizes t (Drift i v) = (refl, refl, refl)
same-sizes t (Column c lo hi r h) = (refl, refl, refl)
same-sizes t (Reference c k r) = (refl, refl, refl)
same-sizes t (Start i v) = (refl, refl, refl)
same-sizes t (Rounds banded g rounds wanted) = (refl, refl, refl)

small_with : (t : Tape) (e : Entry) → SmallTape t → SmallTape (with t e)
small_with t e h = omega (arith, same-sizes t e)

pub small_next : (s : List ℕ) (q : Reader) → SmallTape q.tape → SmallTape (next s q).tape
small_next s q h =
    next-leads (λ r. SmallTape r.tape) s q
    (record { refused = λ _ _. h; size = λ n m horizon _ w. small_size q.tape n m horizon w; entry = λ e _ _ _ _ _. small_with q.tape e h; ended = λ _ _ _ _. h })

-- ---- Reading on

-- r is where the next command leads to, and v its verdict
pub read_step : (s : List ℕ) (left : ℕ) (q r : Reader) {v : Verdict} → 0 < left → r ≡ next s q → r.verdict ≡ v →
    outcome v r.tape (read_from s (left - 1) r) ≡ read_from s left q
unfolding read_from
read_step s zero q r h e f = let z : ⊥ = omega arith in absurd z
read_step s (suc left) q r h e f = rw (sub-one (suc left), ← e, f)

-- what follows counts only where the reading goes on
pub outcome-same : (v : Verdict) (t : Tape) (x y : Reading) → (v ≡ Going → x ≡ y) → outcome v t x ≡ outcome v t y
outcome-same Going t x y h = h refl
outcome-same Ended t x y h = refl
outcome-same (Refused why) t x y h = refl
