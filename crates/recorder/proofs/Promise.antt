-- The promise of `write_record`, from what it answers and writes.
use Prim.Native.Nat.{ℕ, ◌*◌}
use mathlib.Core.Path.{◌≡◌, refl, sym, ap, ◌∙◌}
use mathlib.Core.Bool.{Bool, true, false, cond, not}
use mathlib.Core.List.{List, [], ◌∷◌}
use native.Mathlib.Omega.{arith}
use borrow.Author.Rules.{rules}
use borrow.Author.Tests.{eqb-true, not-false, eq-eqb, ne_eqb}
use lib.Dec.{eqb}
use lib.ListN.{length, take}
use lib.Seq.{length-take-le}
use lib.IntN.{ℤ}
use Rattle.integer.proofs.Operand.{Bytes}
use Rattle.integer.proofs.Places.{take-bounded}
use Rattle.integer.proofs.Tests.{by_test, none}
use Rattle.std.specs.Prelude.{Result, Ok, Err}
use Rattle.tape.specs.Answer.{Answer, Reading, told, told_of}
use Rattle.tape.specs.Answer as answer
use Rattle.tape.specs.declared.Tape.{Tape}
use Rattle.tape.specs.declared.refusal.Carried.{Carried}
use Rattle.tape.specs.declared.refusal.Carried.TheVariants.{Place, Nothing, Fault, Span, Rounds}
use Rattle.tape.specs.declared.refusal.Refusal.{Refusal}
use Rattle.tape.specs.declared.refusal.Refusal.TheVariants.{Length}
use Rattle.tape.specs.Reading.{reading}
use Rattle.tape.specs.Refusals.{row}
use Rattle.tape.specs.Tape.{zeros}
use Rattle.judge.specs.Demand.{NoneCheaper}
use Rattle.solver.specs.declared.Solved.{Solved}
use Rattle.solver.specs.declared.Solved.TheVariants.{Proved, Impossible}
use Rattle.solver.specs.Demand.{Upheld}
use Rattle.solver.specs.Solving as solving
use Rattle.solver.proofs.Again.{upheld}
use Rattle.solution.specs.Solution.{plan_numbers, multiplier_numbers}
use Rattle.recorder.specs.declared.Recorded.{Recorded}
use Rattle.records.specs.declared.Sizes.{Sizes}
use Rattle.records.specs.Readers.{service_length, service_bytes, gap_in, duties_in, plan_in, multipliers_in, number_bytes}
use Rattle.records.specs.Records.{record_with}
use Rattle.records.specs.Records as records
use Rattle.recorder.specs.Calls.{wrong_lengths, after_read, recorded_at, answer_of, laboratory_left, service_left}
use Rattle.recorder.specs.Demand.{UpheldIn}
use Rattle.recorder.specs.Held.{KeptFits, sizes_told}
use Rattle.recorder.specs.Recording.{sizes_of, Recording, unanswered, record_of, recording}
use Rattle.recorder.specs.Recording as recordings
use Rattle.records.proofs.Back.{proved, gap_in_lem, duties_in_lem, numbers_in_lem, last_numbers_in, plan_from, multipliers_from}
use Rattle.records.proofs.Bytes.{duties_room, number_bytes_length, proved-length}
use Rattle.recorder.proofs.Fits.{recording_fits}

-- ---- Demand 3 over the bytes

module _ (t : Tape) (before before' : List ℕ) where
  abbrev Held : Recording → Type 0
  Held r = UpheldIn (answer_of r) t (laboratory_left r before) (service_left r before')

  open_held : (why : Refusal) (c : Carried) → Held (unanswered (sizes_of t) why c)
  open_held why (Rounds R) = tt
  open_held why (Place at) = tt
  open_held why Nothing = tt
  open_held why (Fault fault) = tt
  open_held why (Span span) = tt

  held : (a : Result Solved Refusal) (plan y : List ℤ) → Upheld a t plan y → KeptFits (record_of (sizes_of t) a plan y) → Held (record_of (sizes_of t) a plan y)
  held (Ok (Proved rounds gap first)) plan y u f =
      let z = sizes_of t in
      let d = take t.m plan in
      let h = f.outcome in
      let m : length d ≡ t.m = length-take-le t.m plan (rw h.3.long (duties_room z h.0)) in
      let l = proved rounds gap d in
      let k = proved-length rounds gap d (omega (arith, m, f.sizes.inputs)) in
      let w : length (number_bytes 4 plan) ≡ 4 * plan_numbers t = number_bytes_length 4 plan ∙ ap (λ (n : ℕ). 4 * n) h.3.long in
      let duties : duties_in t.m l ≡ d = ap (λ (n : ℕ). duties_in n l) (sym m) ∙ duties_in_lem rounds gap d (take-bounded t.m plan h.3.within) in
      let service = service_bytes (record_with z rounds (records.Proved gap plan y)) in
      let plans : plan_in z service ≡ plan = rw (plan_from l k z (number_bytes 4 plan) (number_bytes 4 y)) (numbers_in_lem plan (number_bytes 4 y) h.3 (omega arith)) in
      let multipliers : multipliers_in z service ≡ y =
      rw (multipliers_from l k z (number_bytes 4 plan) (number_bytes 4 y) (4 * plan_numbers t) w) (last_numbers_in y h.4 (omega arith)) in
      let none : NoneCheaper t (plan_in z service) (multipliers_in z service) (gap_in l) = rw (plans, multipliers, gap_in_lem rounds gap d h.1 h.2) u.0 in
      (none, duties ∙ ap (take t.m) (sym plans))
  held (Ok (Impossible rounds)) plan y u f = u
  held (Err why) plan y u f = open_held why (row why).carries

recording-held : (s : List ℕ) → Bytes s → (before before' : List ℕ) → Held (reading s).tape before before' (recording s)
unfolding recording
recording-held s b before before' =
    let t = (reading s).tape in
    let plan = zeros (plan_numbers t) in
    let y = zeros (multiplier_numbers t) in
    let e = solving.solving s plan y in
    held t before before' (solving.answer_of t e) (solving.plan_left e plan) (solving.multipliers_left e y) (upheld s plan y b) (recording_fits s b)

-- ---- The call

-- what is handed on of a reading says which reading it is of
module _ (r : Reading) where
  pub sizes_ok : {z : Sizes} → sizes_told (told_of r) ≡ Ok z → (r.answer ≡ answer.Accepted) × (sizes_of r.tape ≡ z)
  sizes_ok e = go r.answer r.tape e
    where
      go : (a : Answer) (t : Tape) {z : Sizes} → sizes_told (told a t) ≡ Ok z → (a ≡ answer.Accepted) × (sizes_of t ≡ z)
      go answer.Accepted t e = search rules
      go (answer.Refused why) t e = search rules

  pub sizes_err : {why : Refusal} → sizes_told (told_of r) ≡ Err why → r.answer ≡ answer.Refused why
  sizes_err e = go r.answer r.tape e
    where
      go : (a : Answer) (t : Tape) {why : Refusal} → sizes_told (told a t) ≡ Err why → a ≡ answer.Refused why
      go answer.Accepted t e = search rules
      go (answer.Refused why) t e = search rules

-- only what carries the rounds leaves a record
pub left_unanswered : (z : Sizes) (why : Refusal) (c : Carried) → ((R : ℕ) → c ≡ Rounds R → ⊥) → unanswered z why c ≡ recordings.Refused why
left_unanswered z why (Rounds R) other = absurd (other R refl)
left_unanswered z why (Place at) other = refl
left_unanswered z why Nothing other = refl
left_unanswered z why (Fault fault) other = refl
left_unanswered z why (Span span) other = refl

-- the two tests of lengths
pub wrong_laboratory : (z : Sizes) (laboratory service : ℕ) → (laboratory ≡ 16 → ⊥) → not (eqb laboratory 16) ≡ wrong_lengths z laboratory service
wrong_laboratory z laboratory service n = rw (ne_eqb laboratory 16 n) refl

pub right_laboratory : (z : Sizes) (laboratory service : ℕ) → laboratory ≡ 16 → not (eqb service (service_length z)) ≡ wrong_lengths z laboratory service
right_laboratory z laboratory service e = rw (eq-eqb laboratory 16 e)

pub right_lengths : (z : Sizes) (laboratory service : ℕ) → wrong_lengths z laboratory service ≡ false → (laboratory ≡ 16) × (service ≡ service_length z)
right_lengths z laboratory service e =
    let n = none (not (eqb laboratory 16)) (not (eqb service (service_length z)) ∷ []) e in
    (eqb-true _ _ (not-false _ n.0), eqb-true _ _ (not-false _ n.1.0))

module _ (s : List ℕ) (laboratory service : ℕ) where
  abbrev t : Tape
  t = (reading s).tape

  abbrev wrong : Bool
  wrong = wrong_lengths (sizes_of t) laboratory service

  pub tape-refused : {why : Refusal} → (reading s).answer ≡ answer.Refused why → recorded_at s laboratory service ≡ recordings.Refused why
  unfolding recorded_at
  tape-refused e = rw e refl

  pub length-refused : (reading s).answer ≡ answer.Accepted → wrong ≡ true → recorded_at s laboratory service ≡ recordings.Refused Length
  unfolding recorded_at
  length-refused e w = rw (e, w) refl

  pub then_recorded : (reading s).answer ≡ answer.Accepted → wrong ≡ false → recorded_at s laboratory service ≡ recording s
  unfolding recorded_at
  then_recorded e w = rw (e, w) refl

  recorded_held : Bytes s → (before before' : List ℕ) → Held t before before' (recorded_at s laboratory service)
  unfolding recorded_at
  recorded_held b before before' = go (reading s).answer
    where
      go : (a : Answer) → Held t before before' (after_read a (cond wrong (recordings.Refused Length) (recording s)))
      go answer.Accepted = by_test (Held t before before') wrong (λ _. tt) (λ _. recording-held s b before before')
      go (answer.Refused why) = tt

  -- all clauses from the first three
  pub record_promise : (before before' : List ℕ) {r : Result Recorded Refusal} {left left' : List ℕ} → Bytes s → r ≡ answer_of (recorded_at s laboratory service) →
      left ≡ laboratory_left (recorded_at s laboratory service) before → left' ≡ service_left (recorded_at s laboratory service) before' →
      (r ≡ answer_of (recorded_at s laboratory service)) × ((left ≡ laboratory_left (recorded_at s laboratory service) before)
      × ((left' ≡ service_left (recorded_at s laboratory service) before') × UpheldIn r t left left'))
  record_promise before before' b e l m = (e, (l, (m, rw (e, l, m) (recorded_held b before before'))))
