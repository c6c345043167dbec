-- What the two readers get is read back: each field of a record from its place.
use Prim.Native.Nat.{ℕ, ◌+◌, ◌-◌, ◌*◌, ◌%◌, ◌^◌, ◌<◌, ◌≤◌}
use mathlib.Core.Path.{◌≡◌, refl, sym, ap, ◌∙◌}
use mathlib.Core.Bool.{cond}
use mathlib.Core.List.{List, [], ◌∷◌, ◌++◌, append_assoc, append-nil}
use native.Mathlib.Omega.{arith}
use lib.Dec.{eqb}
use lib.ListN.{length, take, drop, length-append, length-take, length-replicate}
use lib.Seq.{take_at, drop_at}
use lib.IntN.{ℤ, pos, negsuc, nat_abs}
use Rattle.integer.specs.Encoding.{unsigned_bytes}
use Rattle.integer.specs.Operand.{unsigned, operand}
use Rattle.integer.specs.Order.{◌≼◌}
use Rattle.integer.specs.Places.{Bounded}
use Rattle.integer.proofs.Encoding.{unsigned_back}
use Rattle.integer.proofs.Order.{order}
use Rattle.integer.proofs.Places.{take-bounded}
use Rattle.integer.proofs.Sizes.{size_parts}
use Rattle.commands.specs.Ranges.{most_number, most_rounds, most_wanted}
use Rattle.records.specs.declared.Sizes.{Sizes}
use Rattle.records.specs.Readers.{numbers_in, gap_in, duties_in, absent, number_bytes, Seen, seen_of, seen, head, duty_bytes, unproved, laboratory_bytes, plan_count, multiplier_count, sized, service_bytes}
use Rattle.records.specs.Held.{Numbers, Fitting, FittingOutcome, Fits}
use Rattle.records.specs.Readers as readers
use Rattle.records.specs.Records.{Record, Outcome, Proved, Impossible, Open}
use Rattle.records.proofs.Bytes.{number_bytes_length, proved-length, unproved-length, sized-length, numbers_back}

-- ---- The head: kind, number of duties, rounds

abbrev kind_in : List ℕ → ℕ
kind_in s = unsigned (operand 1 s 0)

abbrev count_in : List ℕ → ℕ
count_in s = unsigned (operand 1 s 1)

abbrev rounds_in : List ℕ → ℕ
rounds_in s = unsigned (operand 2 s 2)

module _ (kind duties rounds : ℕ) (rest : List ℕ) where
  kind_back : kind < 256 → kind_in (head kind duties rounds ++ rest) ≡ kind
  unfolding unsigned unsigned_bytes
  kind_back h = omega arith

  count_back : duties < 256 → count_in (head kind duties rounds ++ rest) ≡ duties
  unfolding unsigned unsigned_bytes
  count_back h = omega arith

  rounds_back : rounds ≤ most_rounds → rounds_in (head kind duties rounds ++ rest) ≡ rounds
  unfolding unsigned unsigned_bytes
  rounds_back h = omega arith

unproved-head : (kind rounds : ℕ) → kind < 256 → rounds ≤ most_rounds → (kind_in (unproved kind rounds) ≡ kind) × (rounds_in (unproved kind rounds) ≡ rounds)
unproved-head kind rounds k h =
    let e = append_assoc (head kind 0 rounds) (absent 4) (absent 8) in
    (ap kind_in e ∙ kind_back kind 0 rounds (absent 4 ++ absent 8) k, ap rounds_in e ∙ rounds_back kind 0 rounds (absent 4 ++ absent 8) h)

-- ---- Gap and duties

from-size : (gap : ℤ) → pos 0 ≼ gap → pos (nat_abs gap) ≡ gap
from-size (pos n) h = refl
from-size (negsuc n) h = absurd h.le

module _ (rounds : ℕ) (gap : ℤ) (duties : List ℤ) where
  abbrev pub proved : List ℕ
  proved = laboratory_bytes (readers.Proved rounds gap duties)

  pub proved-head : length duties ≤ 4 → rounds ≤ most_rounds → (kind_in proved ≡ 1) × (count_in proved ≡ length duties) × (rounds_in proved ≡ rounds)
  proved-head few h =
      let rest = unsigned_bytes 4 (nat_abs gap) ++ duty_bytes duties in
      let e = append_assoc (head 1 (length duties) rounds) (unsigned_bytes 4 (nat_abs gap)) (duty_bytes duties) in (
        ap kind_in e ∙ kind_back 1 (length duties) rounds rest (omega arith),
        ap count_in e ∙ count_back 1 (length duties) rounds rest (omega arith),
        ap rounds_in e ∙ rounds_back 1 (length duties) rounds rest h,
      )

  pub gap_in_lem : pos 0 ≼ gap → gap ≼ pos most_wanted → gap_in proved ≡ gap
  unfolding unsigned_bytes
  gap_in_lem l h = ap pos (unsigned_back 4 (nat_abs gap) (omega (arith, order, size_parts gap))) ∙ from-size gap l

  pub duties_in_lem : Bounded most_number duties → duties_in (length duties) proved ≡ duties
  unfolding unsigned_bytes
  duties_in_lem b = numbers_back 2 duties (absent (8 - 2 * length duties)) b (omega arith)

-- ---- Plan and multipliers

pub numbers_in_lem : {count most : ℕ} (l : List ℤ) (behind : List ℕ) → Numbers count most l → 2 * most < 256 ^ 4 → numbers_in 4 count (number_bytes 4 l ++ behind) ≡ l
numbers_in_lem {most = most} l behind n h = rw (sym n.long) (numbers_back 4 l {B = most} behind n.within h)

pub last_numbers_in : {count most : ℕ} (l : List ℤ) → Numbers count most l → 2 * most < 256 ^ 4 → numbers_in 4 count (number_bytes 4 l) ≡ l
last_numbers_in l n h = rw (append-nil (number_bytes 4 l)) at (numbers_in_lem l [] n h)

-- ---- The service's fields behind the laboratory's

module _ (laboratory : List ℕ) (l : length laboratory ≡ 16) (z : Sizes) (plan y : List ℕ) where
  abbrev pub service : List ℕ
  service = sized laboratory z ++ plan ++ y

  parted : service ≡ laboratory ++ (z.n % 256 ∷ z.m % 256 ∷ z.horizon % 256 ∷ (plan ++ y))
  unfolding unsigned_bytes
  parted = simp append_assoc

  laboratory_in : take 16 service ≡ laboratory
  laboratory_in = ap (take 16) parted ∙ take_at laboratory _ 16 l

  sizes_in_lem : drop 16 service ≡ z.n % 256 ∷ z.m % 256 ∷ z.horizon % 256 ∷ (plan ++ y)
  sizes_in_lem = ap (drop 16) parted ∙ drop_at laboratory _ 16 l

  pub plan_from : drop 19 service ≡ plan ++ y
  plan_from = ap (drop 19) (append_assoc (sized laboratory z) plan y) ∙ drop_at (sized laboratory z) (plan ++ y) 19 (sized-length laboratory z l)

  pub multipliers_from : (k : ℕ) → length plan ≡ k → drop (19 + k) service ≡ y
  multipliers_from k h = drop_at (sized laboratory z ++ plan) y (19 + k) (length-append (sized laboratory z) plan ∙ omega (arith, sized-length laboratory z l))

-- ---- What the laboratory sees

abbrev pub seen_in : List ℕ → Seen
seen_in s =
    cond (eqb (kind_in s) 1) (readers.Proved (rounds_in s) (gap_in s) (duties_in (count_in s) s)) (cond (eqb (kind_in s) 2) (readers.Impossible (rounds_in s)) (readers.Open (rounds_in s)))

-- what its bytes have room for
abbrev FitsSeen : Seen → Type 0
FitsSeen (readers.Proved rounds gap duties) =
    (rounds ≤ most_rounds) × (pos 0 ≼ gap) × (gap ≼ pos most_wanted) × (length duties ≤ 4) × Bounded most_number duties
FitsSeen (readers.Impossible rounds) = rounds ≤ most_rounds
FitsSeen (readers.Open rounds) = rounds ≤ most_rounds

fits_seen : (r : Record) → Fits r → FitsSeen (seen r)
fits_seen r f = go r.outcome f.outcome
  where
    go : (o : Outcome) → FittingOutcome r.sizes o → FitsSeen (seen_of r o)
    go (Proved gap plan y) h =
        (f.rounds, h.1, h.2, omega (arith, length-take r.sizes.m plan, f.sizes.inputs), take-bounded r.sizes.m plan h.3.within)
    go (Impossible y) h = f.rounds
    go Open h = f.rounds

seen_in_lem : (v : Seen) → FitsSeen v → seen_in (laboratory_bytes v) ≡ v
seen_in_lem (readers.Proved rounds gap duties) f =
    let p = proved-head rounds gap duties f.3 f.0 in
    rw (p.0, p.1, p.2, gap_in_lem rounds gap duties f.1 f.2, duties_in_lem rounds gap duties f.4)
seen_in_lem (readers.Impossible rounds) f = let u = unproved-head 2 rounds (omega arith) f in rw (u.0, u.1)
seen_in_lem (readers.Open rounds) f = let u = unproved-head 3 rounds (omega arith) f in rw (u.0, u.1)

pub seen_back : (r : Record) → Fits r → seen_in (laboratory_bytes (seen r)) ≡ seen r
seen_back r f = seen_in_lem (seen r) (fits_seen r f)

-- ---- The whole record

abbrev sizes_in : List ℕ → Sizes
sizes_in s = record { n = unsigned (operand 1 s 16); m = unsigned (operand 1 (drop 16 s) 1); horizon = unsigned (operand 1 (drop 16 s) 2) }

abbrev outcome_in : ℕ → ℤ → List ℤ → List ℤ → Outcome
outcome_in kind gap plan y = cond (eqb kind 1) (Proved gap plan y) (cond (eqb kind 2) (Impossible y) Open)

abbrev record_at : Sizes → List ℕ → Record
record_at z s = record {
  sizes = z;
  rounds = rounds_in (take 16 s);
  outcome = outcome_in (kind_in (take 16 s)) (gap_in (take 16 s)) (numbers_in 4 (plan_count z) (drop 19 s)) (numbers_in 4 (multiplier_count z) (drop (19 + 4 * plan_count z) s));
}

abbrev pub record_in : List ℕ → Record
record_in s = record_at (sizes_in s) s

byte_back : (x : ℕ) → x < 256 → unsigned (x % 256 ∷ []) ≡ x
unfolding unsigned
byte_back x h = omega arith

module _ (laboratory : List ℕ) (l : length laboratory ≡ 16) (z : Sizes) (f : Fitting z) (plan y : List ℕ) (k : length plan ≡ 4 * plan_count z) where
  abbrev bytes : List ℕ
  bytes = service laboratory l z plan y

  sizes_back : sizes_in bytes ≡ z
  sizes_back =
      rw (
        sizes_in_lem laboratory l z plan y,
        byte_back z.n (omega (arith, f.states)),
        byte_back z.m (omega (arith, f.inputs)),
        byte_back z.horizon (omega (arith, f.steps)),
      ) refl

  parts_back : record_in bytes ≡ record {
    sizes = z;
    rounds = rounds_in laboratory;
    outcome = outcome_in (kind_in laboratory) (gap_in laboratory) (numbers_in 4 (plan_count z) (plan ++ y)) (numbers_in 4 (multiplier_count z) y);
  }
  parts_back = ap (λ (w : Sizes). record_at w bytes) sizes_back ∙ rw (laboratory_in laboratory l z plan y, plan_from laboratory l z plan y, multipliers_from laboratory l z plan y (4 * plan_count z) k) refl

pub record_back : (r : Record) → Fits r → record_in (service_bytes r) ≡ r
record_back r f = go r.outcome f.outcome
  where
    z : Sizes
    z = r.sizes

    made : Outcome → Record
    made o = record { sizes = z; rounds = r.rounds; outcome = o }

    go : (o : Outcome) → FittingOutcome z o → record_in (service_bytes (made o)) ≡ made o
    go (Proved gap plan y) h =
        let d = take z.m plan in
        let few : length d ≤ 4 = omega (arith, length-take z.m plan, f.sizes.inputs) in
        let p = proved-head r.rounds gap d few f.rounds in
        parts_back (proved r.rounds gap d) (proved-length r.rounds gap d few) z f.sizes (number_bytes 4 plan) (number_bytes 4 y)
        (number_bytes_length 4 plan ∙ ap (λ (k : ℕ). 4 * k) h.3.long)
        ∙ rw (p.0, p.2, gap_in_lem r.rounds gap d h.1 h.2, numbers_in_lem plan (number_bytes 4 y) h.3 (omega arith), last_numbers_in y h.4 (omega arith)) refl
    go (Impossible y) h =
        let u = unproved-head 2 r.rounds (omega arith) f.rounds in
        parts_back (unproved 2 r.rounds) (unproved-length 2 r.rounds) z f.sizes (absent (4 * plan_count z)) (number_bytes 4 y) (length-replicate (4 * plan_count z) 0xFF)
        ∙ rw (u.0, u.1, last_numbers_in y h (omega arith)) refl
    go Open h =
        let u = unproved-head 3 r.rounds (omega arith) f.rounds in
        parts_back (unproved 3 r.rounds) (unproved-length 3 r.rounds) z f.sizes (absent (4 * plan_count z)) (absent (4 * multiplier_count z)) (length-replicate (4 * plan_count z) 0xFF)
        ∙ rw (u.0, u.1) refl
