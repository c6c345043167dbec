-- Document 02, request 5: what each reader gets of a record, as bytes.
use Rattle.std.specs.Prelude.{ℕ, zero, suc, ◌+◌, ◌-◌, ◌*◌, List, [], ◌∷◌, ◌++◌, length, take, drop, replicate, ℤ, pos, nat_abs}
use Rattle.integer.specs.Encoding.{unsigned_bytes, signed_bytes}
use Rattle.integer.specs.Operand.{unsigned, signed, operand}
use Rattle.records.specs.declared.Sizes.{Sizes}
use Rattle.records.specs.Records.{Record, Outcome}
use Rattle.records.specs.Records as records

-- What is absent is FF throughout.
abbrev pub absent : ℕ → List ℕ
absent count = replicate count 0xFF

-- Numbers of k signed bytes each.
unfoldable pub number_bytes : ℕ → List ℤ → List ℕ
number_bytes k [] = []
number_bytes k (z ∷ others) = signed_bytes k z ++ number_bytes k others

-- ---- The laboratory's 16 bytes

-- What the laboratory sees: the kind, the rounds, and of a 'proved' one the gap and the first duties.
pub data Seen : Type 0 where
  Proved : ℕ → ℤ → List ℤ → Seen
  Impossible : ℕ → Seen
  Open : ℕ → Seen

abbrev pub seen_of : Record → Outcome → Seen
seen_of r (records.Proved gap plan y) = Proved r.rounds gap (take r.sizes.m plan)
seen_of r (records.Impossible y) = Impossible r.rounds
seen_of r records.Open = Open r.rounds

abbrev pub seen : Record → Seen
seen r = seen_of r r.outcome

-- Kind, number of duties, rounds.
abbrev pub head : ℕ → ℕ → ℕ → List ℕ
head kind duties rounds = unsigned_bytes 1 kind ++ unsigned_bytes 1 duties ++ unsigned_bytes 2 rounds

-- Four duties.
abbrev pub duty_bytes : List ℤ → List ℕ
duty_bytes duties = number_bytes 2 duties ++ absent (8 - 2 * length duties)

-- A record without gap and duties.
abbrev pub unproved : ℕ → ℕ → List ℕ
unproved kind rounds = head kind 0 rounds ++ absent 4 ++ absent 8

-- No gap is below 0, so its size is the gap.
abbrev pub laboratory_bytes : Seen → List ℕ
laboratory_bytes (Proved rounds gap duties) = head 1 (length duties) rounds ++ unsigned_bytes 4 (nat_abs gap) ++ duty_bytes duties
laboratory_bytes (Impossible rounds) = unproved 2 rounds
laboratory_bytes (Open rounds) = unproved 3 rounds

-- ---- The service's bytes: the same, then n, m, N, plan and multipliers

-- N(n+m) plan numbers, N × n multipliers.
abbrev pub plan_count : Sizes → ℕ
plan_count z = z.horizon * (z.n + z.m)

abbrev pub multiplier_count : Sizes → ℕ
multiplier_count z = z.horizon * z.n

-- 19 + 4N(2n+m) bytes.
abbrev pub service_length : Sizes → ℕ
service_length z = 19 + 4 * (z.horizon * (2 * z.n + z.m))

abbrev pub sized : List ℕ → Sizes → List ℕ
sized laboratory z = laboratory ++ unsigned_bytes 1 z.n ++ unsigned_bytes 1 z.m ++ unsigned_bytes 1 z.horizon

abbrev pub plan_bytes : Sizes → Outcome → List ℕ
plan_bytes z (records.Proved gap plan y) = number_bytes 4 plan
plan_bytes z (records.Impossible y) = absent (4 * plan_count z)
plan_bytes z records.Open = absent (4 * plan_count z)

abbrev pub multiplier_bytes : Sizes → Outcome → List ℕ
multiplier_bytes z (records.Proved gap plan y) = number_bytes 4 y
multiplier_bytes z (records.Impossible y) = number_bytes 4 y
multiplier_bytes z records.Open = absent (4 * multiplier_count z)

abbrev pub service_bytes : Record → List ℕ
service_bytes r =
    sized (laboratory_bytes (seen r)) r.sizes ++ plan_bytes r.sizes r.outcome ++ multiplier_bytes r.sizes r.outcome

-- ---- The numbers that stand in the bytes

-- `count` numbers of k signed bytes each.
unfoldable pub numbers_in : ℕ → ℕ → List ℕ → List ℤ
numbers_in k zero s = []
numbers_in k (suc count) s = signed (take k s) ∷ numbers_in k count (drop k s)

abbrev pub gap_in : List ℕ → ℤ
gap_in laboratory = pos (unsigned (operand 4 laboratory 4))

abbrev pub duties_in : ℕ → List ℕ → List ℤ
duties_in m laboratory = numbers_in 2 m (drop 8 laboratory)

abbrev pub plan_in : Sizes → List ℕ → List ℤ
plan_in z service = numbers_in 4 (plan_count z) (drop 19 service)

abbrev pub multipliers_in : Sizes → List ℕ → List ℤ
multipliers_in z service = numbers_in 4 (multiplier_count z) (drop (19 + 4 * plan_count z) service)
