-- Any two records that tapes can have, by what their readers get of them.
use Prim.Native.Nat.{ℕ}
use mathlib.Core.Path.{◌≡◌, refl, sym, ap, ◌∙◌}
use mathlib.Core.List.{List}
use lib.ListN.{length, length-replicate}
use lib.IntN.{ℤ, pos}
use Rattle.integer.proofs.Operand.{Bytes}
use Rattle.tape.specs.Reading.{reading}
use Rattle.solver.specs.Solving.{solving_on, solving}
use Rattle.solution.specs.Solution.{plan_numbers, multiplier_numbers, ending_on}
use Rattle.records.specs.Held.{Fits}
use Rattle.records.specs.Readers.{seen, laboratory_bytes, service_bytes}
use Rattle.records.specs.Records.{Record}
use Rattle.recorder.specs.Recording.{Kept, recording}
use Rattle.records.proofs.Back.{seen_in, seen_back, record_in, record_back}
use Rattle.recorder.proofs.Fits.{recording_fits}

-- the record of a tape is that of the solve in any slices of the right lengths
pub same_solve : (s : List ℕ) (plan y : List ℤ) → length plan ≡ plan_numbers (reading s).tape → length y ≡ multiplier_numbers (reading s).tape →
    solving s plan y ≡ ending_on s (reading s).tape
unfolding solving solving_on
same_solve s plan y p q =
    let t = (reading s).tape in
    rw (p, q, length-replicate (plan_numbers t) (pos 0), length-replicate (multiplier_numbers t) (pos 0)) refl

-- records that agree in kind, rounds, gap and first duties give the laboratory the same bytes, whatever else they hold
pub laboratory_same : (a b : Record) → seen a ≡ seen b → laboratory_bytes (seen a) ≡ laboratory_bytes (seen b)
laboratory_same a b = ap laboratory_bytes

fits_of : (s : List ℕ) → Bytes s → {r : Record} → recording s ≡ Kept r → Fits r
fits_of s b e = rw e at (recording_fits s b)

module _ (s s' : List ℕ) (b : Bytes s) (b' : Bytes s') {r r' : Record} (e : recording s ≡ Kept r) (e' : recording s' ≡ Kept r') where
  -- and only such records do
  pub laboratory_tells : laboratory_bytes (seen r) ≡ laboratory_bytes (seen r') → seen r ≡ seen r'
  laboratory_tells h = sym (seen_back r (fits_of s b e)) ∙ ap seen_in h ∙ seen_back r' (fits_of s' b' e')

  -- the service's bytes are the same only for equal records
  pub service_tells : service_bytes r ≡ service_bytes r' → r ≡ r'
  service_tells h = sym (record_back r (fits_of s b e)) ∙ ap record_in h ∙ record_back r' (fits_of s' b' e')
