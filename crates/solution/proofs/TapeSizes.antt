-- The sizes of any tape, refused ones included, and the zeros that are lent for it.
use Prim.Native.Nat.{ℕ, zero, suc, ◌+◌, ◌-◌, ◌≤◌}
use mathlib.Core.Path.{◌≡◌, refl, sym, ◌∙◌, ap}
use mathlib.Core.Logic.{◌⊎◌, inl, inr, ⊎_elim}
use mathlib.Core.List.{List, ◌++◌}
use native.Mathlib.Nat.{mul-le-mul}
use native.Mathlib.Omega.{arith}
use lib.ListN.{length, take, drop, length-replicate, replicate-append-replicate}
use lib.Seq.{take_at, drop_at}
use lib.IntN.{pos}
use Rattle.integer.proofs.Operand.{Bytes}
use Rattle.tape.specs.Legal.{Legal}
use Rattle.tape.specs.Reading.{Reader, Verdict, Going, Ended, Refused, next, outcome, opened, read_from, reading}
use Rattle.tape.specs.Tape.{blank, zeros}
use Rattle.tape.specs.Answer.{Accepted, Reading}
use Rattle.tape.specs.Answer as answer
use Rattle.tape.specs.declared.refusal.Refusal.{Refusal}
use Rattle.tape.specs.declared.Tape.{Tape}
use Rattle.tape.proofs.Facts.{legal}
use Rattle.solution.specs.Solution.{plan_numbers, multiplier_numbers}

-- a tape is accepted, or all its numbers are 0
abbrev Read : Reading → Type 0
Read r = (r.answer ≡ Accepted) ⊎ (r.tape ≡ blank)

read_all : (s : List ℕ) → Read (reading s)
unfolding reading read_from
read_all s = go (length s) opened
  where
    told : (v : Verdict) (t : Tape) (again : Reading) → Read again → Read (outcome v t again)
    told Going t again h = h
    told Ended t again h = inl refl
    told (Refused why) t again h = inr refl

    go : (left : ℕ) (q : Reader) → Read (read_from s left q)
    go zero q = inr refl
    go (suc left) q = let r = next s q in told r.verdict r.tape (read_from s left r) (go left r)

pub refused_blank : (s : List ℕ) {why : Refusal} → (reading s).answer ≡ answer.Refused why → (reading s).tape ≡ blank
refused_blank s e = ⊎_elim (λ a. let no = sym a ∙ e in cc) (λ b. b) (read_all s)

-- the numbers that a plan and its multipliers have
pub record Room (t : Tape) : Type 0 where
  pub states : t.n ≤ 6
  pub inputs : t.m ≤ 4
  pub steps : t.horizon ≤ 12
  pub plan : plan_numbers t ≤ 120
  pub multipliers : multiplier_numbers t ≤ 72

pub room : (s : List ℕ) → Bytes s → Room (reading s).tape
room s b =
    ⊎_elim (λ e. accepted (reading s).tape (legal s b e))
    (λ e. rw e (record { states = omega arith; inputs = omega arith; steps = omega arith; plan = omega arith; multipliers = omega arith }))
    (read_all s)
  where
    accepted : (t : Tape) → Legal t → Room t
    accepted t l =
        let sum : t.n + t.m ≤ 10 = omega (arith, l.states.1, l.inputs.1) in
        record {
          states = l.states.1;
          inputs = l.inputs.1;
          steps = l.steps.1;
          plan = omega (arith, mul-le-mul l.steps.1 sum);
          multipliers = omega (arith, mul-le-mul l.steps.1 l.states.1);
        }

-- ---- The first k of n zeros, and those behind them

zeros_parted : (k n : ℕ) → k ≤ n → zeros n ≡ zeros k ++ zeros (n - k)
zeros_parted k n h = let e : k + (n - k) ≡ n = omega arith in sym (replicate-append-replicate k (n - k) (pos 0) ∙ ap zeros e)

pub take-zeros : (k n : ℕ) → k ≤ n → take k (zeros n) ≡ zeros k
take-zeros k n h = ap (take k) (zeros_parted k n h) ∙ take_at (zeros k) (zeros (n - k)) k (length-replicate k (pos 0))

pub drop-zeros : (k n : ℕ) → k ≤ n → drop k (zeros n) ≡ zeros (n - k)
drop-zeros k n h = ap (drop k) (zeros_parted k n h) ∙ drop_at (zeros k) (zeros (n - k)) k (length-replicate k (pos 0))
