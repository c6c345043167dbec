-- How far the commands of a tape reach: each but 10 marks a place that had no mark, so they soon end. No accepted tape is longer, and
-- a refusal, one of 1 to 8 or 18, carries no larger number.
use Prim.Native.Nat.{ℕ, zero, suc, ◌+◌, ◌<◌, ◌≤◌}
use mathlib.Core.Path.{◌≡◌, refl, ap, ◌∙◌}
use mathlib.Core.Bool.{Bool, true, false, cond}
use mathlib.Core.Logic.{inl}
use mathlib.Core.List.{List, [], ◌∷◌}
use native.Mathlib.Omega.{arith}
use borrow.Author.Tests.{lt-ltb, ltb-false}
use lib.Dec.{ltb}
use lib.ListN.{length, set, length-set}
use lib.Seq.{get_or-set_same, get_or-set_other}
use Rattle.integer.proofs.Naturals.{sum_ℕ, sum_ℕ_but_one}
use Rattle.integer.proofs.Tests.{none}
use Rattle.commands.specs.declared.Entry.{Entry}
use Rattle.commands.specs.Format.{size_bytes, bytes_of, wrong_size, beyond, place_of}
use Rattle.commands.specs.Marks.{place_count, marked}
use Rattle.commands.proofs.Tests.{inside}
use Rattle.commands.proofs.Extent.{bytes_at, most_bytes, deciding_bytes, place_below, some_bytes, bytes_at_lem, deciding_bytes_lem}
use Rattle.tape.specs.Answer.{Answer}
use Rattle.tape.specs.Answer as answer
use Rattle.tape.specs.Answer.{Reading}
use Rattle.tape.specs.Tape.{with}
use Rattle.tape.specs.Reading.{Reader, Verdict, Going, Ended, Refused, sized, next, outcome, read_from, opened, reading}
use Rattle.tape.proofs.Steps.{OfTape, same-sizes, SmallTape, small_opened, small_next, next-leads}

-- ---- The bytes of the commands that may still come

-- a place's, where it has no mark
unmarked_bytes : List Bool → ℕ → ℕ
unmarked_bytes given p = cond (marked given p) 0 (bytes_at p)

-- all places'
entry_bytes : List Bool → ℕ
entry_bytes given = sum_ℕ place_count (unmarked_bytes given)

-- an entry that is given does not come again
entry_bytes_less : (given : List Bool) (place : ℕ) → place < place_count → place < length given → marked given place ≡ false →
    entry_bytes (set given place true) + bytes_at place ≡ entry_bytes given
unfolding entry_bytes unmarked_bytes
entry_bytes_less given place h l e =
    let one = sum_ℕ_but_one place_count place (unmarked_bytes (set given place true)) (unmarked_bytes given) h
    (λ p n. ap (λ (mark : Bool). cond mark 0 (bytes_at p)) (get_or-set_other given place p true false n)) in
    omega (arith, rw (e, get_or-set_same given place true false l) at one)

-- and command 10's, until it has come
pub bytes_ahead : Reader → ℕ
bytes_ahead q = cond (sized q.tape) 0 size_bytes + entry_bytes q.given

-- ---- How far the commands reach

pub record Near (q : Reader) : Type 0 where
  pub long : length q.given ≡ place_count
  pub reach : q.at + bytes_ahead q ≤ most_bytes

pub near-opened : Near opened
unfolding bytes_ahead entry_bytes unmarked_bytes most_bytes sum_ℕ bytes_at
near-opened = record { long = refl; reach = omega arith }

abbrev pub Stays : ℕ → ℕ → Verdict → Reader → Type 0
Stays long from Going r = (from < r.at) × Near r
Stays long from Ended r = long ≤ most_bytes + 1
Stays long from (Refused why) r = OfTape deciding_bytes why

pub next_stays : (s : List ℕ) (q : Reader) → SmallTape q.tape → Near q → let r = next s q in Stays (length s) q.at r.verdict r
unfolding wrong_size bytes_ahead deciding_bytes
next_stays s q small n =
    next-leads (λ r. Stays (length s) q.at r.verdict r) s q
    (record {
      refused = λ why h. (h.0, omega (arith, n.reach));
      size = λ n' m' horizon u w. (omega arith, record { long = n.long; reach = size-reach n' m' horizon u w });
      entry = λ e _ _ b _ g. entry e b g;
      ended = λ _ _ _ l. omega (arith, n.reach);
    })
  where
    size-reach : (n' m' horizon : ℕ) → sized q.tape ≡ false → wrong_size n' m' horizon ≡ false →
        q.at + size_bytes + (cond (ltb 0 n') 0 size_bytes + entry_bytes q.given) ≤ most_bytes
    size-reach n' m' horizon u w =
        let o = none (ltb n' 1) (ltb 6 n' ∷ ltb m' 1 ∷ ltb 4 m' ∷ ltb horizon 1 ∷ ltb 12 horizon ∷ []) w in
        rw (lt-ltb 0 n' (ltb-false n' 1 o.0)) (omega (arith, rw u at n.reach))

    entry : (e : Entry) → beyond q.tape.n q.tape.m q.tape.horizon e ≡ false → marked q.given (place_of e) ≡ false →
        Stays (length s) q.at Going (record { at = q.at + bytes_of e; verdict = Going; tape = with q.tape e; given = set q.given (place_of e) true })
    entry e b g =
        let i = inside q.tape.n q.tape.m q.tape.horizon e small b in
        let p = place_below e i in
        let o = entry_bytes_less q.given (place_of e) p (omega (arith, n.long)) g in
        let l = length-set q.given (place_of e) true ∙ n.long in
        (omega (arith, some_bytes e), record { long = l; reach = rw (same-sizes q.tape e).0 (omega (arith, o, bytes_at_lem e i, n.reach)) })

-- ---- Reading

-- of a tape that is so long
abbrev pub Bounds : ℕ → Answer → Type 0
Bounds long answer.Accepted = long ≤ most_bytes + 1
Bounds long (answer.Refused why) = OfTape deciding_bytes why

pub bounds : (s : List ℕ) → Bounds (length s) (reading s).answer
unfolding reading read_from deciding_bytes
bounds s = go (length s) opened (omega arith) small_opened near-opened
  where
    told : (v : Verdict) (from : ℕ) (r : Reader) (again : Reading) → Stays (length s) from v r →
        (from < r.at → Near r → Bounds (length s) again.answer) → Bounds (length s) (outcome v r.tape again).answer
    told Going from r again h f = f h.0 h.1
    told Ended from r again h f = h
    told (Refused why) from r again h f = h

    go : (left : ℕ) (q : Reader) → length s ≤ q.at + left → SmallTape q.tape → Near q → Bounds (length s) (read_from s left q).answer
    go zero q l small n = (inl (omega arith), omega (arith, n.reach))
    go (suc left) q l small n =
        let r = next s q in
        told r.verdict q.at r (read_from s left r) (next_stays s q small n) (λ m k. go left r (omega arith) (small_next s q small) k)

-- command 10, the command of every place, and FF
pub longest : (s : List ℕ) → (reading s).answer ≡ answer.Accepted → length s ≤ 1064
unfolding deciding_bytes
longest s e = let long = rw e at (bounds s) in omega (arith, deciding_bytes_lem)
