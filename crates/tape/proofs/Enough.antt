-- The count of commands in `read_from` is no restriction: each command that goes on has a byte at least, and behind the last byte
-- the tape is refused as it is where the count ends.
use Prim.Native.Nat.{ℕ, zero, suc, ◌+◌, ◌-◌, ◌<◌, ◌≤◌}
use mathlib.Core.Path.{◌≡◌, refl, sym, subst, ◌∙◌}
use mathlib.Core.List.{List}
use native.Mathlib.Omega.{arith}
use borrow.Author.Tests.{le-ltb}
use lib.ListN.{length}
use Rattle.commands.proofs.Extent.{some_bytes}
use Rattle.tape.specs.Reading.{Reader, Verdict, Going, Ended, Refused, next, read_from, opened, reading}
use Rattle.tape.proofs.Steps.{next-leads, outcome-same, read_step}

-- where the reading goes on, it goes on further behind
abbrev Moved : ℕ → Verdict → ℕ → Type 0
Moved from Going to = from < to
Moved from Ended to = Unit {0}
Moved from (Refused why) to = Unit {0}

moved : (s : List ℕ) (q : Reader) → let r = next s q in Moved q.at r.verdict r.at
moved s q =
    next-leads (λ r. Moved q.at r.verdict r.at) s q
    (record { refused = λ _ _. tt; size = λ n m horizon _ _. omega arith; entry = λ e _ _ _ _ _. omega (arith, some_bytes e); ended = λ _ _ _ _. tt })

-- a count that reaches the end, and a larger one
larger : (s : List ℕ) (left more : ℕ) (q : Reader) → left ≤ more → length s ≤ q.at + left → read_from s more q ≡ read_from s left q
unfolding read_from next
larger s zero zero q l h = refl
larger s zero (suc more) q l h = rw (le-ltb q.at (length s) (omega arith))
larger s (suc left) zero q l h = let z : ⊥ = omega arith in absurd z
larger s (suc left) (suc more) q l h =
    let r = next s q in
    outcome-same r.verdict r.tape (read_from s more r) (read_from s left r)
    (λ g. larger s left more r (omega arith) (omega (arith, rw g at (moved s q))))

pub enough : (s : List ℕ) (more : ℕ) → read_from s (length s + more) opened ≡ reading s
unfolding reading
enough s more = larger s (length s) (length s + more) opened (omega arith) (omega arith)

-- the same of a count that is as large as what is left: where a command leads on, it leads on further behind
pub led_on : (s : List ℕ) (q r : Reader) → q.at < length s → r ≡ next s q → r.verdict ≡ Going →
    (q.at < r.at) × (read_from s (length s - r.at) r ≡ read_from s (length s - q.at) q)
led_on s q r h e g =
    let m = subst (λ (v : Verdict). Moved q.at v r.at) g (rw (← e) at (moved s q)) in
    let l = larger s (length s - r.at) (length s - q.at - 1) r (omega arith) (omega arith) in
    (m, sym l ∙ read_step s (length s - q.at) q r (omega arith) e g)
