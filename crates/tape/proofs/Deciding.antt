-- A bounded number of bytes decides every tape: accepted commands end within `most_bytes`, and none has more than `longest_bytes`.
use Prim.Native.Nat.{ℕ, zero, suc, ◌+◌, ◌<◌, ◌≤◌}
use mathlib.Core.Path.{◌≡◌, refl, sym, ap, subst, ◌∙◌}
use mathlib.Core.Logic.{⊎_elim}
use mathlib.Core.List.{List, ◌++◌}
use native.Mathlib.Omega.{arith}
use borrow.Author.Tests.{lt-ltb}
use lib.ListN.{length, take, drop, length-append, take-append-drop}
use lib.Seq.{length-take-le, take_all}
use Rattle.integer.proofs.Places.{lt_or_le}
use Rattle.commands.specs.declared.Command.{Command}
use Rattle.commands.specs.declared.Command.TheVariants as command
use Rattle.commands.specs.Format.{decoded}
use Rattle.commands.proofs.Extent.{most_bytes, deciding_bytes, decoded_front}
use Rattle.tape.specs.Reading.{Reader, Verdict, obey_end, obey, next, read_from, opened, reading}
use Rattle.tape.proofs.Steps.{SmallTape, small_opened, small_next, outcome-same}
use Rattle.tape.proofs.Offsets.{Near, near-opened, Stays, next_stays}

-- xs holds the bytes that decide, and ys follows
module _ (xs ys : List ℕ) (enough : deciding_bytes ≤ length xs) where
  obey-same : (c : Command) (q : Reader) → q.at ≤ most_bytes → obey c (xs ++ ys) q ≡ obey c xs q
  unfolding obey obey_end deciding_bytes
  obey-same command.Unknown q h = refl
  obey-same command.Cut q h = refl
  obey-same (command.Size n m horizon) q h = refl
  obey-same (command.Give e) q h = refl
  obey-same command.End q h =
      let l : q.at + 1 < length (xs ++ ys) = simp length-append (omega arith) in
      rw (lt-ltb (q.at + 1) (length (xs ++ ys)) l, lt-ltb (q.at + 1) (length xs) (omega arith))

  next-same : (q : Reader) → q.at ≤ most_bytes → next (xs ++ ys) q ≡ next xs q
  unfolding next deciding_bytes
  next-same q h =
      let l : q.at < length (xs ++ ys) = simp length-append (omega arith) in
      rw (
        lt-ltb q.at (length (xs ++ ys)) l,
        lt-ltb q.at (length xs) (omega arith),
        decoded_front xs ys q.at (omega arith),
      )
      (obey-same (decoded xs q.at) q h)

  read_same : (left more : ℕ) (q : Reader) → left ≤ more → length xs ≤ q.at + left → SmallTape q.tape → Near q →
      read_from (xs ++ ys) more q ≡ read_from xs left q
  unfolding read_from deciding_bytes
  read_same zero more q l h small n = let z : ⊥ = omega (arith, n.reach) in absurd z
  read_same (suc left) zero q l h small n = let z : ⊥ = omega arith in absurd z
  read_same (suc left) (suc more) q l h small n =
      let r = next xs q in
      rw (next-same q (omega (arith, n.reach)))
      (outcome-same r.verdict r.tape (read_from (xs ++ ys) more r) (read_from xs left r)
      (λ g.
      let k = subst (λ (v : Verdict). Stays (length xs) q.at v r) g (next_stays xs q small n) in
      read_same left more r (omega arith) (omega (arith, k.0)) (small_next xs q small) k.1))

  front_decides : reading xs ≡ reading (xs ++ ys)
  unfolding reading
  front_decides =
      let l : length xs ≤ length (xs ++ ys) = simp length-append (omega arith) in
      sym (read_same (length xs) (length (xs ++ ys)) opened l (omega arith) small_opened near-opened)

pub decides : (s : List ℕ) → reading (take deciding_bytes s) ≡ reading s
decides s =
    ⊎_elim
    (λ l. ap reading (take_all deciding_bytes s (omega arith)))
    (λ l. front_decides (take deciding_bytes s) (drop deciding_bytes s) (rw (length-take-le deciding_bytes s l) (omega arith))
    ∙ ap reading (take-append-drop deciding_bytes s))
    (lt_or_le (length s) deciding_bytes)
