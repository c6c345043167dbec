-- Laws about commands: one that is cut or whole, the indexes of an entry that is not beyond the size, and that FF asks for command 50 or 51.
use Prim.Native.Nat.{ℕ, ◌+◌, ◌-◌, ◌<◌, ◌≤◌}
use mathlib.Core.Path.{◌≡◌, ap}
use mathlib.Core.Bool.{Bool, true, false, cond, ◌||◌, or-true}
use mathlib.Core.List.{List, [], ◌∷◌}
use native.Mathlib.Omega.{arith}
use lib.Dec.{eqb, leb}
use lib.ListN.{length, get_or}
use borrow.Author.Tests.{le-leb, lt-leb, leb-false}
use Rattle.integer.proofs.Tests.{by_test, none}
use Rattle.commands.specs.declared.Command.{Command}
use Rattle.commands.specs.declared.Command.TheVariants.{Cut}
use Rattle.commands.specs.declared.Entry.{Entry}
use Rattle.commands.specs.declared.Entry.TheVariants.{State, Input, Drift, Column, Reference, Start, Rounds}
use Rattle.commands.specs.Format.{whole, pair_command, size_command, drift_command, column_command, start_command, rounds_command, decoded, beyond}
use Rattle.commands.specs.Marks.{column_place, start_place, rounds_place}
use Rattle.commands.specs.Required.{among, on_curve, required}
use Rattle.commands.specs.Room.{Room, SmallSizes, Inside}

-- ---- A command of k operand bytes

pub cut : (k : ℕ) (s : List ℕ) (at : ℕ) (c : Command) → length s - at ≤ k → Cut ≡ whole k s at c
cut k s at c l = rw (le-leb (length s) (at + k) (omega arith))

pub uncut : (k : ℕ) (s : List ℕ) (at : ℕ) {c d : Command} → k < length s - at → d ≡ c → d ≡ whole k s at c
uncut k s at h e = rw (lt-leb (length s) (at + k) (omega arith)) e

-- ---- A command that is not cut ends within the tape

module _ (s : List ℕ) (at : ℕ) (here : at < length s) where
  row : (byte operands : ℕ) (c others : Command) → (at + operands < length s → Room at (length s) c) → Room at (length s) others →
      Room at (length s) (cond (eqb (get_or s at 0) byte) (whole operands s at c) others)
  row byte operands c others h o =
      by_test (Room at (length s)) (eqb (get_or s at 0) byte) (λ _. by_test (Room at (length s)) (leb (length s) (at + operands)) (λ _. here) (λ e. h (leb-false _ _ e))) (λ _. o)

  decoded_room : Room at (length s) (decoded s at)
  unfolding decoded pair_command size_command drift_command column_command start_command rounds_command
  decoded_room =
      row 0x10 3 _ _ (λ h. omega arith) (row 0x20 4 _ _ (λ h. omega arith) (row 0x21 4 _ _ (λ h. omega arith) (row 0x22 5 _ _ (λ h. omega arith) (row 0x30 8 _ _ (λ h. omega arith) (row 0x31 4 _ _ (λ h. omega arith) (row 0x40 3 _ _ (λ h. omega arith)
      (row 0x50 8 _ _ (λ h. omega arith) (row 0x51 8 _ _ (λ h. omega arith) (by_test (Room at (length s)) (eqb (get_or s at 0) 0xFF) (λ _. here) (λ _. here))))))))))

  pub with_room : {c : Command} → c ≡ decoded s at → (c ≡ decoded s at) × Room at (length s) c
  with_room e = (e, rw e decoded_room)

-- ---- The indexes of an entry that is not beyond the size

pub inside : (n m horizon : ℕ) (e : Entry) → SmallSizes n m horizon → beyond n m horizon e ≡ false → Inside e
unfolding beyond
inside n m horizon (State i j v) h e = let t = none (leb n i) (leb n j ∷ []) e in omega (arith, leb-false)
inside n m horizon (Input i j v) h e = let t = none (leb n i) (leb m j ∷ []) e in omega (arith, leb-false)
inside n m horizon (Drift i v) h e = omega (arith, leb-false n i e)
inside n m horizon (Column c lo hi r w) h e = omega (arith, leb-false (n + m) c e)
inside n m horizon (Reference c k r) h e = let t = none (leb (n + m) c) (leb horizon k ∷ []) e in omega (arith, leb-false)
inside n m horizon (Start i v) h e = omega (arith, leb-false n i e)
inside n m horizon (Rounds banded g rounds t) h e = tt

-- ---- What FF asks for

module _ (n m horizon : ℕ) (given : List Bool) where
  pub required-rounds : required n m horizon given rounds_place ≡ true
  unfolding required among
  required-rounds = ap (λ (b : Bool). b || on_curve n m horizon given rounds_place) (or-true (among column_place (n + m) rounds_place || among start_place n rounds_place))
