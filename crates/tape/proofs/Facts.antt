-- `legal`: every accepted tape is legal. From command 10 on each command keeps `Good`; FF finds the mark of command 50 or 51, which says the rest, and no weight of 0 beside 51.
use Prim.Native.Nat.{ℕ, zero, suc, ◌+◌, ◌*◌, ◌^◌, ◌<◌, ◌≤◌}
use mathlib.Core.Path.{◌≡◌, refl, sym, ◌∙◌, subst}
use mathlib.Core.Logic.{◌⊎◌, inl, inr, ⊎_elim}
use mathlib.Core.Bool.{Bool, true, false, not, cond, ◌&&◌, true≢false, false≢true}
use mathlib.Core.List.{List, [], ◌∷◌}
use native.Mathlib.Omega.{arith}
use native.Mathlib.Decide.{ℕ_discrete}
use borrow.Author.Tests.{ltb-false, leb-false, not-false}
use lib.Dec.{eqb, ltb, leb}
use lib.ListN.{length, get_or, set, replicate, length-set, length-replicate}
use lib.Seq.{get_or-set_same, get_or-set_other}
use lib.IntN.{ℤ, pos, negsuc, nat_abs}
use lib.Signed.{le_z, lt_z}
use Rattle.integer.specs.Order.{◌≼◌}
use Rattle.integer.specs.Places.{at, Bounded}
use Rattle.integer.specs.Tests.{outside}
use Rattle.integer.proofs.Order.{order}
use Rattle.integer.proofs.Sizes.{size_parts}
use Rattle.integer.proofs.Operand.{Bytes, unsigned-range}
use Rattle.integer.proofs.Places.{zeros}
use Rattle.integer.proofs.Tests.{by_test, none, in_range, in_size, any_none}
use Rattle.commands.specs.declared.Command.{Command}
use Rattle.commands.specs.declared.Command.TheVariants as command
use Rattle.commands.specs.declared.Entry.{Entry}
use Rattle.commands.specs.declared.Entry.TheVariants.{State, Input, Drift, Column, Reference, Start, Rounds}
use Rattle.commands.specs.Format.{whole, unsigned_at, decoded, pair_command, size_command, drift_command, column_command, start_command, rounds_command}
use Rattle.commands.specs.Format.{wrong_size, beyond, wrong_column, wrong, place_of}
use Rattle.commands.specs.Marks.{state_place, input_place, drift_place, column_place, start_place, rounds_place, reference_place, place_count, marked}
use Rattle.commands.specs.Required.{required}
use Rattle.commands.proofs.Tests.{required-rounds}
use Rattle.tape.specs.Answer as answer
use Rattle.tape.specs.Answer.{Reading}
use Rattle.tape.specs.declared.Tape.{Tape}
use Rattle.tape.specs.declared.refusal.Refusal.{Refusal}
use Rattle.tape.specs.declared.refusal.Refusal.TheVariants.{Cut}
use Rattle.tape.specs.Tape.{blank, with_size, with}
use Rattle.tape.specs.Legal.{Legal}
use Rattle.tape.specs.Reading.{Reader, Verdict, Going, Ended, Refused, sized, absent, lacks_weight, next, refused_tape, outcome, read_from, opened, reading}
use Rattle.tape.proofs.Steps.{next-leads}

-- ---- Commands 50 and 51: no test limits `gain` from above, nor `wanted`; the widths of their operands do

data Ranged : Command → Type 0 where
  unknown : Ranged command.Unknown
  cut : Ranged command.Cut
  end : Ranged command.End
  size : {n m horizon : ℕ} → Ranged (command.Size n m horizon)
  state : {i j : ℕ} {v : ℤ} → Ranged (command.Give (State i j v))
  input : {i j : ℕ} {v : ℤ} → Ranged (command.Give (Input i j v))
  drift : {i : ℕ} {v : ℤ} → Ranged (command.Give (Drift i v))
  column : {c : ℕ} {lo hi r h : ℤ} → Ranged (command.Give (Column c lo hi r h))
  reference : {c k : ℕ} {r : ℤ} → Ranged (command.Give (Reference c k r))
  start : {i : ℕ} {v : ℤ} → Ranged (command.Give (Start i v))
  rounds : {banded : Bool} {g r w : ℕ} → g < 256 ^ 2 → w < 256 ^ 4 → Ranged (command.Give (Rounds banded (pos g) r (pos w)))

ranged : (s : List ℕ) (at : ℕ) → Bytes s → Ranged (decoded s at)
unfolding decoded pair_command size_command drift_command column_command start_command rounds_command
ranged s at b =
    row 0x10 3 (λ _. size) (row 0x20 4 (λ _. state) (row 0x21 4 (λ _. input) (row 0x22 5 (λ _. drift) (row 0x30 8 (λ _. column) (row 0x31 4 (λ _. reference) (row 0x40 3 (λ _. start)
    (row 0x50 8 timed_row (row 0x51 8 timed_row
    (by_test Ranged (eqb (get_or s at 0) 0xFF) (λ _. end) (λ _. unknown))))))))))
  where
    timed_row : {banded : Bool} → at + 8 < length s →
        Ranged (command.Give (Rounds banded (pos (unsigned_at 2 s (at + 1))) (unsigned_at 2 s (at + 3)) (pos (unsigned_at 4 s (at + 5)))))
    timed_row h = rounds (unsigned-range 2 s (at + 1) b (omega arith)) (unsigned-range 4 s (at + 5) b (omega arith))

    row : (byte operands : ℕ) {c others : Command} → (at + operands < length s → Ranged c) → Ranged others →
        Ranged (cond (eqb (get_or s at 0) byte) (whole operands s at c) others)
    row byte operands h o =
        by_test Ranged (eqb (get_or s at 0) byte) (λ _. by_test Ranged (leb (length s) (at + operands)) (λ _. cut) (λ e. h (leb-false _ _ e))) (λ _. o)

-- what command 50 or 51 gives
record Timed (g : ℤ) (r : ℕ) (w : ℤ) : Type 0 where
  gain : (pos 1 ≼ g) × (g ≼ pos 65535)
  rounds : (1 ≤ r) × (r ≤ 10000)
  wanted : (pos 0 ≼ w) × (w ≼ pos 4294967295)

timed : {banded : Bool} {g : ℤ} {r : ℕ} {w : ℤ} → Ranged (command.Give (Rounds banded g r w)) → wrong (Rounds banded g r w) ≡ false → Timed g r w
unfolding wrong
timed (rounds {g = g} {r = r} x y) e =
    let o = none (lt_z (pos g) (pos 1)) (ltb r 1 ∷ ltb 10000 r ∷ []) e in omega (arith, order, ltb-false)

-- ---- Tables

-- L numbers, each at most B in size, and 0 where the place is blank
record Table (L B : ℕ) (Blank : ℕ → Type 0) (l : List ℤ) : Type 0 where
  long : length l ≡ L
  bounded : Bounded B l
  blank : (p : ℕ) → Blank p → at l p ≡ pos 0

-- the place of no row and column
abbrev Off : ℕ → ℕ → ℕ → ℕ → Type 0
Off stride rows columns p = (i j : ℕ) → (i < rows) × (j < columns) → p ≡ stride * i + j → ⊥

table_none : {L B : ℕ} {Blank : ℕ → Type 0} → Table L B Blank (replicate L (pos 0))
table_none {L} =
    record { long = length-replicate L (pos 0); bounded = record { each = λ p. rw (zeros L p) (omega arith) }; blank = λ p _. zeros L p }

-- what the stored number has, and every other had
at_stored : (P : ℕ → ℤ → Type 0) (l : List ℤ) (k p : ℕ) (v : ℤ) → k < length l →
    P k v → ((p ≡ k → ⊥) → P p (at l p)) → P p (at (set l k v) p)
at_stored P l k p v room here other = go (ℕ_discrete p k)
  where
    go : Dec (p ≡ k) → P p (at (set l k v) p)
    go (yes e) = rw (e, get_or-set_same l k v (pos 0) room) here
    go (no n) = rw (get_or-set_other l k p v (pos 0) n) (other n)

stored : {L B : ℕ} {Blank : ℕ → Type 0} {l : List ℤ} (k : ℕ) (v : ℤ) → Table L B Blank l →
    (k < L) × (Blank k → ⊥) → nat_abs v ≤ B → Table L B Blank (set l k v)
stored {L} {B} {Blank} {l} k v t h b =
    let room : k < length l = omega arith in
    record {
      long = length-set l k v ∙ t.long;
      bounded = record { each = λ p. at_stored (λ _ x. nat_abs x ≤ B) l k p v room b (λ _. t.bounded.each p) };
      blank = λ p. at_stored (λ q x. Blank q → x ≡ pos 0) l k p v room (λ n. absurd (h.1 n)) (λ _. t.blank p);
    }

-- ---- What every command keeps, from command 10 on

record Sizes (n m horizon : ℕ) : Type 0 where
  states : (1 ≤ n) × (n ≤ 6)
  inputs : (1 ≤ m) × (m ≤ 4)
  steps : (1 ≤ horizon) × (horizon ≤ 12)

record Columns (w : ℕ) (lo hi r h : List ℤ) : Type 0 where
  low : Table 10 20000 (λ p. w ≤ p) lo
  high : Table 10 20000 (λ p. w ≤ p) hi
  reference : Table 10 20000 (λ p. w ≤ p) r
  weight : Table 10 255 (λ p. w ≤ p) h
  ordered : (p : ℕ) → at lo p ≼ at hi p
  weighed : (p : ℕ) → pos 0 ≼ at h p

-- sizes, A, B, w, x(0), columns, references by step, and command 50 or 51 where it has its mark
data Good (t : Tape) (given : List Bool) : Type 0 where
  good : Sizes t.n t.m t.horizon →
      Table 36 16384 (Off 6 t.n t.n) t.a →
      Table 24 16384 (Off 4 t.n t.m) t.b →
      Table 6 16777216 (λ p. t.n ≤ p) t.drift →
      Table 6 20000 (λ p. t.n ≤ p) t.start →
      Columns (t.n + t.m) t.low t.high t.reference t.weight →
      Table 120 20000 (Off 12 (t.n + t.m) t.horizon) t.curves.reference →
      (marked given rounds_place ≡ true → Timed t.gain t.rounds t.wanted) →
      Good t given

-- ---- Each command keeps it

-- what the tests of command 30 leave
record RightColumn (lo hi r h : ℤ) : Type 0 where
  low : nat_abs lo ≤ 20000
  high : nat_abs hi ≤ 20000
  reference : nat_abs r ≤ 20000
  ordered : lo ≼ hi
  weight : (pos 0 ≼ h) × (h ≼ pos 255)

right_column : (lo hi r h : ℤ) → wrong_column lo hi r h ≡ false → RightColumn lo hi r h
unfolding wrong_column
right_column lo hi r h e =
    let out = outside (negsuc 19999) (pos 20000) in
    let o = none (out lo) (out hi ∷ out r ∷ lt_z hi lo ∷ outside (pos 0) (pos 255) h ∷ []) e in
    record {
      low = in_size 20000 lo o.0;
      high = in_size 20000 hi o.1.0;
      reference = in_size 20000 r o.1.1.0;
      ordered = omega (arith, order);
      weight = in_range (pos 0) (pos 255) h o.1.1.1.1.0;
    }

-- no other command gives the mark of 50 and 51
not_timed : (g : List Bool) {F : Type 0} (k : ℕ) → (rounds_place ≡ k → ⊥) → (marked g rounds_place ≡ true → F) → marked (set g k true) rounds_place ≡ true → F
not_timed g k n f e = f (sym (get_or-set_other g k rounds_place true false n) ∙ e)

columns_stored : {w : ℕ} {low high reference weight : List ℤ} (c : ℕ) {lo hi r h : ℤ} → c < w → w ≤ 10 → RightColumn lo hi r h →
    Columns w low high reference weight → Columns w (set low c lo) (set high c hi) (set reference c r) (set weight c h)
columns_stored {low = low} {high = high} {weight = weight} c {lo} {hi} {r} {h} l n x k =
    let room : (c < length low) × (c < length high) = omega arith in
    record {
      low = stored c lo k.low (omega arith) x.low;
      high = stored c hi k.high (omega arith) x.high;
      reference = stored c r k.reference (omega arith) x.reference;
      weight = stored c h k.weight (omega arith) (omega (arith, order, size_parts h));
      ordered = λ p.
          at_stored (λ q z. z ≼ at (set high c hi) q) low c p lo room.0
          (rw (get_or-set_same high c hi (pos 0) room.1) x.ordered) (λ d. rw (get_or-set_other high c p hi (pos 0) d) (k.ordered p));
      weighed = λ p. at_stored (λ _ z. pos 0 ≼ z) weight c p h (omega arith) x.weight.0 (λ _. k.weighed p);
    }

entry_kept : {t : Tape} {g : List Bool} (e : Entry) → Ranged (command.Give e) → beyond t.n t.m t.horizon e ≡ false → wrong e ≡ false →
    Good t g → Good (with t e) (set g (place_of e) true)
unfolding beyond wrong
entry_kept {t} {g} (State i j v) _ u r (good z a b w x c f k) =
    let o = none (leb t.n i) (leb t.n j ∷ []) u in
    let h : (i < t.n) × (j < t.n) = omega (arith, leb-false) in
    let a' = stored (6 * i + j) v a (omega arith, λ n. n i j h refl) (in_size 16384 v r) in
    good z a' b w x c f (not_timed g (state_place + (6 * i + j)) (omega arith) k)
entry_kept {t} {g} (Input i j v) _ u r (good z a b w x c f k) =
    let o = none (leb t.n i) (leb t.m j ∷ []) u in
    let h : (i < t.n) × (j < t.m) = omega (arith, leb-false) in
    let b' = stored (4 * i + j) v b (omega arith, λ n. n i j h refl) (in_size 16384 v r) in
    good z a b' w x c f (not_timed g (input_place + (4 * i + j)) (omega arith) k)
entry_kept {t} {g} (Drift i v) _ u r (good z a b w x c f k) =
    let h = leb-false t.n i u in
    good z a b (stored i v w (omega arith) (in_size 16777216 v r)) x c f (not_timed g (drift_place + i) (omega arith) k)
entry_kept {t} {g} (Column p lo hi q h) _ u r (good z a b w x c f k) =
    let l = leb-false (t.n + t.m) p u in
    let y = right_column lo hi q h r in
    good z a b w x (columns_stored p l (omega arith) y c) f (not_timed g (column_place + p) (omega arith) k)
entry_kept {t} {g} (Reference p q v) _ u r (good z a b w x c f k) =
    let o = none (leb (t.n + t.m) p) (leb t.horizon q ∷ []) u in
    let h : (p < t.n + t.m) × (q < t.horizon) = omega (arith, leb-false) in
    let f' = stored (12 * p + q) v f (omega arith, λ n. n p q h refl) (in_size 20000 v r) in
    good z a b w x c f' (not_timed g (reference_place + (12 * p + q)) (omega arith) k)
entry_kept {t} {g} (Start i v) _ u r (good z a b w x c f k) =
    let h = leb-false t.n i u in
    good z a b w (stored i v x (omega arith) (in_size 20000 v r)) c f (not_timed g (start_place + i) (omega arith) k)
entry_kept (Rounds _ _ _ _) g _ r (good z a b w x c f k) = good z a b w x c f (λ _. timed g r)

-- ---- Command 10: until it comes nothing is given

abbrev Kept : Tape → List Bool → Type 0
Kept t g = ((t ≡ blank) × (g ≡ replicate place_count false)) ⊎ Good t g

size_kept : (n m horizon : ℕ) {t : Tape} {g : List Bool} → sized t ≡ false → wrong_size n m horizon ≡ false → Kept t g →
    Good (with_size t n m horizon) g
unfolding wrong_size
size_kept n m horizon u w (inl k) =
    let o = none (ltb n 1) (ltb 6 n ∷ ltb m 1 ∷ ltb 4 m ∷ ltb horizon 1 ∷ ltb 12 horizon ∷ []) w in
    let l : n + m ≤ 10 = omega (arith, ltb-false) in
    rw (k.0, k.1)
    (good (omega (arith, ltb-false)) table_none table_none table_none table_none
    (record { low = table_none; high = table_none; reference = table_none; weight = table_none; ordered = omega (arith, order); weighed = λ p. rw (zeros 10 p) (omega (arith, order)) })
    table_none (λ e. absurd (false≢true e)))
size_kept n m horizon u w (inr (good z _ _ _ _ _ _ _)) = let e : ⊥ = omega (arith, ltb-false) in absurd e

once_sized : {t : Tape} {g : List Bool} → not (sized t) ≡ false → Kept t g → Good t g
once_sized u (inl k) = absurd (true≢false (rw k.0 at u))
once_sized u (inr k) = k

-- ---- FF: every mark that it asks for is there, and every weight that 51 asks for

-- a required place that is not absent has its mark
present : (n m horizon : ℕ) (g : List Bool) (p : ℕ) → absent n m horizon g ≡ false → p < place_count → required n m horizon g p ≡ true → marked g p ≡ true
unfolding absent
present n m horizon g p e h r =
    not-false (marked g p) (rw r at (any_none place_count p (λ q. required n m horizon g q && not (marked g q)) h e))

-- beside command 51 a column has a weight
weight-found : (t : Tape) (p : ℕ) → lacks_weight t ≡ false → t.banded ≡ true → p < t.n + t.m → pos 1 ≼ at t.weight p
unfolding lacks_weight
weight-found t p e d h =
    let w = any_none (t.n + t.m) p (λ c. le_z (at t.weight c) (pos 0)) h (rw d at e) in omega (arith, order)

ended-legal : {t : Tape} {g : List Bool} → absent t.n t.m t.horizon g ≡ false → lacks_weight t ≡ false → Good t g → Legal t
ended-legal {t} {g} e l (good z a b w x c f k) =
    let there = present t.n t.m t.horizon g in
    let v = k (there rounds_place e (omega arith) (required-rounds t.n t.m t.horizon g)) in
    record {
      states = z.states;
      inputs = z.inputs;
      steps = z.steps;
      a = a.bounded;
      b = b.bounded;
      drift = w.bounded;
      curves = f.bounded;
      start = x.bounded;
      low = c.low.bounded;
      high = c.high.bounded;
      reference = c.reference.bounded;
      weight = c.weight.bounded;
      ordered = c.ordered;
      weighed = c.weighed;
      banded_weighed = λ d p h. weight-found t p l d h;
      gain = v.gain;
      rounds = v.rounds;
      wanted = v.wanted;
      blank_a = λ i j l s. a.blank (6 * i + j) (λ p q h y. ⊎_elim (λ d. omega arith) (λ d. omega arith) s);
      blank_b = λ i j l s. b.blank (4 * i + j) (λ p q h y. ⊎_elim (λ d. omega arith) (λ d. omega arith) s);
      blank_drift = w.blank;
      blank_start = x.blank;
      blank_low = c.low.blank;
      blank_high = c.high.blank;
      blank_reference = c.reference.blank;
      blank_weight = c.weight.blank;
      blank_curves = λ i j l s. f.blank (12 * i + j) (λ p q h y. ⊎_elim (λ d. omega arith) (λ d. omega arith) s);
    }

-- ---- Reading

-- what holds where a command has led
abbrev Holds : Verdict → Tape → List Bool → Type 0
Holds Going t g = Kept t g
Holds Ended t g = Legal t
Holds (Refused why) t g = Unit {0}

next-holds : (s : List ℕ) (q : Reader) → Bytes s → Kept q.tape q.given → let r = next s q in Holds r.verdict r.tape r.given
next-holds s q b k =
    next-leads (λ r. Holds r.verdict r.tape r.given) s q
    (record {
      refused = λ _ _. tt;
      size = λ n m horizon u w. inr (size_kept n m horizon u w k);
      entry = λ e d u x w _. inr (entry_kept e (subst Ranged d (ranged s q.at b)) x w (once_sized u k));
      ended = λ u a w _. ended-legal a w (once_sized u k);
    })

pub legal : (s : List ℕ) → Bytes s → (reading s).answer ≡ answer.Accepted → Legal (reading s).tape
unfolding reading read_from
legal s b = go (length s) opened (inl (refl, refl))
  where
    Claim : Reading → Type 0
    Claim r = r.answer ≡ answer.Accepted → Legal r.tape

    refused : (why : Refusal) → Claim (refused_tape why)
    refused why e = let z : ◌≡◌ {A = ℕ} 0 1 = cc in absurd (omega arith)

    told : (v : Verdict) (t : Tape) (g : List Bool) (again : Reading) → Holds v t g → (Kept t g → Claim again) → Claim (outcome v t again)
    told Going t g again h f = f h
    told Ended t g again h f = λ _. h
    told (Refused why) t g again h f = refused why

    go : (left : ℕ) (q : Reader) → Kept q.tape q.given → Claim (read_from s left q)
    go zero q k = refused (Cut (length s))
    go (suc left) q k = let r = next s q in told r.verdict r.tape r.given (read_from s left r) (next-holds s q b k) (go left r)
