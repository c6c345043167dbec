-- A tape's numbers by the names of document 01.
use Rattle.std.specs.Prelude.{ℕ, ◌+◌, ◌*◌, Bool, true, false, cond, List, replicate, set, ℤ, pos}
use Rattle.integer.specs.Places.{at}
use Rattle.commands.specs.declared.Entry.{Entry}
use Rattle.commands.specs.declared.Entry.TheVariants.{State, Input, Drift, Column, Reference, Start, Rounds}
use Rattle.commands.specs.Marks.{marked}
use Rattle.tape.specs.declared.Curves.{Curves}
use Rattle.tape.specs.declared.Tape.{Tape}

abbrev pub tape_of : ℕ → ℕ → ℕ → List ℤ → List ℤ → List ℤ → List ℤ → List ℤ → List ℤ → List ℤ → Curves → List ℤ → Bool → ℤ → ℕ → ℤ → Tape
tape_of n m horizon a b drift low high reference weight curves start banded gain rounds wanted = record {
  n = n;
  m = m;
  horizon = horizon;
  a = a;
  b = b;
  drift = drift;
  low = low;
  high = high;
  reference = reference;
  weight = weight;
  curves = curves;
  start = start;
  banded = banded;
  gain = gain;
  rounds = rounds;
  wanted = wanted;
}

abbrev pub zeros : ℕ → List ℤ
zeros count = replicate count (pos 0)

abbrev pub no_curves : Curves
no_curves = record { reference = zeros 120; given = replicate 120 false }

-- A tape of which nothing is given: all numbers are 0.
abbrev pub blank : Tape
blank = tape_of 0 0 0 (zeros 36) (zeros 24) (zeros 6) (zeros 10) (zeros 10) (zeros 10) (zeros 10) no_curves (zeros 6) false (pos 0) 0 (pos 0)

-- The reference r of a column at a step: the step's own where one is given, else the one that the column holds in all steps.
unfoldable pub step_reference : Curves → List ℤ → ℕ → ℕ → ℤ
step_reference curves held column step =
    let place = 12 * column + step in cond (marked curves.given place) (at curves.reference place) (at held column)

abbrev pub reference_at : Tape → ℕ → ℕ → ℤ
reference_at t column step = step_reference t.curves t.reference column step

-- ---- Numbers in place of those that are there: a function for each group of fields

abbrev pub with_size : Tape → ℕ → ℕ → ℕ → Tape
with_size t n m horizon =
    tape_of n m horizon t.a t.b t.drift t.low t.high t.reference t.weight t.curves t.start t.banded t.gain t.rounds t.wanted

abbrev pub with_a : Tape → List ℤ → Tape
with_a t a =
    tape_of t.n t.m t.horizon a t.b t.drift t.low t.high t.reference t.weight t.curves t.start t.banded t.gain t.rounds t.wanted

abbrev pub with_b : Tape → List ℤ → Tape
with_b t b =
    tape_of t.n t.m t.horizon t.a b t.drift t.low t.high t.reference t.weight t.curves t.start t.banded t.gain t.rounds t.wanted

abbrev pub with_drift : Tape → List ℤ → Tape
with_drift t drift =
    tape_of t.n t.m t.horizon t.a t.b drift t.low t.high t.reference t.weight t.curves t.start t.banded t.gain t.rounds t.wanted

abbrev pub with_columns : Tape → List ℤ → List ℤ → List ℤ → List ℤ → Tape
with_columns t low high reference weight =
    tape_of t.n t.m t.horizon t.a t.b t.drift low high reference weight t.curves t.start t.banded t.gain t.rounds t.wanted

abbrev pub with_curves : Tape → Curves → Tape
with_curves t curves =
    tape_of t.n t.m t.horizon t.a t.b t.drift t.low t.high t.reference t.weight curves t.start t.banded t.gain t.rounds t.wanted

abbrev pub with_start : Tape → List ℤ → Tape
with_start t start =
    tape_of t.n t.m t.horizon t.a t.b t.drift t.low t.high t.reference t.weight t.curves start t.banded t.gain t.rounds t.wanted

abbrev pub with_rounds : Tape → Bool → ℤ → ℕ → ℤ → Tape
with_rounds t banded gain rounds wanted =
    tape_of t.n t.m t.horizon t.a t.b t.drift t.low t.high t.reference t.weight t.curves t.start banded gain rounds wanted

-- the reference of a place, and its mark
abbrev pub with_reference : Curves → ℕ → ℤ → Curves
with_reference curves place r = record { reference = set curves.reference place r; given = set curves.given place true }

-- the entry's numbers
abbrev pub with : Tape → Entry → Tape
with t (State i j v) = with_a t (set t.a (6 * i + j) v)
with t (Input i j v) = with_b t (set t.b (4 * i + j) v)
with t (Drift i v) = with_drift t (set t.drift i v)
with t (Column c lo hi r h) = with_columns t (set t.low c lo) (set t.high c hi) (set t.reference c r) (set t.weight c h)
with t (Reference c k r) = with_curves t (with_reference t.curves (12 * c + k) r)
with t (Start i v) = with_start t (set t.start i v)
with t (Rounds banded g rounds wanted) = with_rounds t banded g rounds wanted
