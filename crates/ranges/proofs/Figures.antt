-- Ranges worked out by hand: one table, and one fact over it. Their roots stand in the table, since the definition counts up to a root by
-- one.
use Prim.Native.Nat.{ℕ, ◌*◌}
use mathlib.Core.Path.{◌≡◌, refl, ap₂}
use mathlib.Core.Bool.{cond}
use mathlib.Core.List.{List, [], ◌∷◌, map}
use native.Mathlib.Omega.{arith}
use lib.IntN.{ℤ, pos, negsuc, ◌+ℤ◌, ◌-ℤ◌, ◌*ℤ◌}
use Rattle.integer.specs.Limited.{limited}
use Rattle.integer.specs.Quotient.{◌÷◌, quotient_up}
use Rattle.integer.specs.Root.{LeastRoot}
use Rattle.integer.proofs.Root.{zero_least, next-least, root_is}
use Rattle.problem.specs.declared.Term.{Term}
use Rattle.problem.specs.Dual.{weightless, tilt}
use Rattle.ranges.specs.declared.range.Range.{Range}
use Rattle.ranges.specs.Range.{centre, reach, lowest, highest, range_of}

-- weight, lo, hi, r, slope and gap of a number, the root of 4P gap, and the range
pub record Row : Type 0 where
  pub h : ℕ
  pub lo : ℤ
  pub hi : ℤ
  pub r : ℤ
  pub s : ℤ
  pub gap : ℕ
  pub b : ℕ
  pub root : LeastRoot (4 * (4096 * h) * gap) b
  pub low : ℤ
  pub high : ℤ

module _ (row : Row) where
  abbrev term : Term
  term = record { penalty = pos (4096 * row.h); low = row.lo; high = row.hi; reference = row.r }

  abbrev pub found : Range
  found = range_of term row.s (pos row.gap)

  -- with the root that is told
  abbrev told : Range
  told =
      let c = centre term row.s in
      let d = pos 2 *ℤ term.penalty in
      cond (weightless term.penalty) (record { low = row.lo; high = row.hi })
      (record { low = limited row.lo row.hi ((c -ℤ pos row.b) ÷ d); high = limited row.lo row.hi (quotient_up (c +ℤ pos row.b) d) })

  by_root : found ≡ told
  unfolding range_of lowest highest reach
  by_root = rw (root_is _ row.b row.root)

  abbrev pub due : Range
  due = record { low = row.low; high = row.high }

by_roots : (rows : List Row) → map found rows ≡ map told rows
by_roots [] = refl
by_roots (row ∷ rows) = ap₂ (λ (a : Range) (b : List Range). a ∷ b) (by_root row) (by_roots rows)

abbrev row : (h : ℕ) (lo hi r s : ℤ) (gap b : ℕ) → LeastRoot (4 * (4096 * h) * gap) b → ℤ → ℤ → Row
row h lo hi r s gap b root low high =
    record { h = h; lo = lo; hi = hi; r = r; s = s; gap = gap; b = b; root = root; low = low; high = high }

-- tape F's first duty, with the multiplier and the gap of M4: 4, and 2.83 either way
abbrev pub first_F : Row
first_F = row 1 (pos 0) (pos 40) (pos 0) (negsuc 32767) 32768 23171 (next-least _ 23170 (omega arith) (omega arith)) (pos 1) (pos 7)

abbrev table : List Row
table =
    first_F
    -- gap 0: the number itself, and where it lies between whole numbers the two beside it
    ∷ row 1 (pos 0) (pos 40) (pos 0) (negsuc 32767) 0 0 zero_least (pos 4) (pos 4)
    ∷ row 1 (pos 0) (pos 40) (pos 0) (negsuc 32768) 0 0 zero_least (pos 4) (pos 5)
    -- the first piece, lo and 3 more, or one gap more; the second, with r above hi; and the first, with r below lo
    ∷ row 1 (pos 0) (pos 1000) (pos 0) (pos 40000) 36864 24576 (next-least _ 24575 (omega arith) (omega arith)) (pos 0) (pos 3)
    ∷ row 1 (pos 0) (pos 1000) (pos 0) (pos 40000) 36865 24577 (next-least _ 24576 (omega arith) (omega arith)) (pos 0) (pos 4)
    ∷ row 1 (pos 0) (pos 1000) (pos 5000) (pos 0) 36864 24576 (next-least _ 24575 (omega arith) (omega arith)) (pos 997) (pos 1000)
    ∷ row 1 (negsuc 999) (pos 0) (negsuc 4999) (pos 0) 36864 24576 (next-least _ 24575 (omega arith) (omega arith)) (negsuc 999) (negsuc 996)
    -- the largest gap with the largest and the least weight
    ∷ row 255 (negsuc 19999) (pos 20000) (pos 0) (pos 0) 4294967295 133955328 (next-least _ 133955327 (omega arith) (omega arith)) (negsuc 64) (pos 65)
    ∷ row 1 (negsuc 19999) (pos 20000) (pos 0) (pos 0) 4294967295 8388608 (next-least _ 8388607 (omega arith) (omega arith)) (negsuc 1023) (pos 1024)
    -- weight 0; and lo = hi
    ∷ row 0 (negsuc 2) (pos 9) (pos 5) (pos 7) 1000 0 zero_least (negsuc 2) (pos 9)
    ∷ row 1 (pos 7) (pos 7) (pos 5) (pos 10) 1000 4048 (next-least _ 4047 (omega arith) (omega arith)) (pos 7) (pos 7)
    -- ends that are whole, a slope one larger, and a gap one larger
    ∷ row 1 (negsuc 49) (pos 50) (negsuc 9) (pos 24576) 16384 16384 (next-least _ 16383 (omega arith) (omega arith)) (negsuc 14) (negsuc 10)
    ∷ row 1 (negsuc 49) (pos 50) (negsuc 9) (pos 24577) 16384 16384 (next-least _ 16383 (omega arith) (omega arith)) (negsuc 15) (negsuc 10)
    ∷ row 1 (negsuc 49) (pos 50) (negsuc 9) (pos 24576) 16385 16385 (next-least _ 16384 (omega arith) (omega arith)) (negsuc 15) (negsuc 9)
    ∷ []

pub figures : map found table ≡ map due table
unfolding centre tilt limited ◌÷◌ quotient_up
figures = by_roots table

pub range_F : found first_F ≡ due first_F
unfolding centre tilt limited ◌÷◌ quotient_up
range_F = by_root first_F
