-- The bytes that decide a tape decide its slip: the printing program need not read more.
use Prim.Native.Nat.{ℕ}
use mathlib.Core.Path.{◌≡◌}
use mathlib.Core.List.{List}
use lib.ListN.{take}
use Rattle.commands.proofs.Extent.{deciding_bytes}
use Rattle.tape.proofs.Deciding.{decides}
use Rattle.solver.specs.Solving.{solving}
use Rattle.solution.specs.Solution.{solution_of}
use Rattle.slip_text.specs.Slip.{tape_slip}

pub slip_decided : (s : List ℕ) → tape_slip (take deciding_bytes s) ≡ tape_slip s
unfolding solution_of solving
slip_decided s = rw (decides s)
