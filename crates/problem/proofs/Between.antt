-- Why the quotient is rounded up: a tape with a rival between whole units that costs less than document 01's floor. The state follows
-- the input by 3/4096 alone, so y = 1 has the slopes 3 and −4096. The pieces are 0 − 9/16,384 and 0 − 1024, the allowance is 2048 and
-- the constant 4096: the floor is 1024 by the quotient rounded down, 1023 by the one rounded up, and the rival costs 1023.99945.
use Prim.Native.Nat.{ℕ, zero, suc, ◌<◌}
use mathlib.Core.Path.{◌≡◌, refl}
use mathlib.Core.List.{List, [], ◌∷◌}
use native.Mathlib.Omega.{arith}
use lib.IntN.{ℤ, pos, negsuc, neg_ℤ, ◌*ℤ◌}
use Rattle.integer.specs.Operand.{unsigned, signed}
use Rattle.integer.specs.Order.{◌≼◌, ◌≺◌}
use Rattle.integer.specs.Quotient.{◌÷◌, quotient_up}
use Rattle.integer.specs.Sum.{sum}
use Rattle.integer.specs.Tests.{outside, any}
use Rattle.commands.specs.Format.{pair_command, size_command, drift_command, column_command, start_command, rounds_command, decoded, wrong_size, beyond, wrong_column, wrong}
use Rattle.commands.specs.Required.{among, curved, on_curve, required}
use Rattle.tape.specs.Answer.{Accepted}
use Rattle.tape.specs.Reading.{obey_size, obey_entry, absent, lacks_weight, obey_end, obey, next, read_from, reading}
use Rattle.tape.specs.Tape.{step_reference}
use Rattle.problem.specs.Model.{Problem, problem_of, plan_of, multipliers_of, state_at, model_sum, residual}
use Rattle.problem.specs.Cost.{total, square, cost, plan_cost, Within}
use Rattle.problem.specs.Rival.{finer, Rival, rival_cost}
use Rattle.problem.specs.Dual.{input_slope, adjoint, carried, state_slope, unweighted, conjugate, tilt, piece, pieces, constant, sizes, floor}
use Rattle.problem.proofs.Rounded.{conjugate_down, pieces_by, floor_by}

-- n = m = N = 1, B 3, w 4,096, both columns −9 to 9 with r 0 and h 1, x(0) 0
abbrev bytes : List ℕ
bytes =
    0x10 ∷ 0x01 ∷ 0x01 ∷ 0x01 ∷ 0x21 ∷ 0x00 ∷ 0x00 ∷ 0x03 ∷ 0x00 ∷ 0x22 ∷ 0x00 ∷ 0x00 ∷ 0x10 ∷ 0x00 ∷ 0x00
    ∷ 0x30 ∷ 0x00 ∷ 0xF7 ∷ 0xFF ∷ 0x09 ∷ 0x00 ∷ 0x00 ∷ 0x00 ∷ 0x01 ∷ 0x30 ∷ 0x01 ∷ 0xF7 ∷ 0xFF ∷ 0x09 ∷ 0x00 ∷ 0x00 ∷ 0x00 ∷ 0x01
    ∷ 0x40 ∷ 0x00 ∷ 0x00 ∷ 0x00 ∷ 0x50 ∷ 0x01 ∷ 0x00 ∷ 0x01 ∷ 0x00 ∷ 0x00 ∷ 0x00 ∷ 0x00 ∷ 0x00 ∷ 0xFF ∷ []

abbrev q : Problem
q = problem_of (reading bytes).tape

abbrev y : ℕ → ℕ → ℤ
y = multipliers_of 1 (pos 1 ∷ [])

-- u = −3/8192 and x = 1/2 − 9/2^25 in units of 1/2^25
abbrev D : ℤ
D = pos 33554432

abbrev between : List ℤ
between = negsuc 12287 ∷ pos 16777207 ∷ []

-- there is one step, one state and one input
only : (P : ℕ → ℕ → Type 0) → P 0 0 → (k i : ℕ) → k < 1 → i < 1 → P k i
only P p zero zero h l = p
only P p zero (suc i) h l = let z : ⊥ = omega arith in absurd z
only P p (suc k) i h l = let z : ⊥ = omega arith in absurd z

-- The tape is accepted; the rival is one, with the residual 2048 D; document 01's floor is above its cost, and the floor is not.
pub between_floors : ((reading bytes).answer ≡ Accepted) × Rival q D between × (residual (finer D q) (plan_of 1 1 between) 0 0 ≡ pos 2048 *ℤ D)
    × (floor_by conjugate_down q y ≡ pos 1024) × (rival_cost q D between ≺ square D *ℤ pos 1024)
    × (floor q y ≡ pos 1023) × (square D *ℤ pos 1023 ≼ rival_cost q D between)
unfolding unsigned signed ◌÷◌ quotient_up sum pair_command size_command drift_command column_command start_command rounds_command decoded wrong_size beyond outside any wrong_column wrong among curved on_curve required obey_size obey_entry absent lacks_weight obey_end obey next read_from reading step_reference state_at model_sum residual total cost plan_cost input_slope adjoint carried state_slope unweighted conjugate tilt piece pieces constant sizes floor conjugate_down pieces_by floor_by
between_floors = (
  refl,
  record {
    from_one = record { le = tt };
    long = refl;
    inputs-within = only (λ k j. Within ((finer D q).input_term k j) ((plan_of 1 1 between).u k j)) (record { le = tt }, record { le = tt });
    states-within = only (λ k i. Within ((finer D q).state_term k i) ((plan_of 1 1 between).x k i)) (record { le = tt }, record { le = tt });
    residuals_within = only (λ k i. let e = residual (finer D q) (plan_of 1 1 between) k i in (neg_ℤ (pos 2048 *ℤ D) ≼ e) × (e ≼ pos 2048 *ℤ D))
        (record { le = tt }, record { le = tt });
  },
  refl,
  refl,
  record { lt = tt },
  refl,
  record { le = tt },
)
