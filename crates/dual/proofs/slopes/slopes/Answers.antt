use Prim.Native.Nat.{◌*◌}
use mathlib.Core.Path.{◌≡◌, ◌∙◌}
use native.Mathlib.Omega.{arith}
use borrow.Author.Rules.{rules}
use Rattle.integer.proofs.Places.{stretch_join, steps-none, steps_more}
use Rattle.dual.proofs.ByPlace.{place_input, place_state}
use Rattle.dual.proofs.slopes.slopes.Goals as goal

pub loop-k-init : goal.loop-k-init
loop-k-init c = (search rules, steps-none 10 120 _)

pub loop-k-preserved : goal.loop-k-preserved
loop-k-preserved c =
    let l = c.loop-k in
    let inputs = c.input_slopes.ensures in
    let states = c.state_slopes.ensures in (
      states.same ∙ inputs.same ∙ l.invariant.0,
      steps_more 10 l.k _ _ _ l.invariant.1
          (stretch_join (10 * l.k) 4 6 _ _ _ _ _ _ inputs states (place_input _ _ l.k) (λ i _. place_state _ _ l.k i)),
    )

pub returns : goal.returns
returns c = let e : c.loop-k.k ≡ c.args.horizon = omega arith in rw e at c.loop-k.invariant.1
