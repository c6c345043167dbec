-- The order in which a plan's numbers and the multipliers are lent; residuals are in that of the multipliers.
use Rattle.std.specs.Prelude.{ℕ, zero, suc, List, [], ◌∷◌, ◌++◌, ℤ}
use Rattle.tape.specs.declared.Tape.{Tape}
use Rattle.problem.specs.Model.{Plan}
use Rattle.primal.specs.Padded.{padded}

-- f 0, f 1, .. below count.
unfoldable pub listed : {A : Type 0} → ℕ → (ℕ → A) → List A
listed zero f = []
listed (suc count) f = listed count f ++ f count ∷ []

-- Step by step.
unfoldable pub joined : ℕ → (ℕ → List ℤ) → List ℤ
joined zero f = []
joined (suc horizon) f = joined horizon f ++ f horizon

-- The multipliers y(k,i), step by step.
abbrev pub lent_multipliers : ℕ → ℕ → (ℕ → ℕ → ℤ) → List ℤ
lent_multipliers n horizon y = joined horizon (λ k. listed n (y k))

-- The multipliers, or the residuals, that a padded array holds.
abbrev pub lent_of : Tape → List ℤ → List ℤ
lent_of t l = lent_multipliers t.n t.horizon (padded l)

-- u(0), x(1), u(1), x(2) and so on.
abbrev pub lent_plan : ℕ → ℕ → ℕ → Plan → List ℤ
lent_plan n m horizon v = joined horizon (λ k. listed m (v.u k) ++ listed n (v.x k))
