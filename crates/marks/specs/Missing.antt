-- How much of what FF asks for was not given.
use Rattle.std.specs.Prelude.{ℕ, Bool, not, ◌&&◌, List}
use Rattle.integer.specs.Tests.{count}
use Rattle.commands.specs.Marks.{place_count, marked}
use Rattle.commands.specs.Required.{required}

-- the required places without a mark, counted one by one
unfoldable pub missing : ℕ → ℕ → ℕ → List Bool → ℕ
missing n m horizon given = count place_count (λ p. required n m horizon given p && not (marked given p))
