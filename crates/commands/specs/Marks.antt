-- Where the marks stand: a mark for each place that a command can give.
use Rattle.std.specs.Prelude.{ℕ, Bool, false, List, get_or}

-- A, row by row at a stride of 6
abbrev pub state_place : ℕ
state_place = 0

-- B, row by row at a stride of 4
abbrev pub input_place : ℕ
input_place = 36

-- w
abbrev pub drift_place : ℕ
drift_place = 60

-- the columns
abbrev pub column_place : ℕ
column_place = 66

-- x(0)
abbrev pub start_place : ℕ
start_place = 76

-- command 50 or 51
abbrev pub rounds_place : ℕ
rounds_place = 82

-- the references by step, column by column at a stride of 12
abbrev pub reference_place : ℕ
reference_place = 83

abbrev pub place_count : ℕ
place_count = 203

-- the mark of a place that has been given
abbrev pub marked : List Bool → ℕ → Bool
marked given place = get_or given place false
