-- The limits of texts and of ground problems, and the sizes of whole numbers that are decided.
use Rattle.std.specs.Prelude.{ℕ, ◌^◌}

-- ---- texts
abbrev pub most_bytes : ℕ
most_bytes = 1048576

abbrev pub most_clauses : ℕ
most_clauses = 2000

-- of a clause
abbrev pub most_variables : ℕ
most_variables = 6

-- of a declared function
abbrev pub most_arguments : ℕ
most_arguments = 4

-- ---- ground problems
-- constants and definitions together
abbrev pub most_names : ℕ
most_names = 4000

abbrev pub most_lines : ℕ
most_lines = 50000

-- the literals of a path, and those of lines of one literal beside it
abbrev pub most_rows : ℕ
most_rows = 100000

-- ---- whole numbers
-- the largest bound on a difference
abbrev pub largest_bound : ℕ
largest_bound = 10 ^ 25

-- the largest value that is given to a whole number
abbrev pub largest_value : ℕ
largest_value = 10 ^ 37
