-- The limits of a model, each named once.
use Rattle.std.specs.Prelude.{ℕ}

-- the most variables
abbrev pub most_variables : ℕ
most_variables = 500

-- the most Booleans, indicators included
abbrev pub most_booleans : ℕ
most_booleans = 200

-- the most rows of all blocks
abbrev pub most_rows : ℕ
most_rows = 1000

-- the most nodes of all propositions
abbrev pub most_nodes : ℕ
most_nodes = 5000

-- the deepest that a disjunct may stand
abbrev pub deepest_disjunct : ℕ
deepest_disjunct = 8

-- the greatest depth of a proposition, where an atom has depth 1
abbrev pub deepest_proposition : ℕ
deepest_proposition = 16

-- the most arguments of one connective
abbrev pub most_arguments : ℕ
most_arguments = 200

-- the greatest number of a counting connective
abbrev pub greatest_number : ℕ
greatest_number = 1000

-- the most bytes of a name
abbrev pub longest_name : ℕ
longest_name = 64
