-- What is revealed of the host's files.
use Rattle.std.specs.Prelude.{ℕ, List, Option, Some, None}
use Rattle.gdp_io.specs.Shelf.{Contents, Places, Openings}

-- the contents behind names, none of which are revealed
abbrev pub hidden_contents : Contents
hidden_contents name = None

-- a place that is hidden: no name and offset is
abbrev pub HiddenPlace : Places
HiddenPlace name at = ⊥

-- names that were opened and are hidden: no list is
abbrev pub HiddenOpenings : Openings
HiddenOpenings names = ⊥

-- the bytes that reads of the open file will give, where the host reveals them; hidden where none is open
abbrev pub left_of : {File : Type 0} → (File → Option (List ℕ)) → Option File → Option (List ℕ)
left_of remaining None = None
left_of remaining (Some file) = remaining file
