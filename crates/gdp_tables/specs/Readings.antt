-- The strong Kleene connectives of three truth values, each a table of all its cases.
use Rattle.gdp_tables.specs.declared.tri.Tri.{Tri}
use Rattle.gdp_tables.specs.declared.tri.Tri.TheVariants.{No, Yes, Open}

-- not
abbrev pub not_of : Tri → Tri
not_of No = Yes
not_of Yes = No
not_of Open = Open

-- and: no where one is no, yes where both are yes, else open
abbrev pub and_of : Tri → Tri → Tri
and_of No No = No
and_of No Yes = No
and_of No Open = No
and_of Yes No = No
and_of Yes Yes = Yes
and_of Yes Open = Open
and_of Open No = No
and_of Open Yes = Open
and_of Open Open = Open

-- or: yes where one is yes, no where both are no, else open
abbrev pub or_of : Tri → Tri → Tri
or_of No No = No
or_of No Yes = Yes
or_of No Open = Open
or_of Yes No = Yes
or_of Yes Yes = Yes
or_of Yes Open = Yes
or_of Open No = Open
or_of Open Yes = Yes
or_of Open Open = Open

-- whether both are the same: open where one is open
abbrev pub same_of : Tri → Tri → Tri
same_of No No = Yes
same_of No Yes = No
same_of No Open = Open
same_of Yes No = No
same_of Yes Yes = Yes
same_of Yes Open = Open
same_of Open No = Open
same_of Open Yes = Open
same_of Open Open = Open
