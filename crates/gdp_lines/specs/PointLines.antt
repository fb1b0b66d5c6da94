-- What the lines of a point text say, as their reader has them.
use Rattle.gdp_grammar.specs.PointForms as text
use Rattle.gdp_lines.specs.declared.point_form.Integer.{Integer}
use Rattle.gdp_lines.specs.declared.point_form.PointForm.{PointForm}
use Rattle.gdp_lines.specs.declared.point_form.PointForm.TheVariants.{Over, Val, On, End}

-- the whole number
abbrev pub integer : Integer → text.Integer
integer n = record { is_negative = n.is_negative; digits = n.digits.now }

-- the line
abbrev pub point_form : PointForm → text.PointForm
point_form (Over digits) = text.Over digits.now
point_form (Val name number) = text.Val name.now (integer number)
point_form (On name) = text.On name.now
point_form End = text.End
