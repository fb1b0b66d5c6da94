-- The form that a command was read from.
use Rattle.gdp_commands.specs.declared.words.Command.{Command}
use Rattle.gdp_commands.specs.declared.words.Command.TheVariants.{Test, Format, Compile, Solve, Check, Make, Bench, Lp}
use Rattle.gdp_commands.specs.Words.{Form}

abbrev pub form_of : Command → Form
form_of (Test model point) = Form.Test model.now point.now
form_of (Format model) = Form.Format model.now
form_of (Compile choice model) = Form.Compile choice model.now
form_of (Solve route steps model) = Form.Solve route steps model.now
form_of (Check model answer) = Form.Check model.now answer.now
form_of (Make seed size) = Form.Make seed size
form_of (Bench route steps seed size) = Form.Bench route steps seed size
form_of (Lp steps file) = Form.Lp steps file.now
