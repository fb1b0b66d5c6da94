use Rattle.gdp_commands.proofs.Spelled.{spelled_is_sound}
use Rattle.gdp_commands.proofs.compile_laws.spelled_is_sound.Goals as goal

pub returns : goal.returns
returns c = spelled_is_sound
