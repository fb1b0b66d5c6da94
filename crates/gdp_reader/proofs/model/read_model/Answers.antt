use Rattle.gdp_reader.proofs.EndsLemmas.{found_spelled, only_spelled, refused_bad}
use Rattle.gdp_reader.proofs.model.read_model.Goals as goal

pub returns : goal.returns
returns c = record {
  found = found_spelled c.args.text.now c.read_text.result c.read_text.ensures;
  only = only_spelled c.args.text.now c.read_text.result c.read_text.ensures;
  refused = refused_bad c.args.text.now c.read_text.result c.read_text.ensures;
}
