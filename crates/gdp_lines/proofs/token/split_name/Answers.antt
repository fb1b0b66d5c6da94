use Rattle.std.proofs.lemmas.Str.{IsUtf8-from_ascii}
use Rattle.std.proofs.Common.{subst, sym, List, ℕ}
use Rattle.std.specs.Str.{IsUtf8}
use Rattle.gdp_grammar.proofs.Cutting.{name_ascii}
use Rattle.gdp_lines.proofs.token.split_name.Goals as goal

pub unreachable-requires : goal.unreachable-requires
unreachable-requires c = c.in-Err.ensures.cases.0 (subst (λ (bs : List ℕ). IsUtf8 bs) (sym c.split_front.ensures.front) (IsUtf8-from_ascii _ (name_ascii c.args.bytes.now)))
