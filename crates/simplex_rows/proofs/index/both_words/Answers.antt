use Rattle.std.proofs.Common.{arith}
use Rattle.std.proofs.lemmas.Nat.Bits.{bit_at_or, bit_at-lt}
use Rattle.simplex_rows.proofs.index.both_words.Goals as goal

pub returns : goal.returns
returns c = record {
  first = λ i e. let o = bit_at_or c.args.a c.args.b i in let l = bit_at-lt c.args.b i in omega arith;
  second = λ i e. let o = bit_at_or c.args.a c.args.b i in let l = bit_at-lt c.args.a i in omega arith;
}
