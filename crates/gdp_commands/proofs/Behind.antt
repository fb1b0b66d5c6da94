-- Texts that stand behind names, revealed or not.
use Rattle.std.proofs.Common.{◌≡◌, ℕ, ◌+◌, ◌<◌, List, [], length, Option, Some, None, arith, refl}
use Rattle.std.proofs.Math.ListN.{replicate}
use Rattle.std.proofs.lemmas.List.{length-replicate}
use Rattle.gdp_io.specs.Shelf.{Contents, IsBehind}
use Rattle.gdp_commands.specs.Texts.{IsLonger, IsLongerBehind}

-- a text of more bytes than a number
longer_than : (n : ℕ) → (text : List ℕ) × (n < length text)
longer_than n = (replicate (n + 1) 0, omega (arith, length-replicate {A = ℕ} (n + 1) 0))

text_by : (contents : Contents) (name : List ℕ) (found : Option (List ℕ)) → contents name ≡ found → (text : List ℕ) × IsBehind contents name text
text_by contents name None is = ([], λ all revealed. cc)
text_by contents name (Some text) is = (text, λ all revealed. cc)

long_by : (limit : ℕ) (contents : Contents) (name : List ℕ) (found : Option (List ℕ)) → contents name ≡ found → IsLongerBehind limit contents name →
    (text : List ℕ) × IsBehind contents name text × IsLonger limit text
long_by limit contents name None is long = let text = longer_than limit in (text.0, (λ all revealed. cc), text.1)
long_by limit contents name (Some text) is long = (text, (λ all revealed. cc), long text is)

-- some text stands behind a name
pub some_text : (contents : Contents) (name : List ℕ) → (text : List ℕ) × IsBehind contents name text
some_text contents name = text_by contents name (contents name) refl

-- a text that is too long stands behind a name whose contents, where they are revealed, are too long
pub long_text : (limit : ℕ) (contents : Contents) (name : List ℕ) → IsLongerBehind limit contents name → (text : List ℕ) × IsBehind contents name text × IsLonger limit text
long_text limit contents name = long_by limit contents name (contents name) refl
