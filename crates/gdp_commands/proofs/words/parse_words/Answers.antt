use Rattle.std.proofs.Common.{rules, ◌≡◌, ◌≤◌, ◌<◌, length, [], ◌∷◌, arith}
use Rattle.std.specs.Prelude.{string_bytes}
use Rattle.gdp_commands.specs.Words.{NoForm, words_of}
use Rattle.gdp_commands.proofs.Delivered.{of_words}
use Rattle.gdp_commands.proofs.FiveWords.{five_words}
use Rattle.gdp_commands.proofs.FourWords.{four_words}
use Rattle.gdp_commands.proofs.words.parse_words.Goals as goal

pub returns-in-len4-clause-none : goal.returns-in-len4-clause-none
returns-in-len4-clause-none c =
    let x = c.as_str-in-len4.result.now in
    let y = c.as_str-in-len4-2.result.now in
    let z = c.as_str-in-len4-3.result.now in
    let w = c.as_str-in-len4-4.result.now in
    let l : 4 ≤ length c.args.words.now = omega (arith, c.in-len4.len_at_least) in
    let u : length c.args.words.now < 5 = omega (arith, c.in-len4.len_below) in
    let e : x ≡ string_bytes c.command-item-then-words-lt5.result = search rules in
    let f : y ≡ string_bytes c.first-item-then-words-lt5.result = search rules in
    let g : z ≡ string_bytes c.second-item-then-words-lt5.result = search rules in
    let h : w ≡ string_bytes c.third-item.result = search rules in
    of_words NoForm c.parse_four.result (words_of c.args.words.now) (x ∷ y ∷ z ∷ w ∷ [])
    (four_words c.args.words.now c.command-item-then-words-lt5.result c.first-item-then-words-lt5.result c.second-item-then-words-lt5.result c.third-item.result x y z w l u
    c.command-item-then-words-lt5.is c.first-item-then-words-lt5.is c.second-item-then-words-lt5.is c.third-item.is e f g h)
    c.parse_four.ensures.none

pub returns-in-len5-clause-none : goal.returns-in-len5-clause-none
returns-in-len5-clause-none c =
    let x = c.as_str-in-len5.result.now in
    let y = c.as_str-in-len5-2.result.now in
    let z = c.as_str-in-len5-3.result.now in
    let w = c.as_str-in-len5-4.result.now in
    let v = c.as_str-in-len5-5.result.now in
    let l : 5 ≤ length c.args.words.now = omega (arith, c.in-len5.len_at_least) in
    let u : length c.args.words.now < 6 = omega (arith, c.in-len5.len_below) in
    of_words NoForm c.parse_five.result (words_of c.args.words.now) (x ∷ y ∷ z ∷ w ∷ v ∷ [])
    (five_words c.args.words.now c.command-item-then-words-lt6.result c.first-item-then-words-lt6.result c.second-item-then-words-lt6.result c.third-item-then-words-lt6.result c.fourth-item.result x y z w v l u
    c.command-item-then-words-lt6.is c.first-item-then-words-lt6.is c.second-item-then-words-lt6.is c.third-item-then-words-lt6.is c.fourth-item.is
    c.as_str-in-len5.ensures.value c.as_str-in-len5-2.ensures.value c.as_str-in-len5-3.ensures.value c.as_str-in-len5-4.ensures.value c.as_str-in-len5-5.ensures.value)
    c.parse_five.ensures.none
