-- Two logs have different texts.
use Rattle.std.proofs.Common.{◌≡◌, ℕ, Bool, true, false, ◌&&◌, if◌then◌else◌, List, [], ◌∷◌, ◌++◌, map, codes, Option, None, Some, refl, ap, sym, ◌∙◌}
use Rattle.std.specs.Prelude.{bytes_eq}
use Rattle.std.specs.Fmt.{decimal}
use Rattle.lp_rows.specs.declared.columns.WideAt.{WideAt}
use Rattle.lp_rows.specs.declared.columns.WideAt.TheVariants as wide
use Rattle.exact_simplex.specs.declared.log.Event.{Event}
use Rattle.exact_simplex.specs.declared.log.Event.TheVariants as event
use Rattle.text_grammar.specs.Printing.{text_of}
use Rattle.text_grammar.proofs.Bools.{both, and_true}
use Rattle.answers.specs.declared.answer.Route.{Route}
use Rattle.answers.specs.declared.answer.Route.TheVariants as route
use Rattle.cert_grammar.specs.Answers.{exact_text_line}
use Rattle.cert_grammar.specs.Claims.{route_of}
use Rattle.cert_grammar.specs.ExactLines.{ExactLine, exact_lines}
use Rattle.cert_grammar.specs.Nodes.{◌>?>◌, is_short}
use Rattle.cert_grammar.specs.Wholes.{natural_of}
use Rattle.cert_grammar.proofs.Answered.{written}
use Rattle.cert_grammar.proofs.Exact.{natural_again}
use Rattle.cert_grammar.proofs.Forms.{short_natural}
use Rattle.cert_grammar.proofs.WrittenAnswers.{are_lines, lines_again, lines_both, one_more, two_words, natural_exact, route_exact}
use Rattle.cert_grammar.specs.Laws.{is_exact_word, are_exact_words}
use Rattle.answers.specs.declared.stop.Stop.{Stop}
use Rattle.answers.specs.declared.stop.Stop.TheVariants as stop
use Rattle.log_writer.specs.Laws.{event_fits, events_fit, place_fits, stop_fits, OneLog}
use Rattle.log_writer.specs.Logs.{log_route_word, half_word, event_line, event_lines, place_words, stop_words, log_text_of}

-- the words of the lines
abbrev event_words : Event → List (List ℕ)
event_words event.OpenRoot = codes "open" ∷ codes "root" ∷ []
event_words (event.Open parent second) = codes "open" ∷ decimal parent ∷ half_word second ∷ []
event_words (event.Move enter leave) = codes "move" ∷ decimal enter ∷ decimal leave ∷ []

abbrev events_words : List Event → List (List (List ℕ))
events_words [] = []
events_words (e ∷ es) = event_words e ∷ events_words es

abbrev rest_words : List Event → Stop → List (List (List ℕ))
rest_words es s = events_words es ++ (codes "stop" ∷ stop_words s) ∷ []

abbrev log_words : Option Route → List Event → Stop → List (List (List ℕ))
log_words r es s = (codes "gdp-log" ∷ codes "1" ∷ []) ∷ (codes "route" ∷ log_route_word r ∷ []) ∷ rest_words es s

rest_text : (es : List Event) (s : Stop) → map exact_text_line (rest_words es s) ≡ event_lines es ++ exact_text_line (codes "stop" ∷ stop_words s) ∷ []
rest_text [] s = refl
rest_text (event.OpenRoot ∷ es) s = ap (λ (l : List (List ℕ)). event_line event.OpenRoot ∷ l) (rest_text es s)
rest_text (event.Open parent second ∷ es) s = ap (λ (l : List (List ℕ)). event_line (event.Open parent second) ∷ l) (rest_text es s)
rest_text (event.Move enter leave ∷ es) s = ap (λ (l : List (List ℕ)). event_line (event.Move enter leave) ∷ l) (rest_text es s)

log_text : (r : Option Route) (es : List Event) (s : Stop) → log_text_of r es s ≡ text_of (map exact_text_line (log_words r es s))
unfolding log_text_of
log_text r es s = ap (λ (l : List (List ℕ)). text_of (exact_text_line (codes "gdp-log" ∷ codes "1" ∷ []) ∷ exact_text_line (codes "route" ∷ log_route_word r ∷ []) ∷ l)) (sym (rest_text es s))

-- the words stand in exact lines
number_exact : (n : ℕ) → is_short n ≡ true → is_exact_word (decimal n) ≡ true
number_exact n f = natural_exact n (short_natural n f)

one_number : (w : List ℕ) (n : ℕ) → is_exact_word w ≡ true → is_short n ≡ true → are_exact_words (w ∷ decimal n ∷ []) ≡ true
one_number w n e f = two_words w (decimal n) e (number_exact n f)

two_numbers : (w : List ℕ) (m n : ℕ) → is_exact_word w ≡ true → (is_short m && is_short n) ≡ true → are_exact_words (w ∷ decimal m ∷ decimal n ∷ []) ≡ true
two_numbers w m n e f =
    let b = both (is_short m) (is_short n) f in
    and_true (is_exact_word w) (are_exact_words (decimal m ∷ decimal n ∷ [])) e (one_number (decimal m) n (number_exact m b.0) b.1)

half_exact : (b : Bool) → is_exact_word (half_word b) ≡ true
half_exact true = refl
half_exact false = refl

event_exact : (e : Event) → event_fits e ≡ true → are_lines (event_words e ∷ []) ≡ true
event_exact event.OpenRoot f = refl
event_exact (event.Open parent second) f = one_more (codes "open") (decimal parent ∷ half_word second ∷ []) [] (two_words (decimal parent) (half_word second) (number_exact parent f) (half_exact second)) refl
event_exact (event.Move enter leave) f = one_more (codes "move") (decimal enter ∷ decimal leave ∷ []) [] (two_numbers (codes "move") enter leave refl f) refl

events_exact : (es : List Event) → events_fit es ≡ true → are_lines (events_words es) ≡ true
events_exact [] f = refl
events_exact (e ∷ es) f =
    let b = both (event_fits e) (events_fit es) f in
    lines_both (event_words e ∷ []) (events_words es) (event_exact e b.0) (events_exact es b.1)

place_exact : (p : WideAt) → place_fits p ≡ true → are_exact_words (place_words p) ≡ true
place_exact (wide.Entry row column) f = two_numbers (codes "entry") row column refl f
place_exact (wide.Over row) f = one_number (codes "over") row refl f
place_exact (wide.Ray row) f = one_number (codes "ray") row refl f
place_exact (wide.Leaf row column) f = two_numbers (codes "leaf") row column refl f
place_exact (wide.Sum mark) f = one_number (codes "sum") mark refl f
place_exact (wide.RaySum mark) f = one_number (codes "raysum") mark refl f
place_exact wide.Value f = refl

stop_exact : (s : Stop) → stop_fits s ≡ true → are_lines ((codes "stop" ∷ stop_words s) ∷ []) ≡ true
stop_exact stop.Steps f = refl
stop_exact (stop.Wide p) f = one_more (codes "stop") (place_words p) [] (place_exact p f) refl

log_route_exact : (r : Option Route) → is_exact_word (log_route_word r) ≡ true
log_route_exact None = refl
log_route_exact (Some r) = route_exact r

log_exact : (r : Option Route) (es : List Event) (s : Stop) → events_fit es ≡ true → stop_fits s ≡ true → are_lines (log_words r es s) ≡ true
log_exact r es s f g =
    one_more (codes "route") (log_route_word r ∷ []) (rest_words es s) (two_words (codes "route") (log_route_word r) refl (log_route_exact r))
    (lines_both (events_words es) ((codes "stop" ∷ stop_words s) ∷ []) (events_exact es f) (stop_exact s g))

-- the words of exact lines
abbrev words_of : List ExactLine → List (List (List ℕ))
words_of lines = map (λ l. l.words) lines

words_written : (ls : List (List (List ℕ))) → words_of (map written ls) ≡ ls
words_written [] = refl
words_written (l ∷ ls) = ap (λ (x : List (List (List ℕ))). l ∷ x) (words_written ls)

same_words : (r r' : Option Route) (es es' : List Event) (s s' : Stop) → events_fit es ≡ true → stop_fits s ≡ true → events_fit es' ≡ true → stop_fits s' ≡ true → log_text_of r es s ≡ log_text_of r' es' s' → log_words r es s ≡ log_words r' es' s'
same_words r r' es es' s s' f g f' g' e =
    sym (read r es s f g) ∙ ap (λ (t : List ℕ). words_of (exact_lines t)) e ∙ read r' es' s' f' g'
  where
    read : (r : Option Route) (es : List Event) (s : Stop) → events_fit es ≡ true → stop_fits s ≡ true → words_of (exact_lines (log_text_of r es s)) ≡ log_words r es s
    read r es s f g =
        ap (λ (t : List ℕ). words_of (exact_lines t)) (log_text r es s)
        ∙ ap words_of (lines_again (log_words r es s) (log_exact r es s f g))
        ∙ words_written (log_words r es s)

-- what the words say
abbrev event_of : List (List ℕ) → Option Event
event_of (a ∷ b ∷ []) = Some event.OpenRoot
event_of (a ∷ b ∷ c ∷ []) =
    if bytes_eq a (codes "open") then (natural_of b >?> (λ p. Some (event.Open p (bytes_eq c (codes "2")))))
    else (natural_of b >?> (λ i. natural_of c >?> (λ j. Some (event.Move i j))))
event_of _ = None

abbrev stop_of : List (List ℕ) → Option Stop
stop_of (a ∷ []) = if bytes_eq a (codes "steps") then Some stop.Steps else Some (stop.Wide wide.Value)
stop_of (a ∷ b ∷ []) = natural_of b >?> (λ n.
    if bytes_eq a (codes "over") then Some (stop.Wide (wide.Over n))
    else (if bytes_eq a (codes "ray") then Some (stop.Wide (wide.Ray n))
    else (if bytes_eq a (codes "sum") then Some (stop.Wide (wide.Sum n)) else Some (stop.Wide (wide.RaySum n)))))
stop_of (a ∷ b ∷ c ∷ []) = natural_of b >?> (λ i. natural_of c >?> (λ j. if bytes_eq a (codes "entry") then Some (stop.Wide (wide.Entry i j)) else Some (stop.Wide (wide.Leaf i j))))
stop_of _ = None

abbrev is_stop : List (List ℕ) → Bool
is_stop [] = false
is_stop (a ∷ ws) = bytes_eq a (codes "stop")

abbrev behind_first : List (List ℕ) → List (List ℕ)
behind_first [] = []
behind_first (a ∷ ws) = ws

abbrev rest_of : List (List (List ℕ)) → Option (List Event × Stop)
rest_of [] = None
rest_of (l ∷ ls) = if is_stop l then (stop_of (behind_first l) >?> (λ s. Some ([], s))) else (event_of l >?> (λ e. rest_of ls >?> (λ p. Some (e ∷ p.0, p.1))))

small : (n : ℕ) → is_short n ≡ true → natural_of (decimal n) ≡ Some n
small n f = natural_again n (short_natural n f)

half_again : (b : Bool) → bytes_eq (half_word b) (codes "2") ≡ b
half_again true = refl
half_again false = refl

event_again : (e : Event) → event_fits e ≡ true → event_of (event_words e) ≡ Some e
event_again event.OpenRoot f = refl
event_again (event.Open parent second) f = rw (small parent f, half_again second) refl
event_again (event.Move enter leave) f = let b = both (is_short enter) (is_short leave) f in rw (small enter b.0, small leave b.1) refl

no_stop : (e : Event) → is_stop (event_words e) ≡ false
no_stop event.OpenRoot = refl
no_stop (event.Open parent second) = refl
no_stop (event.Move enter leave) = refl

stop_again : (s : Stop) → stop_fits s ≡ true → stop_of (stop_words s) ≡ Some s
stop_again stop.Steps f = refl
stop_again (stop.Wide (wide.Entry row column)) f = let b = both (is_short row) (is_short column) f in rw (small row b.0, small column b.1) refl
stop_again (stop.Wide (wide.Over row)) f = rw (small row f) refl
stop_again (stop.Wide (wide.Ray row)) f = rw (small row f) refl
stop_again (stop.Wide (wide.Leaf row column)) f = let b = both (is_short row) (is_short column) f in rw (small row b.0, small column b.1) refl
stop_again (stop.Wide (wide.Sum mark)) f = rw (small mark f) refl
stop_again (stop.Wide (wide.RaySum mark)) f = rw (small mark f) refl
stop_again (stop.Wide wide.Value) f = refl

rest_again : (es : List Event) (s : Stop) → events_fit es ≡ true → stop_fits s ≡ true → rest_of (rest_words es s) ≡ Some (es, s)
rest_again [] s f g = rw (stop_again s g) refl
rest_again (e ∷ es) s f g =
    let b = both (event_fits e) (events_fit es) f in
    rw (no_stop e, event_again e b.0, rest_again es s b.1 g) refl

abbrev log_route_of : List ℕ → Option (Option Route)
log_route_of word = if bytes_eq word (codes "lp") then Some None else (route_of word >?> (λ r. Some (Some r)))

log_route_again : (r : Option Route) → log_route_of (log_route_word r) ≡ Some r
log_route_again None = refl
log_route_again (Some route.BigM) = refl
log_route_again (Some route.Hull) = refl
log_route_again (Some route.Hybrid) = refl
log_route_again (Some route.Logic) = refl

-- the route's word, and the lines behind it
abbrev second_word : List (List (List ℕ)) → List ℕ
second_word (l ∷ (a ∷ b ∷ []) ∷ ls) = b
second_word _ = []

abbrev behind_two : List (List (List ℕ)) → List (List (List ℕ))
behind_two (l ∷ m ∷ ls) = ls
behind_two _ = []

pub one_log : OneLog
one_log r r' es es' s s' f g f' g' e =
    let words = same_words r r' es es' s s' f g f' g' e in
    let routes : Some r ≡ Some r' = sym (log_route_again r) ∙ ap (λ (ls : List (List (List ℕ))). log_route_of (second_word ls)) words ∙ log_route_again r' in
    let one : List Event × Stop = (es, s) in
    let other : List Event × Stop = (es', s') in
    let rests : Some one ≡ Some other = sym (rest_again es s f g) ∙ ap (λ (ls : List (List (List ℕ))). rest_of (behind_two ls)) words ∙ rest_again es' s' f' g' in
    let same : one ≡ other = cc rests in
    (cc routes, ap (λ (p : List Event × Stop). p.0) same, ap (λ (p : List Event × Stop). p.1) same)
