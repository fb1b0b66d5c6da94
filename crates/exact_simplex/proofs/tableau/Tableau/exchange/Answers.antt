use Rattle.std.proofs.Common.{◌<◌, [], true, arith, ◌≡◌, ◌+◌, ◌==◌, ◌||◌, ◌++◌, ℕ, ℤ, List, length, take, drop, set, slice_index_or, unwrap_or, Bool, refl, ap, sym, ◌∙◌, subst}
use Rattle.std.proofs.lemmas.List.{get_or_default}
use Rattle.int_linear.specs.Sums.{at, matrix}
use Rattle.simplex_rows.specs.Index.{IsIndexOf, IsIndexAfter}
use Rattle.exact_simplex.proofs.Indexing.{index_below, index_after, index_moved}
use Rattle.simplex_rows.specs.Matrix.{IsRectangle, IsColumnOf}
use Rattle.simplex_rows.specs.Tableau.{IsExchange}
use Rattle.exact_simplex.specs.declared.moves.Move.TheVariants.{Exchange}
use Rattle.exact_simplex.specs.Choice.{first_below}
use Rattle.exact_simplex.specs.Table.{Table, right, entry, IsSound, IsTableauFor, width, artificial, kept}
use Rattle.exact_simplex.specs.steps.Kept.{words, IsSoundWith}
use Rattle.exact_simplex.specs.Bland.{bland_move, row_of}
use Rattle.exact_simplex.specs.Exchange.{counted, IsWideMove, IsNarrowMove, IsWideExchange, IsNarrowExchange, IsExchanged}
use Rattle.exact_simplex.specs.steps.Ready.{IsReady}
use Rattle.exact_simplex.proofs.Named.{IsNamed, named}
use Rattle.exact_simplex.proofs.Sound.{feasible_after, ready, sound_after, tableau_after, changed, whole_written}
use Rattle.exact_simplex.proofs.tableau.Tableau.exchange.Goals as goal

-- what is ready at the tableau's rows is so at equal ones
ready_at : (t : Table) (enter leave n row : ℕ) (rows : List (List ℤ)) (m_row : ℕ) → IsReady (width t) t.rows m_row enter (artificial t) (leave == artificial t) → n ≡ width t → rows ≡ t.rows → row ≡ m_row → IsReady n rows row enter (artificial t) (leave == artificial t)
ready_at t enter leave n row rows m_row h a b c =
    subst (λ k. IsReady k rows row enter (artificial t) (leave == artificial t)) (sym a)
    (subst (λ k. IsReady (width t) k row enter (artificial t) (leave == artificial t)) (sym b)
    (subst (λ k. IsReady (width t) t.rows k enter (artificial t) (leave == artificial t)) (sym c) h))

-- the row that the search finds
row_found : (t : Table) (basis : List ℕ) (leave row : ℕ) → basis ≡ t.basis → row ≡ unwrap_or (first_below t.height (λ i. slice_index_or basis i 0 == leave)) t.height → row ≡ row_of t leave
row_found t basis leave row e f = f ∙ ap (λ b. unwrap_or (first_below t.height (λ i. slice_index_or b i 0 == leave)) t.height) e

pub exchange_rows-requires-clause-ready : goal.exchange_rows-requires-clause-ready
exchange_rows-requires-clause-ready c =
    let t : Table = record { columns = c.self.inside.columns; height = c.self.inside.height; rows = c.self.inside.rows.items; basis = c.self.inside.basis.items; dropped = c.self.inside.dropped } in
    let m : IsNamed t c.args.enter c.args.leave = named t c.self.invariant.sound c.args.enter c.args.leave (subst (λ u. bland_move u ≡ Exchange c.args.enter c.args.leave) (sym c.self.view_is) c.requires) in
    ready_at t c.args.enter c.args.leave (length c.self.inside.spare) c.find_row-row.result c.deref_mut.result.now m.row (ready t c.self.invariant.sound c.args.enter c.args.leave m) c.self.invariant.spare_width c.deref_mut.ensures.value
    (row_found t c.deref.result.now c.args.leave c.find_row-row.result c.deref.ensures.value c.find_row-row.ensures.value ∙ m.row_is)

-- a wide place of equal rows is one of the tableau
wide_at : (t : Table) (enter leave n row : ℕ) (rows : List (List ℤ)) (i j : ℕ) → IsSound t → n ≡ width t → rows ≡ t.rows → row ≡ row_of t leave → IsWideExchange n (length rows) (kept (leave == artificial t) (artificial t) (matrix rows)) enter row i j → IsWideMove t enter leave i j
wide_at t enter leave n row rows i j s a b c h =
    let one : IsWideExchange (width t) (length rows) (kept (leave == artificial t) (artificial t) (matrix rows)) enter row i j = subst (λ k. IsWideExchange k (length rows) (kept (leave == artificial t) (artificial t) (matrix rows)) enter row i j) a h in
    let two : IsWideExchange (width t) (length t.rows) (kept (leave == artificial t) (artificial t) (matrix t.rows)) enter row i j = subst (λ k. IsWideExchange (width t) (length k) (kept (leave == artificial t) (artificial t) (matrix k)) enter row i j) b one in
    let three : IsWideExchange (width t) (t.height + 1) (kept (leave == artificial t) (artificial t) (matrix t.rows)) enter row i j = subst (λ k. IsWideExchange (width t) k (kept (leave == artificial t) (artificial t) (matrix t.rows)) enter row i j) s.row_count two in
    subst (λ k. IsWideExchange (width t) (t.height + 1) (kept (leave == artificial t) (artificial t) (matrix t.rows)) enter k i j) c three

narrow_at : (t : Table) (enter leave n row : ℕ) (rows : List (List ℤ)) → IsSound t → n ≡ width t → rows ≡ t.rows → row ≡ row_of t leave → IsNarrowExchange n (length rows) (kept (leave == artificial t) (artificial t) (matrix rows)) enter row → IsNarrowMove t enter leave
narrow_at t enter leave n row rows s a b c h =
    let one : IsNarrowExchange (width t) (length rows) (kept (leave == artificial t) (artificial t) (matrix rows)) enter row = subst (λ k. IsNarrowExchange k (length rows) (kept (leave == artificial t) (artificial t) (matrix rows)) enter row) a h in
    let two : IsNarrowExchange (width t) (length t.rows) (kept (leave == artificial t) (artificial t) (matrix t.rows)) enter row = subst (λ k. IsNarrowExchange (width t) (length k) (kept (leave == artificial t) (artificial t) (matrix k)) enter row) b one in
    let three : IsNarrowExchange (width t) (t.height + 1) (kept (leave == artificial t) (artificial t) (matrix t.rows)) enter row = subst (λ k. IsNarrowExchange (width t) k (kept (leave == artificial t) (artificial t) (matrix t.rows)) enter row) s.row_count two in
    subst (λ k. IsNarrowExchange (width t) (t.height + 1) (kept (leave == artificial t) (artificial t) (matrix t.rows)) enter k) c three

exchange_at : (t : Table) (enter leave n row : ℕ) (rows now : List (List ℤ)) (next : ℕ) → IsSound t → n ≡ width t → rows ≡ t.rows → row ≡ next → IsExchange n (length rows) (kept (leave == artificial t) (artificial t) (matrix rows)) row enter (matrix now) → IsExchange (width t) (t.height + 1) (counted t leave) next enter (matrix now)
exchange_at t enter leave n row rows now next s a b c h =
    let one : IsExchange (width t) (length rows) (kept (leave == artificial t) (artificial t) (matrix rows)) row enter (matrix now) = subst (λ k. IsExchange k (length rows) (kept (leave == artificial t) (artificial t) (matrix rows)) row enter (matrix now)) a h in
    let two : IsExchange (width t) (length t.rows) (kept (leave == artificial t) (artificial t) (matrix t.rows)) row enter (matrix now) = subst (λ k. IsExchange (width t) (length k) (kept (leave == artificial t) (artificial t) (matrix k)) row enter (matrix now)) b one in
    let three : IsExchange (width t) (t.height + 1) (kept (leave == artificial t) (artificial t) (matrix t.rows)) row enter (matrix now) = subst (λ k. IsExchange (width t) k (kept (leave == artificial t) (artificial t) (matrix t.rows)) row enter (matrix now)) s.row_count two in
    subst (λ k. IsExchange (width t) (t.height + 1) (kept (leave == artificial t) (artificial t) (matrix t.rows)) k enter (matrix now)) c three

pub returns-in-Err-clause-wide : goal.returns-in-Err-clause-wide
returns-in-Err-clause-wide c =
    let t : Table = record { columns = c.self.inside.columns; height = c.self.inside.height; rows = c.self.inside.rows.items; basis = c.self.inside.basis.items; dropped = c.self.inside.dropped } in
    subst (λ u. IsWideMove u c.args.enter c.args.leave c.in-Err.place.0 c.in-Err.place.1) c.self.view_is
    (wide_at t c.args.enter c.args.leave (length c.self.inside.spare) c.find_row-row.result c.deref_mut.result.now c.in-Err.place.0 c.in-Err.place.1 c.self.invariant.sound c.self.invariant.spare_width c.deref_mut.ensures.value
    (row_found t c.deref.result.now c.args.leave c.find_row-row.result c.deref.ensures.value c.find_row-row.ensures.value) c.in-Err.ensures.wide)

pub returns-in-Ok-clause-narrow : goal.returns-in-Ok-clause-narrow
returns-in-Ok-clause-narrow c =
    let t : Table = record { columns = c.self.inside.columns; height = c.self.inside.height; rows = c.self.inside.rows.items; basis = c.self.inside.basis.items; dropped = c.self.inside.dropped } in
    subst (λ u. IsNarrowMove u c.args.enter c.args.leave) c.self.view_is
    (narrow_at t c.args.enter c.args.leave (length c.self.inside.spare) c.find_row-row.result c.deref_mut.result.now c.self.invariant.sound c.self.invariant.spare_width c.deref_mut.ensures.value
    (row_found t c.deref.result.now c.args.leave c.find_row-row.result c.deref.ensures.value c.find_row-row.ensures.value) c.in-Ok.ensures.narrow)

-- the new fields are those of the changed table
new_is : (t : Table) (len row m_row enter : ℕ) (new old : List (List ℤ)) (dropped next : Bool) → length new ≡ len → row ≡ m_row → dropped ≡ next
    → ◌≡◌ {A = Table} (record { columns = t.columns; height = t.height; rows = take len (new ++ drop (length new) old); basis = set t.basis row enter; dropped = dropped }) (changed t new (set t.basis m_row enter) next)
new_is t len row m_row enter new old dropped next a b d =
    ap (λ rows. changed t rows (set t.basis row enter) dropped) (whole_written len new old a)
    ∙ ap (λ k. changed t new (set t.basis k enter) dropped) b
    ∙ ap (λ k. changed t new (set t.basis m_row enter) k) d

pub exchange_rows-requires-clause-written : goal.exchange_rows-requires-clause-written
exchange_rows-requires-clause-written c = c.self.invariant.written_width ∙ sym c.self.invariant.spare_width

pub returns-in-Ok-clause-sound : goal.returns-in-Ok-clause-sound
returns-in-Ok-clause-sound c =
    let t : Table = record { columns = c.self.inside.columns; height = c.self.inside.height; rows = c.self.inside.rows.items; basis = c.self.inside.basis.items; dropped = c.self.inside.dropped } in
    let m : IsNamed t c.args.enter c.args.leave = named t c.self.invariant.sound c.args.enter c.args.leave (subst (λ u. bland_move u ≡ Exchange c.args.enter c.args.leave) (sym c.self.view_is) c.requires) in
    let found : c.find_row-row.result ≡ m.row = row_found t c.deref.result.now c.args.leave c.find_row-row.result c.deref.ensures.value c.find_row-row.ensures.value ∙ m.row_is in
    let x : IsExchange (width t) (t.height + 1) (counted t c.args.leave) m.row c.args.enter (matrix c.exchange_rows.new.rows) =
    exchange_at t c.args.enter c.args.leave (length c.self.inside.spare) c.find_row-row.result c.deref_mut.result.now c.exchange_rows.new.rows m.row c.self.invariant.sound c.self.invariant.spare_width c.deref_mut.ensures.value found c.in-Ok.ensures.ok in
    let count : length c.exchange_rows.new.rows ≡ t.height + 1 = c.exchange_rows.auto.rows ∙ ap length c.deref_mut.ensures.value ∙ c.self.invariant.sound.row_count in
    let shape : IsRectangle (width t) c.exchange_rows.new.rows = subst (λ n. IsRectangle n c.exchange_rows.new.rows) c.self.invariant.spare_width c.exchange_rows.ensures.shape in
    let len : length c.exchange_rows.new.rows ≡ c.self.inside.rows.len = c.exchange_rows.auto.rows ∙ c.deref_mut.ensures.len in
    subst IsSound (sym (new_is t c.self.inside.rows.len c.find_row-row.result m.row c.args.enter c.exchange_rows.new.rows c.self.inside.rows.items c.either-self-inside.result c.either-self-inside.result len found refl))
    (sound_after t c.self.invariant.sound c.args.enter c.args.leave m c.exchange_rows.new.rows x c.either-self-inside.result count shape)

pub returns-in-Ok-clause-ok : goal.returns-in-Ok-clause-ok
returns-in-Ok-clause-ok c =
    let t : Table = record { columns = c.self.inside.columns; height = c.self.inside.height; rows = c.self.inside.rows.items; basis = c.self.inside.basis.items; dropped = c.self.inside.dropped } in
    let found : c.find_row-row.result ≡ row_of t c.args.leave = row_found t c.deref.result.now c.args.leave c.find_row-row.result c.deref.ensures.value c.find_row-row.ensures.value in
    let x : IsExchange (width t) (t.height + 1) (counted t c.args.leave) (row_of t c.args.leave) c.args.enter (matrix c.exchange_rows.new.rows) =
    exchange_at t c.args.enter c.args.leave (length c.self.inside.spare) c.find_row-row.result c.deref_mut.result.now c.exchange_rows.new.rows (row_of t c.args.leave) c.self.invariant.sound c.self.invariant.spare_width c.deref_mut.ensures.value found c.in-Ok.ensures.ok in
    let len : length c.exchange_rows.new.rows ≡ c.self.inside.rows.len = c.exchange_rows.auto.rows ∙ c.deref_mut.ensures.len in
    let after : IsExchanged t (changed t c.exchange_rows.new.rows (set t.basis (row_of t c.args.leave) c.args.enter) (t.dropped || c.args.leave == artificial t)) c.args.enter c.args.leave =
    record { columns = refl; height = refl; basis = refl; dropped = refl; rows = x } in
    subst (λ u. IsExchanged c.args.self.now u c.args.enter c.args.leave)
    (sym (new_is t c.self.inside.rows.len c.find_row-row.result (row_of t c.args.leave) c.args.enter c.exchange_rows.new.rows c.self.inside.rows.items c.either-self-inside.result (t.dropped || c.args.leave == artificial t) len found c.either-self-inside.ensures))
    (subst (λ u. IsExchanged u (changed t c.exchange_rows.new.rows (set t.basis (row_of t c.args.leave) c.args.enter) (t.dropped || c.args.leave == artificial t)) c.args.enter c.args.leave) c.self.view_is after)

pub returns-in-Ok-clause-tableau : goal.returns-in-Ok-clause-tableau
returns-in-Ok-clause-tableau c = λ equation tab.
    let t : Table = record { columns = c.self.inside.columns; height = c.self.inside.height; rows = c.self.inside.rows.items; basis = c.self.inside.basis.items; dropped = c.self.inside.dropped } in
    let m : IsNamed t c.args.enter c.args.leave = named t c.self.invariant.sound c.args.enter c.args.leave (subst (λ u. bland_move u ≡ Exchange c.args.enter c.args.leave) (sym c.self.view_is) c.requires) in
    let found : c.find_row-row.result ≡ m.row = row_found t c.deref.result.now c.args.leave c.find_row-row.result c.deref.ensures.value c.find_row-row.ensures.value ∙ m.row_is in
    let x : IsExchange (width t) (t.height + 1) (counted t c.args.leave) m.row c.args.enter (matrix c.exchange_rows.new.rows) =
    exchange_at t c.args.enter c.args.leave (length c.self.inside.spare) c.find_row-row.result c.deref_mut.result.now c.exchange_rows.new.rows m.row c.self.invariant.sound c.self.invariant.spare_width c.deref_mut.ensures.value found c.in-Ok.ensures.ok in
    let len : length c.exchange_rows.new.rows ≡ c.self.inside.rows.len = c.exchange_rows.auto.rows ∙ c.deref_mut.ensures.len in
    let before : IsTableauFor equation t = subst (λ u. IsTableauFor equation u) (sym c.self.view_is) tab in
    subst (λ u. IsTableauFor equation u)
    (sym (new_is t c.self.inside.rows.len c.find_row-row.result m.row c.args.enter c.exchange_rows.new.rows c.self.inside.rows.items c.either-self-inside.result (t.dropped || c.args.leave == artificial t) len found c.either-self-inside.ensures))
    (tableau_after t c.self.invariant.sound c.args.enter c.args.leave m c.exchange_rows.new.rows x equation before)

-- the entering column is one of each row
within_at : (t : Table) (enter : ℕ) (rows : List (List ℤ)) → IsSound t → enter < right t → rows ≡ t.rows → (i : ℕ) → i < length rows → enter < length (slice_index_or rows i [])
within_at t enter rows s l e = subst (λ rs. (i : ℕ) → i < length rs → enter < length (slice_index_or rs i [])) (sym e) (λ i p. let size = s.shape.each i p in omega arith)

-- the kept column is one of equal rows
kept_at : (t : Table) (enter kept_column : ℕ) (rows : List (List ℤ)) (column : List ℤ) → IsSound t → enter < right t → rows ≡ t.rows → (kept_column < width t → IsColumnOf (t.height + 1) kept_column (entry t) column) → kept_column ≡ enter → IsColumnOf (length rows) enter (matrix rows) column
kept_at t enter kept_column rows column s l e h same =
    let one : IsColumnOf (t.height + 1) enter (entry t) column = subst (λ j. IsColumnOf (t.height + 1) j (entry t) column) same (h (omega arith)) in
    let two : IsColumnOf (length t.rows) enter (matrix t.rows) column = subst (λ n. IsColumnOf n enter (matrix t.rows) column) (sym s.row_count) one in
    subst (λ rs. IsColumnOf (length rs) enter (matrix rs) column) (sym e) two

pub read_unless_kept-requires-clause-within : goal.read_unless_kept-requires-clause-within
read_unless_kept-requires-clause-within c =
    let t : Table = record { columns = c.self.inside.columns; height = c.self.inside.height; rows = c.self.inside.rows.items; basis = c.self.inside.basis.items; dropped = c.self.inside.dropped } in
    let m : IsNamed t c.args.enter c.args.leave = named t c.self.invariant.sound c.args.enter c.args.leave (subst (λ u. bland_move u ≡ Exchange c.args.enter c.args.leave) (sym c.self.view_is) c.requires) in
    within_at t c.args.enter c.deref-2.result.now c.self.invariant.sound m.enter_below c.deref-2.ensures.value

pub read_unless_kept-requires-clause-kept : goal.read_unless_kept-requires-clause-kept
read_unless_kept-requires-clause-kept c =
    let t : Table = record { columns = c.self.inside.columns; height = c.self.inside.height; rows = c.self.inside.rows.items; basis = c.self.inside.basis.items; dropped = c.self.inside.dropped } in
    let m : IsNamed t c.args.enter c.args.leave = named t c.self.invariant.sound c.args.enter c.args.leave (subst (λ u. bland_move u ≡ Exchange c.args.enter c.args.leave) (sym c.self.view_is) c.requires) in
    kept_at t c.args.enter c.self.inside.kept c.deref-2.result.now c.self.inside.column c.self.invariant.sound m.enter_below c.deref-2.ensures.value c.self.invariant.column_kept

pub invariant_of-self-in-Ok : goal.invariant_of-self-in-Ok
invariant_of-self-in-Ok c =
    let t : Table = record { columns = c.self.inside.columns; height = c.self.inside.height; rows = c.self.inside.rows.items; basis = c.self.inside.basis.items; dropped = c.self.inside.dropped } in
    let m : IsNamed t c.args.enter c.args.leave = named t c.self.invariant.sound c.args.enter c.args.leave (subst (λ u. bland_move u ≡ Exchange c.args.enter c.args.leave) (sym c.self.view_is) c.requires) in
    let found : c.find_row-row.result ≡ m.row = row_found t c.deref.result.now c.args.leave c.find_row-row.result c.deref.ensures.value c.find_row-row.ensures.value ∙ m.row_is in
    let x : IsExchange (width t) (t.height + 1) (counted t c.args.leave) m.row c.args.enter (matrix c.exchange_rows.new.rows) =
    exchange_at t c.args.enter c.args.leave (length c.self.inside.spare) c.find_row-row.result c.deref_mut.result.now c.exchange_rows.new.rows m.row c.self.invariant.sound c.self.invariant.spare_width c.deref_mut.ensures.value found c.in-Ok.ensures.ok in
    let count : length c.exchange_rows.new.rows ≡ t.height + 1 = c.exchange_rows.auto.rows ∙ ap length c.deref_mut.ensures.value ∙ c.self.invariant.sound.row_count in
    let shape : IsRectangle (width t) c.exchange_rows.new.rows = subst (λ n. IsRectangle n c.exchange_rows.new.rows) c.self.invariant.spare_width c.exchange_rows.ensures.shape in
    let len : length c.exchange_rows.new.rows ≡ c.self.inside.rows.len = c.exchange_rows.auto.rows ∙ c.deref_mut.ensures.len in
    let taken : take c.self.inside.rows.len (c.exchange_rows.new.rows ++ drop (length c.exchange_rows.new.rows) c.self.inside.rows.items) ≡ c.exchange_rows.new.rows = whole_written c.self.inside.rows.len c.exchange_rows.new.rows c.self.inside.rows.items len in
    let within = m.within in
    let place : c.find_row-row.result < length c.exchange_rows.new.rows = omega arith in
    let pivot : c.index.result.now ≡ slice_index_or c.exchange_rows.new.rows m.row [] =
    c.index.ensures ∙ ap (λ rs. slice_index_or rs c.find_row-row.result c.index.result.now) taken ∙ get_or_default c.exchange_rows.new.rows c.find_row-row.result c.index.result.now [] place ∙ ap (λ k. slice_index_or c.exchange_rows.new.rows k []) found in
    let long : length c.index.result.now ≡ width t = ap length pivot ∙ shape.each m.row (omega arith) in
    let column : length c.read_unless_kept.new.entering ≡ t.height + 1 = c.read_unless_kept.ensures.column.size ∙ ap length c.deref-2.ensures.value ∙ c.self.invariant.sound.row_count in
    let after : IsIndexAfter (width t) (t.height + 1) (words t) c.args.enter m.row (at c.index.result.now) (at c.read_unless_kept.new.entering) c.self.inside.index.items c.index_exchange.new.index =
    index_moved (length c.index.result.now) (length c.read_unless_kept.new.entering) (width t) (t.height + 1) (words t) c.args.enter c.find_row-row.result m.row (at c.index.result.now) (at c.read_unless_kept.new.entering) c.deref_mut-in-Ok.result.now c.self.inside.index.items c.index_exchange.new.index long column found c.deref_mut-in-Ok.ensures.value c.index_exchange.ensures in
    let entering : (i : ℕ) → i < t.height + 1 → at c.read_unless_kept.new.entering i ≡ entry t i c.args.enter =
    subst (λ n. (i : ℕ) → i < n → at c.read_unless_kept.new.entering i ≡ entry t i c.args.enter) c.self.invariant.sound.row_count
    (subst (λ rs. (i : ℕ) → i < length rs → at c.read_unless_kept.new.entering i ≡ matrix rs i c.args.enter) c.deref-2.ensures.value c.read_unless_kept.ensures.column.each) in
    let indexed : IsIndexOf (width t) (t.height + 1) (words t) (matrix c.exchange_rows.new.rows) c.index_exchange.new.index =
    index_after (width t) (t.height + 1) (words t) (c.args.leave == artificial t) (artificial t) (entry t) (matrix c.exchange_rows.new.rows) m.row c.args.enter (at c.index.result.now) (at c.read_unless_kept.new.entering) c.self.inside.index.items c.index_exchange.new.index c.self.invariant.indexed x
    (λ j. ap (λ xs. at xs j) pivot) entering after in
    let all : take c.self.inside.index.len (c.index_exchange.new.index ++ drop (length c.index_exchange.new.index) c.self.inside.index.items) ≡ c.index_exchange.new.index =
    whole_written c.self.inside.index.len c.index_exchange.new.index c.self.inside.index.items (c.index_exchange.auto.index ∙ c.deref_mut-in-Ok.ensures.len) in
    subst (λ u. IsSoundWith u c.exchange_rows.new.spare c.exchange_rows.new.written (take c.self.inside.index.len (c.index_exchange.new.index ++ drop (length c.index_exchange.new.index) c.self.inside.index.items)) c.read_unless_kept.new.entering (c.self.inside.columns + c.self.inside.height + 3) true) (sym (new_is t c.self.inside.rows.len c.find_row-row.result m.row c.args.enter c.exchange_rows.new.rows c.self.inside.rows.items c.either-self-inside.result c.either-self-inside.result len found refl))
    (record {
      sound = sound_after t c.self.invariant.sound c.args.enter c.args.leave m c.exchange_rows.new.rows x c.either-self-inside.result count shape;
      indexed = subst (λ ns. IsIndexOf (width t) (t.height + 1) (words t) (matrix c.exchange_rows.new.rows) ns) (sym all) indexed;
      narrow = c.exchange_rows.ensures.narrow_rows;
      spare_width = c.exchange_rows.ensures.spare ∙ c.self.invariant.spare_width;
      column_size = c.read_unless_kept.ensures.column.size ∙ ap length c.deref-2.ensures.value ∙ c.self.invariant.sound.row_count;
      column_kept = λ l. absurd (omega arith);
      feasible = λ e. record { each = feasible_after t c.self.invariant.sound c.args.enter c.args.leave m c.exchange_rows.new.rows x };
      written_width = c.exchange_rows.ensures.written ∙ c.self.invariant.spare_width;
    })

-- the index is one of equal rows
index_at : (t : Table) (enter : ℕ) (rows : List (List ℤ)) (index now : List ℕ) → IsSound t → enter < right t → rows ≡ t.rows → now ≡ index → IsIndexOf (width t) (t.height + 1) (words t) (entry t) index → IsIndexOf (enter + 1) (length rows) (words t) (matrix rows) now
index_at t enter rows index now s l e f h =
    let one : IsIndexOf (enter + 1) (t.height + 1) (words t) (entry t) index = index_below (enter + 1) (width t) (t.height + 1) (words t) (entry t) index (omega arith) h in
    let two : IsIndexOf (enter + 1) (length t.rows) (words t) (entry t) index = subst (λ r. IsIndexOf (enter + 1) r (words t) (entry t) index) (sym s.row_count) one in
    subst (λ ns. IsIndexOf (enter + 1) (length rows) (words t) (matrix rows) ns) (sym f)
    (subst (λ rs. IsIndexOf (enter + 1) (length rs) (words t) (matrix rs) index) (sym e) two)

pub read_unless_kept-requires-clause-index : goal.read_unless_kept-requires-clause-index
read_unless_kept-requires-clause-index c =
    let t : Table = record { columns = c.self.inside.columns; height = c.self.inside.height; rows = c.self.inside.rows.items; basis = c.self.inside.basis.items; dropped = c.self.inside.dropped } in
    let m : IsNamed t c.args.enter c.args.leave = named t c.self.invariant.sound c.args.enter c.args.leave (subst (λ u. bland_move u ≡ Exchange c.args.enter c.args.leave) (sym c.self.view_is) c.requires) in
    index_at t c.args.enter c.deref-2.result.now c.self.inside.index.items c.deref-3.result.now c.self.invariant.sound m.enter_below c.deref-2.ensures.value c.deref-3.ensures.value c.self.invariant.indexed
