-- A move keeps the tableau of its standard form.
use Rattle.std.proofs.Common.{◌≡◌, ◌+◌, ◌==◌, ◌||◌, ℕ, ℤ, Bool, List, set, sym, ap, ◌∙◌, subst}
use Rattle.int_linear.specs.Sums.{matrix}
use Rattle.simplex_rows.specs.Tableau.{IsExchange}
use Rattle.lp_frame.specs.Standard.{Standard}
use Rattle.exact_simplex.specs.Table.{Table, IsSound, IsTableauFor, width, artificial}
use Rattle.exact_simplex.specs.Equations.{IsTableauOf}
use Rattle.exact_simplex.specs.Exchange.{counted}
use Rattle.exact_simplex.specs.Run.{Pair, IsMoved}
use Rattle.exact_simplex.proofs.Named.{IsNamed, named}
use Rattle.exact_simplex.proofs.Sound.{tableau_after}
use Rattle.exact_simplex.proofs.Runs.{form_more}

same_table : (u : Table) (columns height : ℕ) (basis : List ℕ) (dropped : Bool) → u.columns ≡ columns → u.height ≡ height → u.basis ≡ basis → u.dropped ≡ dropped
    → ◌≡◌ {A = Table} (record { columns = columns; height = height; rows = u.rows; basis = basis; dropped = dropped }) u
same_table u columns height basis dropped a b c d =
    ap (λ x. record { columns = x; height = height; rows = u.rows; basis = basis; dropped = dropped }) (sym a)
    ∙ ap (λ x. record { columns = u.columns; height = x; rows = u.rows; basis = basis; dropped = dropped }) (sym b)
    ∙ ap (λ x. record { columns = u.columns; height = u.height; rows = u.rows; basis = x; dropped = dropped }) (sym c)
    ∙ ap (λ x. record { columns = u.columns; height = u.height; rows = u.rows; basis = u.basis; dropped = x }) (sym d)

moved_tableau : (t : Table) (pair : Pair) (u : Table) → IsSound t → IsMoved t pair u → (equation : ℕ → ℕ → ℤ) → IsTableauFor equation t → IsTableauFor equation u
moved_tableau t pair u s m equation tab =
    let n : IsNamed t pair.enter pair.leave = named t s pair.enter pair.leave m.named in
    let x : IsExchange (width t) (t.height + 1) (counted t pair.leave) n.row pair.enter (matrix u.rows) = subst (λ k. IsExchange (width t) (t.height + 1) (counted t pair.leave) k pair.enter (matrix u.rows)) n.row_is m.exchanged.rows in
    let b : u.basis ≡ set t.basis n.row pair.enter = m.exchanged.basis ∙ ap (λ k. set t.basis k pair.enter) n.row_is in
    subst (IsTableauFor equation) (same_table u t.columns t.height (set t.basis n.row pair.enter) (t.dropped || pair.leave == artificial t) m.exchanged.columns m.exchanged.height b m.exchanged.dropped)
    (tableau_after t s pair.enter pair.leave n u.rows x equation tab)

pub move_keeps_form : (form : Standard) (t : Table) (pair : Pair) (u : Table) → IsSound t → IsTableauOf form t → IsMoved t pair u → IsTableauOf form u
move_keeps_form form t pair u s tab m = form_more form t u pair m (moved_tableau t pair u s m) tab
