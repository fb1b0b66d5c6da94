-- One log comes to one tableau.
use Rattle.std.proofs.Common.{◌≡◌, ◌<◌, ◌+◌, ◌==◌, ℕ, zero, suc, ℤ, pos, cond, List, [], ◌∷◌, length, get_or, refl, sym, ap, ◌∙◌, subst, arith}
use Rattle.int_linear.specs.Sums.{matrix}
use Rattle.simplex_rows.specs.Matrix.{IsRectangle}
use Rattle.simplex_rows.proofs.Unique.{unique_tableau}
use Rattle.lp_frame.specs.declared.force.Force.{Force}
use Rattle.lp_frame.specs.Standard.{standard_of}
use Rattle.exact_simplex.specs.Table.{Table, IsSound, IsTableauFor, in_force, unit, width, entry, basic}
use Rattle.exact_simplex.specs.Equations.{equation_of}
use Rattle.exact_simplex.specs.Run.{Pair, IsMoved}
use Rattle.settling.specs.Worked.{IsFirstOf}
use Rattle.search_rules.specs.Claims.{IsReached}
use Rattle.search_rules.proofs.Moves.{moved_reached}

-- lists of one length that agree place by place are the same
pub same_list : {X : Type 0} (d : X) (xs ys : List X) → length xs ≡ length ys → ((k : ℕ) → k < length xs → get_or xs k d ≡ get_or ys k d) → xs ≡ ys
same_list d [] [] l h = refl
same_list d [] (y ∷ ys) l h = absurd (omega arith)
same_list d (x ∷ xs) [] l h = absurd (omega arith)
same_list d (x ∷ xs) (y ∷ ys) l h =
    let e : x ≡ y = h zero (omega arith) in
    let f : xs ≡ ys = same_list d xs ys (omega arith) (λ k p. h (suc k) (omega arith)) in
    ap (λ z. z ∷ xs) e ∙ ap (λ zs. y ∷ zs) f

-- so are rectangles that agree entry by entry
same_rows : (n : ℕ) (xs ys : List (List ℤ)) → IsRectangle n xs → IsRectangle n ys → length xs ≡ length ys → ((i j : ℕ) → i < length xs → j < n → matrix xs i j ≡ matrix ys i j) → xs ≡ ys
same_rows n xs ys a b l h =
    same_list [] xs ys l (λ k p.
    let x : length (get_or xs k []) ≡ n = a.each k p in
    let y : length (get_or ys k []) ≡ n = b.each k (omega arith) in
    same_list (pos 0) (get_or xs k []) (get_or ys k []) (omega arith) (λ j q. h k j p (omega arith)))

same_fields : (t u : Table) → t.columns ≡ u.columns → t.height ≡ u.height → t.rows ≡ u.rows → t.basis ≡ u.basis → t.dropped ≡ u.dropped → t ≡ u
same_fields t u a b c d e =
    ap (λ x. record { columns = x; height = t.height; rows = t.rows; basis = t.basis; dropped = t.dropped }) a
    ∙ ap (λ x. record { columns = u.columns; height = x; rows = t.rows; basis = t.basis; dropped = t.dropped }) b
    ∙ ap (λ x. record { columns = u.columns; height = u.height; rows = x; basis = t.basis; dropped = t.dropped }) c
    ∙ ap (λ x. record { columns = u.columns; height = u.height; rows = u.rows; basis = x; dropped = t.dropped }) d
    ∙ ap (λ x. record { columns = u.columns; height = u.height; rows = u.rows; basis = u.basis; dropped = x }) e

-- a force has one first tableau
pub first_same : (force : Force) (t u : Table) → IsFirstOf force t → IsFirstOf force u → t ≡ u
first_same force t u a b =
    let c : t.columns ≡ u.columns = a.first.columns ∙ sym b.first.columns in
    let h : t.height ≡ u.height = a.first.height ∙ sym b.first.height in
    let w : width t ≡ width u = omega arith in
    let rows : t.rows ≡ u.rows =
    same_rows (width t) t.rows u.rows a.sound.shape (subst (λ n. IsRectangle n u.rows) (sym w) b.sound.shape) (let x = a.sound.row_count in let y = b.sound.row_count in omega arith)
    (λ i j p q. let x = a.sound.row_count in a.first.rows i j (omega arith) q ∙ sym (b.first.rows i j (omega arith) (omega arith))) in
    let units : (k : ℕ) → unit t k ≡ unit u k = λ k. ap (λ (n : ℕ). cond (k == n) (t.columns + n + 2) (t.columns + k)) h ∙ ap (λ (n : ℕ). cond (k == u.height) (n + u.height + 2) (n + k)) c in
    let basis : t.basis ≡ u.basis =
    same_list 0 t.basis u.basis (let x = a.sound.basis_count in let y = b.sound.basis_count in omega arith)
    (λ k p. let x = a.sound.basis_count in a.first.basis k (omega arith) ∙ units k ∙ sym (b.first.basis k (omega arith))) in
    same_fields t u c h rows basis (a.first.dropped ∙ sym b.first.dropped)

-- two tableaus of one form with one basis are the same
reached_same : (force : Force) (t u : Table) → IsReached force t → IsReached force u → t.columns ≡ u.columns → t.height ≡ u.height → t.basis ≡ u.basis → t.dropped ≡ u.dropped → t ≡ u
reached_same force t u a b c h bs d =
    let w : width t ≡ width u = omega arith in
    let v : Table = record { columns = t.columns; height = t.height; rows = u.rows; basis = t.basis; dropped = t.dropped } in
    let e : u ≡ v = sym (same_fields v u c h refl bs d) in
    let x : IsTableauFor (equation_of (standard_of force)) v = subst (IsTableauFor (equation_of (standard_of force))) e b.form.tableau in
    let s : IsSound v = subst IsSound e b.sound in
    let rows : t.rows ≡ u.rows =
    same_rows (width t) t.rows u.rows a.sound.shape s.shape (let p = a.sound.row_count in let q = s.row_count in omega arith)
    (λ i j p q. unique_tableau (width t) (t.height + 1) (in_force t (equation_of (standard_of force))) (unit t) (basic t) (entry t) (matrix u.rows) a.form.tableau x i j (let r = a.sound.row_count in omega arith) q) in
    same_fields t u c h rows bs d

-- a move leads to one tableau
pub moved_same : (force : Force) (t : Table) (pair : Pair) (u v : Table) → IsReached force t → IsMoved t pair u → IsMoved t pair v → u ≡ v
moved_same force t pair u v r a b =
    reached_same force u v (moved_reached force t pair u r a) (moved_reached force t pair v r b)
    (a.exchanged.columns ∙ sym b.exchanged.columns) (a.exchanged.height ∙ sym b.exchanged.height) (a.exchanged.basis ∙ sym b.exchanged.basis) (a.exchanged.dropped ∙ sym b.exchanged.dropped)
