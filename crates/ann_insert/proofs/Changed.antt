-- Rows whose neighbours change: their Pids and distances stay, and one of them is linked back.
use Rattle.std.proofs.Common.{◌≡◌, ◌≢◌, ℕ, zero, suc, ◌+◌, ◌<◌, true, false, eqb, List, [], ◌∷◌, ◌++◌, ◌||◌, Bool, refl, sym, ap, ◌∙◌, arith, length, take, map, get_or, inl, inr, eqb-true, eq-eqb}
use Rattle.std.specs.List.{AllByRecursion}
use Rattle.std.proofs.lemmas.Bool.{false≢true, or_cases, ne_eqb, cases_eq}
use Rattle.std.proofs.lemmas.List.{take_more}
use Rattle.std.proofs.Math.ListN.{get_or-map}
use Rattle.ann_types.specs.Distance.{distance}
use Rattle.ann_types.specs.Order.{has, ascending}
use Rattle.ann_types.specs.Graph.{apart_in}
use Rattle.ann_types.specs.Kept.{Rule, within}
use Rattle.ann_types.specs.Put.{linked_back}
use Rattle.ann_types.proofs.Ordered.{has_append, in_order_same}
use Rattle.ann_types.proofs.Sets.{Rises, ascending_rises, rises_push, all_append}
use Rattle.ann_types.proofs.Renamed.{IsRise, Below, ascending_map, within_map}
use Rattle.ann_types.proofs.Rowed.{pids_rise_at}
use Rattle.ann_types.specs.declared.params.Params.{Params}
use Rattle.ann_table.specs.Node.{Node, nothing, node_at, row_pid, row_pids, apart_rows, point_of, graph_of, linked}
use Rattle.ann_table.specs.Table.{AreNodes}
use Rattle.ann_table.proofs.Sound.{length_linked, at_linked_same, at_linked_other, vector_linked, pids_linked}
use Rattle.ann_table.proofs.Graphs.{pid_is, length_points, rises_are, apart_is}
use Rattle.ann_insert.specs.Back.{AreApart, AreSameButLinks, AreLinkedBack}

-- ---- Pids and distances

pub row_pid_is : (nodes : List Node) (row : ℕ) → get_or (row_pids nodes) row 0 ≡ row_pid nodes row
row_pid_is nodes row = get_or-map (λ (x : Node). x.pid) nodes row nothing

-- Pids rise with the rows.
pub pids_rise : (params : Params) (nodes : List Node) → AreNodes params nodes → IsRise (row_pid nodes) (length nodes)
pids_rise params nodes sound r s l m =
    let size = length_points nodes in
    let up = pids_rise_at (graph_of nodes).points (rises_are params nodes sound) r s l (omega arith) in
    let at_r = pid_is nodes r in
    let at_s = pid_is nodes s in
    omega arith

-- the distances between the points of these rows, by Pids
abbrev pub apart_of : List Node → ℕ → ℕ → ℕ
apart_of nodes = apart_in (graph_of nodes).points

pub apart_of_is : (params : Params) (nodes : List Node) → AreNodes params nodes → AreApart (apart_of nodes) nodes
apart_of_is params nodes sound = apart_is params nodes sound

pub same_pid : (old now : List Node) (row : ℕ) → row_pids now ≡ row_pids old → row_pid now row ≡ row_pid old row
same_pid old now row same = sym (row_pid_is now row) ∙ ap (λ t. get_or t row 0) same ∙ row_pid_is old row

pub apart_same : (apart : ℕ → ℕ → ℕ) (old now : List Node) → AreSameButLinks old now → AreApart apart old → AreApart apart now
apart_same apart old now same are r s l m =
    let count = same.count in
    ap (λ p. apart p (row_pid now s)) (same_pid old now r same.pids)
    ∙ ap (apart (row_pid old r)) (same_pid old now s same.pids)
    ∙ are r s (omega arith) (omega arith)
    ∙ sym (ap (λ v. distance v (node_at now s).vector) (same.vectors r) ∙ ap (distance (node_at old r).vector) (same.vectors s))

pub rise_same : (old now : List Node) → AreSameButLinks old now → IsRise (row_pid old) (length old) → IsRise (row_pid now) (length now)
rise_same old now same rise r s l m =
    let count = same.count in
    let up = rise r s l (omega arith) in
    let at_r = same_pid old now r same.pids in
    let at_s = same_pid old now s same.pids in
    omega arith

pub map_same_pid : (old now : List Node) (rows : List ℕ) → row_pids now ≡ row_pids old → map (row_pid now) rows ≡ map (row_pid old) rows
map_same_pid old now [] same = refl
map_same_pid old now (r ∷ rows) same = ap (λ p. p ∷ map (row_pid now) rows) (same_pid old now r same) ∙ ap (λ t. row_pid old r ∷ t) (map_same_pid old now rows same)

-- ---- nothing changed, and one row's neighbours changed

pub same_none : (nodes : List Node) → AreSameButLinks nodes nodes
same_none nodes = record { count = refl; pids = refl; vectors = λ row. refl }

pub same_linked : (old now : List Node) (row : ℕ) (links : List ℕ) (newer : ℕ) → row < length old → AreSameButLinks old now → AreSameButLinks old (linked now row links newer)
same_linked old now row links newer l same =
    let count = same.count in
    record {
      count = length_linked now row links newer ∙ same.count;
      pids = pids_linked now row links newer ∙ same.pids;
      vectors = λ r. vector_linked now row r links newer (omega arith) ∙ same.vectors r;
    }

-- ---- neighbours with a new one behind them

or_turned : (p q : Bool) → (p || q) ≡ (q || (p || false))
or_turned true true = refl
or_turned true false = refl
or_turned false true = refl
or_turned false false = refl

pub ascending_push : (links : List ℕ) (new : ℕ) → Rises links → AllByRecursion (λ other. other < new) links → ascending (new ∷ links) ≡ links ++ new ∷ []
ascending_push links new rises below =
    in_order_same (λ _. 0) (new ∷ links) (links ++ new ∷ []) (λ z. or_turned (eqb z new) (has links z) ∙ sym (has_append links (new ∷ []) z))
    ∙ ascending_rises (links ++ new ∷ []) (rises_push links new rises below)

pub wider_below : (m n : ℕ) (xs : List ℕ) → m < n → AllByRecursion (λ x. x < m) xs → Below n xs
wider_below m n [] l a = tt
wider_below m n (x ∷ xs) l (h, a) = (omega arith, wider_below m n xs l a)

-- what a row has as neighbours with a new one, by Pids
pub back_links : (rule : Rule) (apart : ℕ → ℕ → ℕ) (nodes : List Node) (row new : ℕ) (links : List ℕ) → IsRise (row_pid nodes) (length nodes) → AreApart apart nodes → row < length nodes → new < length nodes → Rises links → AllByRecursion (λ other. other < new) links → map (row_pid nodes) (within rule (apart_rows nodes) row (links ++ new ∷ [])) ≡ within rule apart (row_pid nodes row) (ascending (row_pid nodes new ∷ map (row_pid nodes) links))
back_links rule apart nodes row new links rise are l m rises below =
    let n : ℕ = length nodes in
    let inside : Below n links = wider_below new n links m below in
    sym (within_map (row_pid nodes) n rise rule (apart_rows nodes) apart are row (links ++ new ∷ []) l (all_append (λ r. r < n) links (new ∷ []) inside (m, tt)))
    ∙ ap (λ t. within rule apart (row_pid nodes row) (map (row_pid nodes) t)) (sym (ascending_push links new rises below))
    ∙ ap (within rule apart (row_pid nodes row)) (sym (ascending_map (row_pid nodes) n rise (new ∷ links) (m, inside)))

-- ---- one row more is linked back

above_at : (x : ℕ) (xs : List ℕ) (i d : ℕ) → AllByRecursion (λ y. x < y) xs → i < length xs → x < get_or xs i d
above_at x [] i d a l = absurd (omega arith)
above_at x (y ∷ xs) zero d (h, a) l = h
above_at x (y ∷ xs) (suc i) d (h, a) l = above_at x xs i d a (omega arith)

-- a rising list has a member once
pub not_yet : (xs : List ℕ) (i d : ℕ) → Rises xs → i < length xs → has (take i xs) (get_or xs i d) ≡ false
not_yet [] i d r l = absurd (omega arith)
not_yet (x ∷ xs) zero d r l = refl
not_yet (x ∷ xs) (suc i) d (a, r) l =
    ap (λ t. t || has (take i xs) (get_or xs i d)) (ne_eqb (get_or xs i d) x (λ e. let above = above_at x xs i d a (omega arith) in omega arith))
    ∙ not_yet xs i d r (omega arith)

has_next : (xs : List ℕ) (i d z : ℕ) → i < length xs → has (take (i + 1) xs) z ≡ (has (take i xs) z || (eqb z (get_or xs i d) || false))
has_next xs i d z l = ap (λ t. has t z) (take_more xs i d l) ∙ has_append (take i xs) (get_or xs i d ∷ []) z

or_none : (p q : Bool) → (p || (q || false)) ≡ false → (p ≡ false) × (q ≡ false)
or_none true q e = absurd (false≢true (sym e))
or_none false true e = absurd (false≢true (sym e))
or_none false false e = (refl, refl)

not_same : (z x : ℕ) → eqb z x ≡ false → z ≢ x
not_same z x e s = false≢true (sym e ∙ eq-eqb z x s)

pub none_linked : (rule : Rule) (apart : ℕ → ℕ → ℕ) (new : ℕ) (nodes : List Node) → AreLinkedBack rule apart new [] nodes nodes
none_linked rule apart new nodes = record { linked = λ row l h. absurd (false≢true h); others = λ row l h. refl }

pub one_linked : (rule : Rule) (apart : ℕ → ℕ → ℕ) (new : ℕ) (rows : List ℕ) (i d : ℕ) (old now : List Node) (newer : ℕ) → IsRise (row_pid old) (length old) → AreApart apart old → AreSameButLinks old now → new < length old → i < length rows → get_or rows i d < length old → Rises rows → Rises (node_at old (get_or rows i d)).links → AllByRecursion (λ other. other < new) (node_at old (get_or rows i d)).links → AreLinkedBack rule apart new (take i rows) old now → AreLinkedBack rule apart new (take (i + 1) rows) old (linked now (get_or rows i d) (within rule (apart_rows now) (get_or rows i d) ((node_at now (get_or rows i d)).links ++ new ∷ [])) newer)
one_linked rule apart new rows i d old now newer rise are same inside_new within_rows inside rises rises_links below back =
    let row : ℕ = get_or rows i d in
    let count = same.count in
    let links : List ℕ = within rule (apart_rows now) row ((node_at now row).links ++ new ∷ []) in
    let stayed : node_at now row ≡ node_at old row = back.others row inside (not_yet rows i d rises within_rows) in
    let by_pids : map (row_pid old) links ≡ within rule apart (row_pid old row) (ascending (row_pid old new ∷ map (row_pid old) (node_at old row).links)) =
    sym (map_same_pid old now links same.pids)
    ∙ ap (λ (x : Node). map (row_pid now) (within rule (apart_rows now) row (x.links ++ new ∷ []))) stayed
    ∙ back_links rule apart now row new (node_at old row).links (rise_same old now same rise) (apart_same apart old now same are) (omega arith) (omega arith) rises_links below
    ∙ ap (λ p. within rule apart p (ascending (row_pid now new ∷ map (row_pid now) (node_at old row).links))) (same_pid old now row same.pids)
    ∙ ap (λ p. within rule apart (row_pid old row) (ascending (p ∷ map (row_pid now) (node_at old row).links))) (same_pid old now new same.pids)
    ∙ ap (λ t. within rule apart (row_pid old row) (ascending (row_pid old new ∷ t))) (map_same_pid old now (node_at old row).links same.pids) in
    record {
      linked = λ z l h. elim (cases_eq z row) [
        | inl is ↦
            ap (λ r. point_of old (node_at (linked now row links newer) r)) is
            ∙ ap (point_of old) (at_linked_same now row links newer (omega arith))
            ∙ ap (λ (x : Node). point_of old (record x { links = links; newer = newer })) stayed
            ∙ ap (λ t. record (point_of old (node_at old row)) { links = t }) by_pids
            ∙ ap (λ r. linked_back rule apart (row_pid old new) (point_of old (node_at old r))) (sym is)
        | inr other ↦
            ap (point_of old) (at_linked_other now row z links newer other)
            ∙ back.linked z l (elim (or_cases (has (take i rows) z) (eqb z row || false) (sym (has_next rows i d z within_rows) ∙ h)) [
              | inl there ↦ there
              | inr last ↦ absurd (elim (or_cases (eqb z row) false last) [ inl e ↦ other (eqb-true z row e) | inr e ↦ false≢true e ])
            ])
      ];
      others = λ z l h.
          let none = or_none (has (take i rows) z) (eqb z row) (sym (has_next rows i d z within_rows) ∙ h) in
          at_linked_other now row z links newer (not_same z row none.1) ∙ back.others z l none.0;
    }
