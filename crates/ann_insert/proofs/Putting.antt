-- A row added, linked to what it keeps, and each of these linked back: the graph is the one with the point put into it.
use Rattle.std.proofs.Common.{◌≡◌, ℕ, suc, ◌+◌, ◌<◌, true, false, cond, List, [], ◌∷◌, ◌++◌, refl, sym, ap, ◌∙◌, subst, arith, length, map, get_or, inl, inr, unwrap_or}
use Rattle.std.specs.Prelude.{Option, Some, None}
use Rattle.std.specs.List.{All, AllByRecursion}
use Rattle.std.proofs.lemmas.Bool.{cases_lt}
use Rattle.std.proofs.lemmas.List.{length-map, length-append, map-append, get_or_append_left, get_or_default, same_lists}
use Rattle.std.proofs.lemmas.List.Elements.{recursion_from_All, All-from_recursion}
use Rattle.std.proofs.Math.ListN.{get_or-map}
use Rattle.std.proofs.Math.Seq.{get_or-append_seam}
use Rattle.ann_types.specs.Order.{has}
use Rattle.ann_types.specs.Graph.{Point, apart_in, visited}
use Rattle.ann_types.specs.Kept.{Rule, rule_of, kept}
use Rattle.ann_types.specs.Put.{alone, linked_back, put}
use Rattle.ann_types.proofs.Sets.{none_from_below}
use Rattle.ann_types.proofs.Renamed.{Below, has_map, kept_map, below_kept}
use Rattle.ann_types.specs.declared.params.Params.{Params}
use Rattle.ann_greedy.specs.Rows.{visited_rows}
use Rattle.ann_table.specs.Node.{Node, nothing, node_at, row_pid, row_pids, rows_of, first_row, apart_rows, point_of, graph_of, first_pid, linked}
use Rattle.ann_table.specs.Table.{AreNodes}
use Rattle.ann_table.proofs.Sound.{at_linked_same, at_linked_other}
use Rattle.ann_table.proofs.Graphs.{apart_is, visited_is}
use Rattle.ann_insert.specs.Back.{IsBehind, AreApart, AreSameButLinks, AreLinkedBack}
use Rattle.ann_insert.proofs.Changed.{pids_rise, same_pid, apart_same, map_same_pid, same_none, same_linked, wider_below}

map_all : {A B : Type 0} (P : A → Type 0) (f g : A → B) (xs : List A) → AllByRecursion P xs → ((x : A) → P x → f x ≡ g x) → map f xs ≡ map g xs
map_all P f g [] a same = refl
map_all P f g (x ∷ xs) (h, a) same = ap (λ y. y ∷ map f xs) (same x h) ∙ ap (λ t. g x ∷ t) (map_all P f g xs a same)

all_rows : (P : Node → Type 0) (nodes : List Node) → ((row : ℕ) → row < length nodes → P (node_at nodes row)) → AllByRecursion P nodes
all_rows P [] each = tt
all_rows P (x ∷ nodes) each = (each 0 (omega arith), all_rows P nodes (λ row l. each (suc row) (omega arith)))

all_below : (n : ℕ) (xs : List ℕ) (P : ℕ → Type 0) → Below n xs → ((x : ℕ) → x < n → P x) → AllByRecursion P xs
all_below n [] P below each = tt
all_below n (x ∷ xs) P (h, below) each = (each x h, all_below n xs P below each)

-- ---- a row more

module _ (nodes : List Node) (x : Node) where
  abbrev more : List Node
  more = nodes ++ x ∷ []

  pub pid_added : (row : ℕ) → row < length nodes → row_pid more row ≡ row_pid nodes row
  pid_added row l = ap (λ (y : Node). y.pid) (get_or_append_left nodes (x ∷ []) nothing row l)

  pub pids_added : (rows : List ℕ) → Below (length nodes) rows → map (row_pid more) rows ≡ map (row_pid nodes) rows
  pids_added rows below = map_all (λ row. row < length nodes) (row_pid more) (row_pid nodes) rows below pid_added

  pub point_added : (y : Node) → All (λ other. other < length nodes) y.links → point_of more y ≡ point_of nodes y
  point_added y inside = ap (λ t. record { pid = y.pid; tag = y.tag; vector = y.vector; links = t }) (pids_added y.links (recursion_from_All (λ other. other < length nodes) y.links inside))

  pub points_added : (params : Params) → AreNodes params nodes → (graph_of more).points ≡ (graph_of nodes).points ++ point_of more x ∷ []
  points_added params sound =
      map-append (point_of more) nodes (x ∷ [])
      ∙ ap (λ t. t ++ point_of more x ∷ []) (map_all (λ (y : Node). All (λ other. other < length nodes) y.links) (point_of more) (point_of nodes) nodes
      (all_rows (λ (y : Node). All (λ other. other < length nodes) y.links) nodes (λ row l. (sound.each row l).links.inside)) point_added)

abbrev first_number : List ℕ → Option ℕ
first_number [] = None
first_number (p ∷ ps) = Some p

first_is : (nodes : List Node) → first_number (row_pids nodes) ≡ first_pid nodes
first_is [] = refl
first_is (x ∷ nodes) = refl

first_added : (nodes : List Node) (pid : ℕ) → first_number (row_pids nodes ++ pid ∷ []) ≡ Some (unwrap_or (first_pid nodes) pid)
first_added [] pid = refl
first_added (x ∷ nodes) pid = refl

-- ---- the graph with a point put into it

module _ (params : Params) (nodes : List Node) (pid tag : ℕ) (vector : List ℕ) (sound : AreNodes params nodes) where
  abbrev node : Node
  node = record { pid = pid; tag = tag; vector = vector; links = []; newer = 0 }

  abbrev added : List Node
  added = nodes ++ node ∷ []

  abbrev new : ℕ
  new = length nodes

  abbrev rule : Rule
  rule = rule_of params

  abbrev apart : ℕ → ℕ → ℕ
  apart = apart_in ((graph_of nodes).points ++ alone pid tag vector ∷ [])

  abbrev near : List ℕ
  near = visited_rows (rows_of params nodes) vector params.l_build (first_row nodes)

  abbrev out : List ℕ
  out = kept rule (apart_rows added) new near

  abbrev out_pids : List ℕ
  out_pids = kept rule apart pid (visited (graph_of nodes) vector params.l_build)

  abbrev back : Point → Point
  back x = cond (has out_pids x.pid) (linked_back rule apart pid x) x

  size : length added ≡ length nodes + 1
  size = length-append nodes (node ∷ [])

  new_pid : row_pid added new ≡ pid
  new_pid = ap (λ (y : Node). y.pid) (get_or-append_seam nodes node [] nothing)

  module _ (sound_added : AreNodes params added) (near_below : Below new near) where
    are_apart : AreApart apart added
    are_apart r s l m =
        ap (λ ps. apart_in ps (row_pid added r) (row_pid added s)) (sym (points_added nodes node params sound))
        ∙ apart_is params added sound_added r s l m

    near_inside : Below (length added) near
    near_inside = wider_below new (length added) near (let more = size in omega arith) near_below

    out_is : out_pids ≡ map (row_pid added) out
    out_is =
        ap (kept rule apart pid) (visited_is params nodes vector params.l_build sound ∙ sym (pids_added nodes node near near_below))
        ∙ ap (λ p. kept rule apart p (map (row_pid added) near)) (sym new_pid)
        ∙ kept_map (row_pid added) (length added) (pids_rise params added sound_added) rule (apart_rows added) apart are_apart new near (let more = size in omega arith) near_inside

    out_below : Below new out
    out_below = below_kept (λ r. r) new (λ r s l m. l) rule (apart_rows added) (apart_rows added) (λ r s l m. refl) new near near_below

    module _ (newer : ℕ) (now : List Node) (same : AreSameButLinks (linked added new out newer) now) (linking : AreLinkedBack rule apart new out (linked added new out newer) now) where
      abbrev first : List Node
      first = linked added new out newer

      new_in : new < length added
      new_in = let more = size in omega arith

      first_same : AreSameButLinks added first
      first_same = same_linked added added new out newer new_in (same_none added)

      pids_now : row_pids now ≡ row_pids added
      pids_now = same.pids ∙ first_same.pids

      -- a point by its rows is the same by the Pids of any of these lists
      point_first : (y : Node) → point_of first y ≡ point_of added y
      point_first y = ap (λ t. record { pid = y.pid; tag = y.tag; vector = y.vector; links = t }) (map_same_pid added first y.links first_same.pids)

      point_now : (y : Node) → point_of now y ≡ point_of first y
      point_now y = ap (λ t. record { pid = y.pid; tag = y.tag; vector = y.vector; links = t }) (map_same_pid first now y.links same.pids)

      count_now : length now ≡ length nodes + 1
      count_now = same.count ∙ first_same.count ∙ size

      -- an old row, before the new one was linked back
      old_first : (row : ℕ) → row < new → node_at first row ≡ node_at nodes row
      old_first row l = at_linked_other added new row out newer (λ e. omega arith) ∙ get_or_append_left nodes (node ∷ []) nothing row l

      old_point : (row : ℕ) → row < new → point_of first (node_at nodes row) ≡ point_of nodes (node_at nodes row)
      old_point row l = point_first (node_at nodes row) ∙ point_added nodes node (node_at nodes row) (sound.each row l).links.inside

      first_new_pid : row_pid first new ≡ pid
      first_new_pid = same_pid added first new first_same.pids ∙ new_pid

      has_out : (row : ℕ) → row < new → has out_pids (row_pid nodes row) ≡ has out row
      has_out row l =
          ap (λ t. has t (row_pid nodes row)) out_is
          ∙ ap (has (map (row_pid added) out)) (sym (pid_added nodes node row l))
          ∙ has_map (row_pid added) (length added) (pids_rise params added sound_added) out row (wider_below new (length added) out new_in out_below) (let more = size in omega arith)

      old_is : (row : ℕ) → row < new → point_of now (node_at now row) ≡ back (point_of nodes (node_at nodes row))
      old_is row l =
          let inside : row < length first = (let more = size in let count = first_same.count in omega arith) in
          point_now (node_at now row)
          ∙ elim (has out row) as (λ t. has out row ≡ t → point_of first (node_at now row) ≡ cond t (linked_back rule apart pid (point_of nodes (node_at nodes row))) (point_of nodes (node_at nodes row))) [
            | true ↦ λ e.
                linking.linked row inside e
                ∙ ap (λ p. linked_back rule apart p (point_of first (node_at first row))) first_new_pid
                ∙ ap (λ (y : Node). linked_back rule apart pid (point_of first y)) (old_first row l)
                ∙ ap (linked_back rule apart pid) (old_point row l)
            | false ↦ λ e. ap (point_of first) (linking.others row inside e ∙ old_first row l) ∙ old_point row l
          ] refl
          ∙ ap (λ t. cond t (linked_back rule apart pid (point_of nodes (node_at nodes row))) (point_of nodes (node_at nodes row))) (sym (has_out row l))

      abbrev new_point : Point
      new_point = record { pid = pid; tag = tag; vector = vector; links = out_pids }

      new_is : point_of now (node_at now new) ≡ new_point
      new_is =
          let inside : new < length first = (let more = size in let count = first_same.count in omega arith) in
          point_now (node_at now new)
          ∙ ap (point_of first) (linking.others new inside (none_from_below new new out out_below (omega arith)) ∙ at_linked_same added new out newer new_in ∙ ap (λ (y : Node). record y { links = out; newer = newer }) (get_or-append_seam nodes node [] nothing))
          ∙ ap (λ t. record { pid = pid; tag = tag; vector = vector; links = t }) (map_same_pid added first out first_same.pids ∙ sym out_is)

      abbrev put_points : List Point
      put_points = map back (graph_of nodes).points ++ new_point ∷ []

      length_back : length (map back (graph_of nodes).points) ≡ length nodes
      length_back = length-map (graph_of nodes).points back ∙ length-map nodes (point_of nodes)

      put_old : (row : ℕ) → row < new → get_or put_points row (back (point_of nodes nothing)) ≡ back (point_of nodes (node_at nodes row))
      put_old row l =
          get_or_append_left (map back (graph_of nodes).points) (new_point ∷ []) (back (point_of nodes nothing)) row (let count = length_back in omega arith)
          ∙ get_or-map back (graph_of nodes).points row (point_of nodes nothing)
          ∙ ap back (get_or-map (point_of nodes) nodes row nothing)

      put_new : (d : Point) → get_or put_points new d ≡ new_point
      put_new d = ap (λ n. get_or put_points n d) (sym length_back) ∙ get_or-append_seam (map back (graph_of nodes).points) new_point [] d

      length_put : length put_points ≡ length nodes + 1
      length_put = length-append (map back (graph_of nodes).points) (new_point ∷ []) ∙ ap (λ n. n + 1) length_back

      points_now : (graph_of now).points ≡ put_points
      points_now =
          let count = count_now in
          let many = length_put in
          let points = length-map now (point_of now) in
          same_lists (graph_of now).points put_points (omega arith) (λ row d l.
          let inside : row < length put_points = omega arith in
          get_or_default (graph_of now).points row d (point_of now nothing) l
          ∙ get_or-map (point_of now) now row nothing
          ∙ elim (cases_lt row new) [
            | inl old ↦ old_is row old ∙ sym (put_old row old) ∙ get_or_default put_points row (back (point_of nodes nothing)) d inside
            | inr last ↦ (
                let is : row ≡ new = omega arith in
                ap (λ r. point_of now (node_at now r)) is ∙ new_is ∙ sym (put_new d) ∙ ap (λ r. get_or put_points r d) (sym is))
          ])

      entry_now : (graph_of now).entry ≡ Some (unwrap_or (graph_of nodes).entry pid)
      entry_now = sym (first_is now) ∙ ap first_number (pids_now ∙ map-append (λ (y : Node). y.pid) nodes (node ∷ [])) ∙ first_added nodes pid

      pub put_is : graph_of now ≡ put params (graph_of nodes) pid tag vector
      unfolding put
      put_is = ap (λ (e : Option ℕ). record { entry = e; points = (graph_of now).points }) entry_now ∙ ap (λ (ps : List Point). record { entry = Some (unwrap_or (graph_of nodes).entry pid); points = ps }) points_now

    -- the same for lists that are known to be these
    module _ (row : ℕ) (row_is : row ≡ new) (seen : List ℕ) (seen_is : seen ≡ near) (rows : List Node) (rows_are : rows ≡ added) (own : List ℕ) (own_is : own ≡ kept rule (apart_rows rows) row seen) (newer : ℕ) (linked_rows : List Node) (linked_are : linked_rows ≡ linked rows row own newer) where
      own_out : own ≡ out
      own_out =
          own_is
          ∙ ap (λ ns. kept rule (apart_rows ns) row seen) rows_are
          ∙ ap (λ r. kept rule (apart_rows added) r seen) row_is
          ∙ ap (kept rule (apart_rows added) new) seen_is

      linked_first : linked_rows ≡ linked added new out newer
      linked_first =
          linked_are
          ∙ ap (λ ns. linked ns row own newer) rows_are
          ∙ ap (λ r. linked added r own newer) row_is
          ∙ ap (λ t. linked added new t newer) own_out

      apart_first : AreApart apart linked_rows
      apart_first = subst (AreApart apart) (sym linked_first) (apart_same apart added (linked added new out newer) (same_linked added added new out newer (let more = size in omega arith) (same_none added)) are_apart)

      pub put_from : (now : List Node) → AreSameButLinks linked_rows now → ((apart : ℕ → ℕ → ℕ) → AreApart apart linked_rows → AreLinkedBack rule apart row own linked_rows now) → graph_of now ≡ put params (graph_of nodes) pid tag vector
      put_from now same linking =
          put_is newer now (subst (λ ns. AreSameButLinks ns now) linked_first same)
          (subst (λ ns. AreLinkedBack rule apart new out ns now) linked_first
          (subst (λ r. AreLinkedBack rule apart r out linked_rows now) row_is
          (subst (λ t. AreLinkedBack rule apart row t linked_rows now) own_out (linking apart apart_first))))

      -- the new row comes behind all that it is linked to
      pub out_inside : Below row own
      out_inside = subst (λ r. Below r own) (sym row_is) (subst (Below new) (sym own_out) out_below)

      pub behind_all : All (λ other. IsBehind row (node_at linked_rows other)) own
      behind_all = All-from_recursion (λ other. IsBehind row (node_at linked_rows other)) own
          (all_below row own (λ other. IsBehind row (node_at linked_rows other)) out_inside (λ other l.
          let inside : other < new = (let is = row_is in omega arith) in
          subst (λ (y : Node). IsBehind row y)
          (sym (ap (λ ns. node_at ns other) linked_first ∙ at_linked_other added new other out newer (λ e. omega arith) ∙ get_or_append_left nodes (node ∷ []) nothing other inside))
          (subst (λ r. IsBehind r (node_at nodes other)) (sym row_is) (record { above = (sound.each other inside).links.inside; newer = (sound.each other inside).newer }))))
