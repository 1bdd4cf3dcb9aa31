-- What is seen of a table, from what it keeps.
use Rattle.std.proofs.Common.{◌≡◌, ◌≢◌, ℕ, zero, suc, ◌+◌, ◌-◌, ◌≤◌, ◌<◌, List, [], ◌∷◌, ◌++◌, refl, sym, ap, subst, ◌∙◌, arith, set, length, length-set, length-append, get_or, Some, eqb, false, true≢false}
use Rattle.std.specs.List.{All}
use Rattle.std.proofs.lemmas.List.Elements.{All-push}
use Rattle.ann_types.specs.declared.params.Params.{Params}
use Rattle.ann_types.specs.Kept.{rule_of}
use Rattle.ann_types.proofs.Sets.{rises_from_increasing, increasing_from_rises, rises_push}
use Rattle.ann_prune.specs.Newer.{AreSettled}
use Rattle.ann_table.specs.declared.label.Label.{Label}
use Rattle.ann_table.specs.Lists.{Lists}
use Rattle.ann_table.specs.Node.{Node, node_at, first_row, apart_rows, linked}
use Rattle.ann_types.specs.Rows.{AreNeighbours}
use Rattle.ann_table.specs.Table.{TableView, AreNodes, AreStored, node, nodes_of}
use Rattle.ann_table.proofs.Nodes.{length_nodes, at_nodes, push_nodes, link_nodes, append_nodes}
use Rattle.std.proofs.lemmas.List.Elements.{recursion_from_All}
use Rattle.ann_table.proofs.Sound.{few_nodes, nodes_linked, nodes_added}

abbrev pub shown : Params → List Node → ℕ → TableView
shown params nodes spare = record { params = params; nodes = nodes; spare = spare }

module _ (params : Params) (spare : ℕ) (labels : List Label) (rows edges : Lists) (v : TableView) (is : shown params (nodes_of labels rows.lists edges.lists) spare ≡ v) where
  pub seen_params : params ≡ v.params
  seen_params = ap (λ (w : TableView). w.params) is

  pub seen_nodes : nodes_of labels rows.lists edges.lists ≡ v.nodes
  seen_nodes = ap (λ (w : TableView). w.nodes) is

  pub seen_spare : spare ≡ v.spare
  seen_spare = ap (λ (w : TableView). w.spare) is

  module _ (count room : ℕ) (ok : count ≡ length labels) (stored : AreStored params spare count room rows edges) where
    vectors_of : length rows.lists ≡ length labels
    vectors_of = stored.vectors ∙ ok

    links_of : length edges.lists ≡ length labels
    links_of = stored.links ∙ ok

    pub seen_count : length labels ≡ length v.nodes
    seen_count = sym (length_nodes labels rows.lists edges.lists vectors_of links_of) ∙ ap length seen_nodes

    pub seen_row : (i : ℕ) → i < length v.nodes → i < length labels
    seen_row i l = let count = seen_count in omega arith

    pub seen_vector_row : (i : ℕ) → i < length v.nodes → i < length rows.lists
    seen_vector_row i l = let count = seen_count in let same = vectors_of in omega arith

    pub seen_links_row : (i : ℕ) → i < length v.nodes → i < length edges.lists
    seen_links_row i l = let count = seen_count in let same = links_of in omega arith

    -- what a row has
    pub seen_at : (i : ℕ) (x : Label) → i < length v.nodes → x ≡ get_or labels i x → node_at v.nodes i ≡ node x (get_or rows.lists i []) (get_or edges.lists i [])
    seen_at i x l e =
        ap (λ (t : List Node). node_at t i) (sym seen_nodes)
        ∙ at_nodes labels rows.lists edges.lists i x vectors_of links_of (seen_row i l)
        ∙ ap (λ (y : Label). node y (get_or rows.lists i []) (get_or edges.lists i [])) (sym e)

    pub seen_vector : (i : ℕ) → i < length v.nodes → get_or rows.lists i [] ≡ (node_at v.nodes i).vector
    seen_vector i l =
        sym (ap (λ (t : List Node). (node_at t i).vector) (sym seen_nodes)
        ∙ ap (λ (x : Node). x.vector) (at_nodes labels rows.lists edges.lists i (record { tag = 0; pid = 0; newer = 0 }) vectors_of links_of (seen_row i l)))

    pub seen_links : (i : ℕ) → i < length v.nodes → get_or edges.lists i [] ≡ (node_at v.nodes i).links
    seen_links i l =
        sym (ap (λ (t : List Node). (node_at t i).links) (sym seen_nodes)
        ∙ ap (λ (x : Node). x.links) (at_nodes labels rows.lists edges.lists i (record { tag = 0; pid = 0; newer = 0 }) vectors_of links_of (seen_row i l)))

    -- what is seen with a row more, with a row's neighbours replaced, and with one added
    pub add_is : (labels' : List Label) (rows' edges' : List (List ℕ)) (x : Label) (vector links : List ℕ) → labels' ≡ labels ++ x ∷ [] → rows' ≡ rows.lists ++ vector ∷ [] → edges' ≡ edges.lists ++ links ∷ [] → nodes_of labels' rows' edges' ≡ v.nodes ++ node x vector links ∷ []
    add_is labels' rows' edges' x vector links e f h =
        ap (λ t. nodes_of t rows' edges') e ∙ ap (λ t. nodes_of (labels ++ x ∷ []) t edges') f ∙ ap (nodes_of (labels ++ x ∷ []) (rows.lists ++ vector ∷ [])) h
        ∙ push_nodes labels rows.lists edges.lists x vector links vectors_of links_of
        ∙ ap (λ t. t ++ node x vector links ∷ []) seen_nodes

    pub link_is : (edges' : List (List ℕ)) (i : ℕ) (x : Label) (links : List ℕ) (newer : ℕ) → i < length v.nodes → x ≡ get_or labels i x → edges' ≡ set edges.lists i links → nodes_of (set labels i (record x { newer = newer })) rows.lists edges' ≡ linked v.nodes i links newer
    link_is edges' i x links newer l e f =
        ap (λ (y : Label). nodes_of (set labels i (record y { newer = newer })) rows.lists edges') e
        ∙ ap (nodes_of (set labels i (record (get_or labels i x) { newer = newer })) rows.lists) f
        ∙ link_nodes labels rows.lists edges.lists i x links newer vectors_of links_of (seen_row i l)
        ∙ ap (λ t. linked t i links newer) seen_nodes

    pub append_is : (edges' : List (List ℕ)) (i y : ℕ) → i < length v.nodes → edges' ≡ set edges.lists i (get_or edges.lists i [] ++ y ∷ []) → nodes_of labels rows.lists edges' ≡ linked v.nodes i ((node_at v.nodes i).links ++ y ∷ []) (node_at v.nodes i).newer
    append_is edges' i y l f =
        ap (nodes_of labels rows.lists) (f ∙ ap (λ t. set edges.lists i (t ++ y ∷ [])) (seen_links i l))
        ∙ append_nodes labels rows.lists edges.lists i ((node_at v.nodes i).links ++ y ∷ []) vectors_of links_of (seen_row i l)
        ∙ ap (λ (t : List Node). linked t i ((node_at v.nodes i).links ++ y ∷ []) (node_at t i).newer) seen_nodes

    module _ (sound : AreNodes params (nodes_of labels rows.lists edges.lists)) where
      seen_sound : AreNodes params v.nodes
      seen_sound = subst (AreNodes params) seen_nodes sound

      pub known_is : AreNodes v.params v.nodes
      known_is = subst (λ (p : Params). AreNodes p v.nodes) seen_params seen_sound

      pub few_below : (pid : ℕ) → All (λ (x : Node). x.pid < pid) v.nodes → length v.nodes ≤ pid
      few_below pid a = few_nodes params pid v.nodes seen_sound a

      pub few_seen : length v.nodes ≤ 4294967295
      few_seen = few_nodes params 4294967295 v.nodes seen_sound seen_sound.small

      -- what stays true with a row more and with a row's neighbours replaced
      pub sound_added : (nodes : List Node) (x : Node) → nodes ≡ v.nodes ++ x ∷ [] → All (λ (y : Node). y.pid < x.pid) v.nodes → x.pid < 4294967295 → length x.vector ≡ v.params.d → AreNeighbours v.params (length v.nodes) (length v.nodes) x.links → x.newer ≡ 0 → AreNodes params nodes
      sound_added nodes x e above small width may none =
          subst (AreNodes params) (sym e) (subst (λ (p : Params). AreNodes p (v.nodes ++ x ∷ [])) (sym seen_params) (nodes_added v.params v.nodes x known_is above small width may none))

      pub sound_linked : (nodes : List Node) (i : ℕ) (links : List ℕ) (newer : ℕ) → nodes ≡ linked v.nodes i links newer → i < length v.nodes → AreNeighbours v.params (length v.nodes) i links → AreSettled (rule_of v.params) (apart_rows v.nodes) i newer links → newer ≤ length v.nodes → AreNodes params nodes
      sound_linked nodes i links newer e l may settled few =
          subst (AreNodes params) (sym e) (subst (λ (p : Params). AreNodes p (linked v.nodes i links newer)) (sym seen_params) (nodes_linked v.params v.nodes i links newer l known_is may settled few))

-- ---- what is kept with a row more, and with a row's neighbours replaced

pub stored_add : (params : Params) (spare count room : ℕ) (rows edges : Lists) (count' room' : ℕ) (rows' edges' : Lists) (vector links : List ℕ) → AreStored params spare count room rows edges → 1 ≤ spare → count' ≡ count + 1 → room ≤ room' → rows'.places ≡ rows.places → rows'.lists ≡ rows.lists ++ vector ∷ [] → rows'.spare + 1 ≡ rows.spare → edges'.places ≡ edges.places → edges'.lists ≡ edges.lists ++ links ∷ [] → edges'.spare + 1 ≡ edges.spare → AreStored params (spare - 1) count' room' rows' edges'
stored_add params spare count room rows edges count' room' rows' edges' vector links s l c r wp wl ws lp ll lsp =
    let vectors_more : length rows'.lists ≡ length rows.lists + 1 = ap length wl ∙ length-append rows.lists (vector ∷ []) in
    let links_more : length edges'.lists ≡ length edges.lists + 1 = ap length ll ∙ length-append edges.lists (links ∷ []) in
    let vectors = s.vectors in
    let edges_count = s.links in
    let labels_fit = s.labels_fit in
    let vectors_fit = s.vectors_fit in
    let links_fit = s.links_fit in
    record {
      width = wp ∙ s.width;
      places = lp ∙ s.places;
      vectors = omega arith;
      links = omega arith;
      labels_fit = omega arith;
      vectors_fit = omega arith;
      links_fit = omega arith;
    }

pub stored_set : (params : Params) (spare count room : ℕ) (rows edges edges' : Lists) (i : ℕ) (links : List ℕ) → AreStored params spare count room rows edges → edges'.places ≡ edges.places → edges'.lists ≡ set edges.lists i links → edges'.spare ≡ edges.spare → AreStored params spare count room rows edges'
stored_set params spare count room rows edges edges' i links s p l e =
    let fits = s.links_fit in
    record {
      width = s.width;
      places = p ∙ s.places;
      vectors = s.vectors;
      links = ap length l ∙ length-set edges.lists i links ∙ s.links;
      labels_fit = s.labels_fit;
      vectors_fit = s.vectors_fit;
      links_fit = omega arith;
    }

-- ---- neighbours with one more, and the first row

pub neighbours_push : (params : Params) (count row y : ℕ) (links : List ℕ) → AreNeighbours params count row links → y < count → y ≢ row → All (λ other. other < y) links → length links < params.r → AreNeighbours params count row (links ++ y ∷ [])
neighbours_push params count row y links s inside other above few = record {
  rising = increasing_from_rises (links ++ y ∷ []) (rises_push links y (rises_from_increasing links s.rising) (recursion_from_All (λ x. x < y) links above));
  inside = All-push (λ x. x < count) links y s.inside inside;
  others = All-push (λ x. x ≢ row) links y s.others other;
  few = (let size = length-append links (y ∷ []) in omega arith);
}

pub first_is : (nodes : List Node) → 0 < length nodes → Some 0 ≡ first_row nodes
first_is [] l = absurd (omega arith)
first_is (x ∷ nodes) l = refl

pub some_from : (n : ℕ) → eqb n 0 ≡ false → 0 < n
some_from zero e = absurd (true≢false e)
some_from (suc n) e = omega arith
