-- Rows made of labels, vectors and neighbours: a row is read, added and changed.
use Rattle.std.proofs.Common.{◌≡◌, ℕ, zero, suc, ◌<◌, List, [], ◌∷◌, ◌++◌, refl, ap, arith, set, length, get_or}
use Rattle.ann_table.specs.declared.label.Label.{Label}
use Rattle.ann_table.specs.Node.{node_at, linked}
use Rattle.ann_table.specs.Table.{node, nodes_of}

pub length_nodes : (xs : List Label) (vs ls : List (List ℕ)) → length vs ≡ length xs → length ls ≡ length xs → length (nodes_of xs vs ls) ≡ length xs
length_nodes [] vs ls a b = refl
length_nodes (x ∷ xs) [] ls a b = absurd (omega arith)
length_nodes (x ∷ xs) (v ∷ vs) [] a b = absurd (omega arith)
length_nodes (x ∷ xs) (v ∷ vs) (l ∷ ls) a b = let rest = length_nodes xs vs ls (omega arith) (omega arith) in omega arith

pub at_nodes : (xs : List Label) (vs ls : List (List ℕ)) (i : ℕ) (d : Label) → length vs ≡ length xs → length ls ≡ length xs → i < length xs → node_at (nodes_of xs vs ls) i ≡ node (get_or xs i d) (get_or vs i []) (get_or ls i [])
at_nodes [] vs ls i d a b h = absurd (omega arith)
at_nodes (x ∷ xs) [] ls i d a b h = absurd (omega arith)
at_nodes (x ∷ xs) (v ∷ vs) [] i d a b h = absurd (omega arith)
at_nodes (x ∷ xs) (v ∷ vs) (l ∷ ls) zero d a b h = refl
at_nodes (x ∷ xs) (v ∷ vs) (l ∷ ls) (suc i) d a b h = at_nodes xs vs ls i d (omega arith) (omega arith) (omega arith)

pub push_nodes : (xs : List Label) (vs ls : List (List ℕ)) (x : Label) (v l : List ℕ) → length vs ≡ length xs → length ls ≡ length xs → nodes_of (xs ++ x ∷ []) (vs ++ v ∷ []) (ls ++ l ∷ []) ≡ nodes_of xs vs ls ++ node x v l ∷ []
push_nodes [] [] [] x v l a b = refl
push_nodes [] (w ∷ vs) ls x v l a b = absurd (omega arith)
push_nodes [] [] (k ∷ ls) x v l a b = absurd (omega arith)
push_nodes (y ∷ xs) [] ls x v l a b = absurd (omega arith)
push_nodes (y ∷ xs) (w ∷ vs) [] x v l a b = absurd (omega arith)
push_nodes (y ∷ xs) (w ∷ vs) (k ∷ ls) x v l a b = ap (λ t. node y w k ∷ t) (push_nodes xs vs ls x v l (omega arith) (omega arith))

-- Other neighbours of one row, and another `newer`, are one node changed.
pub link_nodes : (xs : List Label) (vs ls : List (List ℕ)) (i : ℕ) (d : Label) (l : List ℕ) (n : ℕ) → length vs ≡ length xs → length ls ≡ length xs → i < length xs → nodes_of (set xs i (record (get_or xs i d) { newer = n })) vs (set ls i l) ≡ linked (nodes_of xs vs ls) i l n
link_nodes [] vs ls i d l n a b h = absurd (omega arith)
link_nodes (x ∷ xs) [] ls i d l n a b h = absurd (omega arith)
link_nodes (x ∷ xs) (v ∷ vs) [] i d l n a b h = absurd (omega arith)
link_nodes (x ∷ xs) (v ∷ vs) (k ∷ ls) zero d l n a b h = refl
link_nodes (x ∷ xs) (v ∷ vs) (k ∷ ls) (suc i) d l n a b h = ap (λ t. node x v k ∷ t) (link_nodes xs vs ls i d l n (omega arith) (omega arith) (omega arith))

-- Other neighbours of one row are one node changed, whose `newer` stays.
pub append_nodes : (xs : List Label) (vs ls : List (List ℕ)) (i : ℕ) (l : List ℕ) → length vs ≡ length xs → length ls ≡ length xs → i < length xs → nodes_of xs vs (set ls i l) ≡ linked (nodes_of xs vs ls) i l (node_at (nodes_of xs vs ls) i).newer
append_nodes [] vs ls i l a b h = absurd (omega arith)
append_nodes (x ∷ xs) [] ls i l a b h = absurd (omega arith)
append_nodes (x ∷ xs) (v ∷ vs) [] i l a b h = absurd (omega arith)
append_nodes (x ∷ xs) (v ∷ vs) (k ∷ ls) zero l a b h = refl
append_nodes (x ∷ xs) (v ∷ vs) (k ∷ ls) (suc i) l a b h = ap (λ t. node x v k ∷ t) (append_nodes xs vs ls i l (omega arith) (omega arith) (omega arith))
