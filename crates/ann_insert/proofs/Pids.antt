-- The Pids of a table with a point more.
use Rattle.std.proofs.Common.{◌≡◌, ℕ, ◌+◌, ◌<◌, List, [], ◌∷◌, ◌++◌, sym, ap, ◌∙◌, subst, arith, length}
use Rattle.std.specs.List.{All, AllByRecursion}
use Rattle.std.proofs.lemmas.List.{length-map, length_push}
use Rattle.std.proofs.lemmas.List.Elements.{All-from_recursion, recursion_from_All}
use Rattle.ann_types.proofs.Sets.{all_append, all_map, all_of_map, all_weaker}
use Rattle.ann_table.specs.Node.{Node, row_pids}

pub one_more : (n : ℕ) (old now : List Node) → row_pids now ≡ row_pids old ++ n ∷ [] → length now ≡ length old + 1
one_more n old now pids = sym (length-map now (λ (x : Node). x.pid)) ∙ ap length pids ∙ length_push (row_pids old) n ∙ ap (λ k. k + 1) (length-map old (λ (x : Node). x.pid))

-- Where all were below the new Pid, all are below the one after it.
pub pids_below : (n : ℕ) (old now : List Node) → row_pids now ≡ row_pids old ++ n ∷ [] → All (λ (x : Node). x.pid < n) old → All (λ (x : Node). x.pid < n + 1) now
pids_below n old now pids below =
    All-from_recursion (λ (x : Node). x.pid < n + 1) now
    (all_of_map (λ p. p < n + 1) (λ (x : Node). x.pid) now
    (subst (AllByRecursion (λ p. p < n + 1)) (sym pids)
    (all_append (λ p. p < n + 1) (row_pids old) (n ∷ [])
    (all_map (λ p. p < n + 1) (λ (x : Node). x.pid) old
    (all_weaker (λ (x : Node). x.pid < n) (λ (x : Node). x.pid < n + 1) old (λ x l. omega arith) (recursion_from_All (λ (x : Node). x.pid < n) old below)))
    (omega arith, tt))))
