-- What a step on a history makes of the list.
use Rattle.std.proofs.Common.{◌≡◌, ℕ, ◌+◌, List, [], ◌∷◌, ◌++◌, sym, ap, ◌∙◌, subst, arith, append_assoc, length-append}
use mathlib.Core.List.{IsPrefix}
use Rattle.ann_types.specs.Lists.{BasedList, length_of, with_entry}
use Rattle.ann_types.specs.declared.entry.Entry.{Entry}
use Rattle.ann_line.specs.declared.history.Link.{Link}
use Rattle.ann_line.specs.History.{line, key_after, listed, IsOff}
use Rattle.ann_line.proofs.Prefixes.{prefix_trans}
use Rattle.ann_line.proofs.Lines.{line_whole, line_more}

-- the link that is added where an entry goes on from a key
abbrev pub link_of : ℕ → Entry → ℕ → Link
link_of key e next = record { from = key; entries = e ∷ []; to = next }

-- the step added a link from the key that the list leads to, and before it nobody had gone on from there
module _ (root : ℕ) (mine seen log new : List Link) (key next : ℕ) (e : Entry) (ask : Link) (mine_key : key ≡ key_after root mine) (first : IsPrefix mine seen) (second : IsPrefix seen log) (off : IsOff key log) (asked : ask ≡ link_of 0 e next) (is : new ≡ log ++ record { from = key; entries = ask.entries; to = ask.to } ∷ []) where
  linked : new ≡ log ++ link_of (key_after root mine) e next ∷ []
  linked = is ∙ (λ i. log ++ record { from = mine_key i; entries = (asked i).entries; to = (asked i).to } ∷ [])

  more : (line root (log ++ link_of (key_after root mine) e next ∷ []) ≡ line root mine ++ e ∷ []) × (key_after root (log ++ link_of (key_after root mine) e next ∷ []) ≡ next)
  more = line_more root mine log (e ∷ []) next (prefix_trans mine seen log first second) (subst (λ k. IsOff k log) mine_key off)

  pub added_line : line root new ≡ line root mine ++ e ∷ []
  added_line = ap (line root) linked ∙ more.0

  pub added_key : key_after root new ≡ next
  added_key = ap (key_after root) linked ∙ more.1

-- the list is then one entry longer
pub listed_more : (opening : BasedList) (root : ℕ) (mine new : List Link) (e : Entry) → line root new ≡ line root mine ++ e ∷ [] → listed opening root new ≡ with_entry (listed opening root mine) e
listed_more opening root mine new e is =
    let all : opening.entries ++ line root new ≡ (opening.entries ++ line root mine) ++ e ∷ [] = ap (λ l. opening.entries ++ l) is ∙ sym (append_assoc opening.entries (line root mine) (e ∷ [])) in
    λ i. record { base = opening.base; entries = all i }

pub length_more : (h g : BasedList) (e : Entry) (at : ℕ) → g ≡ with_entry h e → at ≡ length_of h → at + 1 ≡ length_of g
length_more h g e at is long =
    let same : length_of g ≡ length_of (with_entry h e) = ap length_of is in
    let more = length-append h.entries (e ∷ []) in
    omega (arith, same, more, long)

-- nobody has gone on from the key that the list leads to, so it is whole
module _ (root : ℕ) (mine learned new : List Link) (key : ℕ) (mine_key : key ≡ key_after root mine) (first : IsPrefix mine learned) (second : IsPrefix learned new) (off : IsOff key new) where
  whole : (line root new ≡ line root mine) × (key_after root new ≡ key_after root mine)
  whole = line_whole root mine new (prefix_trans mine learned new first second) (subst (λ k. IsOff k new) mine_key off)

  pub whole_list : (opening : BasedList) → listed opening root new ≡ listed opening root mine
  whole_list opening = ap (λ l. record { base = opening.base; entries = opening.entries ++ l }) whole.0

  pub whole_key : key ≡ key_after root new
  whole_key = mine_key ∙ sym whole.1
