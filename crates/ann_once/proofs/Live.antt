-- The searches of a script tell live tags.
use Rattle.std.proofs.Common.{◌≡◌, ℕ, Bool, true, false, cond, eqb, List, [], ◌∷◌, refl, ap, arith, length}
use Rattle.std.specs.Prelude.{Option, None, Some}
use Rattle.ann_types.specs.Answer.{hits}
use Rattle.ann_types.specs.Fold.{fold_of}
use Rattle.ann_types.specs.Index.{Index}
use Rattle.ann_types.specs.Judge.{Refusal, judge_all}
use Rattle.ann_types.specs.Legal.{is_legal}
use Rattle.ann_types.specs.Lists.{BasedList, ListBase, empty_base, empty_list, length_of}
use Rattle.ann_types.specs.declared.change.Change.{Change}
use Rattle.ann_types.proofs.Found.{hits_are_live}
use Rattle.ann_types.proofs.Judged.{accepted_is_legal}
use Rattle.ann_script.specs.Order.{Order, Apply, Find, Merge, Fill}
use Rattle.ann_script.specs.Script.{Client}
use Rattle.ann_transcript.specs.declared.reply.Reply.TheVariants.{Found, Search}
use Rattle.ann_transcript.specs.declared.reply.SearchWord.TheVariants.{Dimension}
use Rattle.ann_once.specs.Live.{TellsLive, AllTellLive, ScriptTellsLive}
use Rattle.ann_reply.specs.Reply.{accepted}
use Rattle.ann_once.specs.Once.{update_reply, search_reply, reply_to, updated, list_after}
use Rattle.ann_once.proofs.Sessions.{session_base}

-- a legal list on the empty base
record IsSound (index : Index) (h : BasedList) : Type 0 where
  base : h.base ≡ empty_base
  legal : is_legal index h ≡ true

-- ---- one reply

accepted_tells : (h : BasedList) (changes : List Change) (batch : Bool) (at : ℕ) → TellsLive h (accepted changes batch at)
accepted_tells h [] batch at = tt
accepted_tells h (c ∷ cs) batch at = tt

update_tells : (h : BasedList) (changes : List Change) (batch : Bool) (at : ℕ) (o : Option (ℕ × Refusal)) → TellsLive h (update_reply changes batch at o)
update_tells h changes batch at None = accepted_tells h changes batch _
update_tells h changes batch at (Some r) = tt

search_tells : (index : Index) (h : BasedList) (k l : ℕ) (query : List ℕ) → IsSound index h → TellsLive h (search_reply index h k l query)
search_tells index h k l query s =
    elim (eqb (length query) index.params.d) as (λ t. TellsLive h (cond t (Found (length_of h) (hits index (fold_of index h) k l query)) (Search (Dimension (length query) index.params.d)))) [
      | true ↦ (refl, hits_are_live index h k l query (session_base index.params h s.base) s.legal)
      | false ↦ tt
    ]

reply_tells : (index : Index) (h : BasedList) (order : Order) → IsSound index h → TellsLive h (reply_to index h order)
reply_tells index h (Apply changes batch) s = update_tells h changes batch (length_of h) (judge_all index.params h 0 changes)
reply_tells index h (Find k l query) s = search_tells index h k l query s
reply_tells index h Merge s = tt
reply_tells index h (Fill seed count first) s = tt

-- ---- the lists behind the commands

updated_sound : (index : Index) (h : BasedList) (changes : List Change) (o : Option (ℕ × Refusal)) → judge_all index.params h 0 changes ≡ o → IsSound index h → IsSound index (updated h changes o)
updated_sound index h changes None none s = record {
  base = s.base;
  legal = accepted_is_legal index h 0 changes (let next = ap (λ (b : ListBase). b.next) s.base in omega (arith, next)) s.legal none;
}
updated_sound index h changes (Some r) some s = s

after_sound : (index : Index) (h : BasedList) (order : Order) → IsSound index h → IsSound index (list_after index h order)
after_sound index h (Apply changes batch) s = updated_sound index h changes (judge_all index.params h 0 changes) refl s
after_sound index h (Find k l query) s = s
after_sound index h Merge s = s
after_sound index h (Fill seed count first) s = s

all_tell : (index : Index) (h : BasedList) (orders : List Order) → IsSound index h → AllTellLive index h orders
all_tell index h [] s = tt
all_tell index h (order ∷ orders) s = (reply_tells index h order s, all_tell index (list_after index h order) orders (after_sound index h order s))

-- Every tag that a search of a script tells is live at the list of its reply.
pub script_tells : (index : Index) (script : List Client) → ScriptTellsLive index script
script_tells index [] = tt
script_tells index (client ∷ others) = (all_tell index empty_list client.orders (record { base = refl; legal = refl }), script_tells index others)
