-- What one client says alone, command by command.
use Rattle.std.proofs.Common.{◌≡◌, ℕ, ◌+◌, ◌<◌, ◌≤◌, Bool, true, false, cond, eqb, List, [], ◌∷◌, ◌++◌, Option, Some, None, refl, sym, ap, ◌∙◌, subst, arith, map, filter, length, inl, append_assoc, append-nil, length-append, eqb-true}
use Rattle.std.specs.List.{AllByRecursion}
use Rattle.std.proofs.lemmas.Bool.{eqb-false, false≢true}
use Rattle.std.proofs.lemmas.List.{length-map}
use Rattle.std.proofs.lemmas.List.Elements.{All-weaker, All-same, filter_passes, All-nil}
use Rattle.ann_types.specs.Index.{Index}
use Rattle.ann_types.specs.Lists.{ListBase, BasedList, BeginsWith, empty_base, empty_list, with_entries, length_of, live_of}
use Rattle.ann_types.specs.Fold.{fold_of}
use Rattle.ann_types.specs.Legal.{is_legal, IsLegal}
use Rattle.ann_types.specs.Answer.{hits}
use Rattle.ann_types.specs.Judge.{Refusal, entry_of, judge_all}
use Rattle.ann_types.specs.declared.change.Change.{Change}
use Rattle.ann_types.specs.declared.entry.Entry.{Entry}
use Rattle.ann_types.proofs.Judged.{accepted_is_legal}
use Rattle.ann_script.specs.Allowed.{IsOrderOf, IsScriptOf}
use Rattle.ann_script.specs.Order.{Order, Apply, Find, Merge, Fill}
use Rattle.ann_script.specs.Script.{Client}
use Rattle.ann_script.specs.declared.verbs.Verbs.TheVariants.{Once}
use Rattle.ann_transcript.specs.Transcript.{line_text, last_text}
use Rattle.ann_transcript.specs.declared.reply.SearchWord.TheVariants.{Dimension}
use Rattle.ann_transcript.specs.declared.reply.Reply.TheVariants.{Update, Found, Search}
use Rattle.ann_reply.specs.Reply.{accepted, word_of}
use Rattle.ann_once.specs.Once.{update_reply, search_reply, reply_to, updated, list_after, lines_from, once_text}
use Rattle.ann_once.proofs.Sessions.{session_base}
use Rattle.ann_said.specs.Owned.{Placed, placed_from, by_of, past, own}
use Rattle.ann_said.specs.Said.{Line, line, lines_text, Said}
use Rattle.ann_said.specs.Knowing.{Known, Learns, HasOwn, MayLeave, IsSaidSoFar}
use Rattle.ann_said.specs.Alone.{list_behind, list_of}
use Rattle.ann_said.proofs.Prefixes.{begins_self, upto_all}
use Rattle.ann_said.proofs.Owning.{is_of, length_placed, placed-append, own_then, own_changes}
use Rattle.ann_said.proofs.Adding.{said_first, said_learned, said_whole}
use Rattle.ann_said.proofs.Replying.{said_found, said_judged, said_accepted, said_idle}

-- a legal list on the empty base whose entries are all the first client's
record Alone (index : Index) (h : BasedList) : Type 0 where
  base : h.base ≡ empty_base
  legal : is_legal index h ≡ true
  mine : own empty_list h 0 ≡ past empty_list h

abbrev behind : BasedList → List Change → BasedList
behind h changes = with_entries h (map (entry_of 0) changes)

-- what the client knows of it
abbrev known_alone : BasedList → Known
known_alone h = record { client = 0; seen = h; told = h; entries = length h.entries; stop = 0 }

begins_empty : (h : BasedList) → h.base ≡ empty_base → BeginsWith h empty_list
begins_empty h e = record { base = e; entries = (h.entries, refl) }

begins_more : (h : BasedList) (es : List Entry) → BeginsWith (with_entries h es) h
begins_more h es = record { base = refl; entries = (es, refl) }

own_all : (index : Index) (h : BasedList) → Alone index h → length (own empty_list h 0) ≡ length h.entries
own_all index h a = ap length a.mine ∙ length_placed 0 h.entries

has_all : (index : Index) (h : BasedList) → Alone index h → HasOwn empty_list h 0 (length h.entries) (length_of h)
has_all index h a = record {
  after = omega arith;
  long = omega arith;
  begins = subst (λ (g : BasedList). BeginsWith g empty_list) (sym (upto_all h)) (begins_empty h a.base);
  own = ap (λ (g : BasedList). length (own empty_list g 0)) (upto_all h) ∙ own_all index h a;
}

alone_first : (index : Index) → Alone index empty_list
alone_first index = record { base = refl; legal = refl; mine = refl }

alone_more : (index : Index) (h : BasedList) (changes : List Change) → Alone index h → judge_all index.params h 0 changes ≡ None → Alone index (behind h changes)
alone_more index h changes a none =
    let es : List Entry = map (entry_of 0) changes in
    let next = ap (λ (b : ListBase). b.next) a.base in
    record {
      base = a.base;
      legal = accepted_is_legal index h 0 changes (omega (arith, next)) a.legal none;
      mine =
          own_then empty_list h es 0 (begins_empty h a.base)
          ∙ ap (λ (ps : List Placed). ps ++ filter (is_of 0) (placed_from (length_of h) es)) a.mine
          ∙ ap (λ (ps : List Placed). past empty_list h ++ ps) (own_changes 0 (length_of h) changes)
          ∙ ap (λ (b : ListBase). past empty_list h ++ placed_from (b.position + length h.entries) es) a.base
          ∙ sym (placed-append 0 h.entries es);
    }

-- ---- one command

-- how many entries an update makes
abbrev sized : List Change → Option (ℕ × Refusal) → ℕ
sized changes None = length changes
sized changes (Some r) = 0

abbrev size_of : Index → BasedList → Order → ℕ
size_of index h (Apply changes batch) = sized changes (judge_all index.params h 0 changes)
size_of index h (Find k l vector) = 0
size_of index h Merge = 0
size_of index h (Fill seed count first) = 0

accepted_step : (index : Index) (h : BasedList) (ls : List Line) (changes : List Change) (batch : Bool) → Alone index h → judge_all index.params h 0 changes ≡ None → IsSaidSoFar index empty_list (known_alone h) ls → IsSaidSoFar index empty_list (known_alone (behind h changes)) (ls ++ line (Apply changes batch) (accepted changes batch (length_of h + length changes)) (length changes) ∷ [])
accepted_step index h ls changes batch a none so =
    let es : List Entry = map (entry_of 0) changes in
    let g : BasedList = behind h changes in
    let size : length (h.entries ++ es) ≡ length h.entries + length changes = length-append h.entries es ∙ ap (λ (n : ℕ). length h.entries + n) (length-map changes (entry_of 0)) in
    let at : length_of g ≡ length_of h + length changes = omega (arith, size) in
    let more : Known = record { client = 0; seen = g; told = g; entries = length h.entries; stop = 0 } in
    let learns : Learns (known_alone h) more = record { client = refl; entries = refl; seen = begins_more h es; told = begins_more h es; stop = inl refl } in
    let has : HasOwn empty_list g 0 (length h.entries + length changes) (length_of g) = subst (λ (n : ℕ). HasOwn empty_list g 0 n (length_of g)) size (has_all index g (alone_more index h changes a none)) in
    let said = said_accepted index empty_list h more ls changes batch (length_of g) has (upto_all g) (said_learned index empty_list (known_alone h) more ls learns so) in
    subst (λ (n : ℕ). IsSaidSoFar index empty_list (known_alone g) (ls ++ line (Apply changes batch) (accepted changes batch n) (length changes) ∷ [])) at
    (subst (λ (n : ℕ). let k : Known = record { client = 0; seen = g; told = g; entries = n; stop = 0 } in IsSaidSoFar index empty_list k (ls ++ line (Apply changes batch) (accepted changes batch (length_of g)) (length changes) ∷ [])) (sym size) said)

refused_step : (index : Index) (h : BasedList) (ls : List Line) (changes : List Change) (batch : Bool) (r : ℕ × Refusal) → Alone index h → judge_all index.params h 0 changes ≡ Some r → IsSaidSoFar index empty_list (known_alone h) ls → IsSaidSoFar index empty_list (known_alone h) (ls ++ line (Apply changes batch) (Update (word_of r.0 r.1 (length_of h)) batch) 0 ∷ [])
refused_step index h ls changes batch r a is so =
    said_judged index empty_list (known_alone h) ls changes batch r.0 r.1 (length_of h) (has_all index h a) (ap (λ (g : BasedList). judge_all index.params g 0 changes) (upto_all h) ∙ is) so

search_step : (index : Index) (h : BasedList) (ls : List Line) (k l : ℕ) (vector : List ℕ) → IsSaidSoFar index empty_list (known_alone h) ls → IsSaidSoFar index empty_list (known_alone h) (ls ++ line (Find k l vector) (search_reply index h k l vector) 0 ∷ [])
search_step index h ls k l vector so =
    elim (eqb (length vector) index.params.d) as (λ b. eqb (length vector) index.params.d ≡ b → IsSaidSoFar index empty_list (known_alone h) (ls ++ line (Find k l vector) (cond b (Found (length_of h) (hits index (fold_of index h) k l vector)) (Search (Dimension (length vector) index.params.d))) 0 ∷ [])) [
      | true ↦ λ same. said_found index empty_list (known_alone h) ls k l vector (omega arith) so
      | false ↦ λ other. λ g may. said_idle index empty_list g (known_alone h) ls (Find k l vector) (Search (Dimension (length vector) index.params.d)) (so g may) ((refl, refl, eqb-false (length vector) index.params.d other), refl) (omega arith)
    ] refl

-- the client knows the list behind a command, which is again its own
abbrev Goes : Index → List Line → BasedList → Type 0
Goes index ls h = IsSaidSoFar index empty_list (known_alone h) ls × Alone index h

step : (index : Index) (h : BasedList) (ls : List Line) (o : Order) → IsOrderOf Once o → Goes index ls h → Goes index (ls ++ line o (reply_to index h o) (size_of index h o) ∷ []) (list_after index h o)
step index h ls (Apply changes batch) allowed goes =
    elim (judge_all index.params h 0 changes) as (λ r. judge_all index.params h 0 changes ≡ r → Goes index (ls ++ line (Apply changes batch) (update_reply changes batch (length_of h) r) (sized changes r) ∷ []) (updated h changes r)) [
      | None ↦ λ none. (accepted_step index h ls changes batch goes.1 none goes.0, alone_more index h changes goes.1 none)
      | Some r ↦ λ is. (refused_step index h ls changes batch r goes.1 is goes.0, goes.1)
    ] refl
step index h ls (Find k l vector) allowed goes = (search_step index h ls k l vector goes.0, goes.1)
step index h ls Merge allowed goes = absurd (false≢true allowed.allowed)
step index h ls (Fill seed count first) allowed goes = absurd (false≢true allowed.allowed)

-- ---- all commands

abbrev lines_of : Index → BasedList → List Order → List Line
lines_of index h [] = []
lines_of index h (o ∷ os) = line o (reply_to index h o) (size_of index h o) ∷ lines_of index (list_after index h o) os

all_steps : (index : Index) (h : BasedList) (ls : List Line) (os : List Order) → AllByRecursion (IsOrderOf Once) os → Goes index ls h → Goes index (ls ++ lines_of index h os) (list_behind index h os)
all_steps index h ls [] allowed goes = subst (λ (xs : List Line). Goes index xs h) (sym (append-nil ls)) goes
all_steps index h ls (o ∷ os) allowed goes =
    let l : Line = line o (reply_to index h o) (size_of index h o) in
    subst (λ (xs : List Line). Goes index xs (list_behind index (list_after index h o) os)) (append_assoc ls (l ∷ []) (lines_of index (list_after index h o) os))
    (all_steps index (list_after index h o) (ls ++ l ∷ []) os allowed.1 (step index h ls o allowed.0 goes))

orders_are : (index : Index) (h : BasedList) (os : List Order) → map (λ (l : Line). l.order) (lines_of index h os) ≡ os
orders_are index h [] = refl
orders_are index h (o ∷ os) = ap (λ (xs : List Order). o ∷ xs) (orders_are index (list_after index h o) os)

text_is : (index : Index) (name : List ℕ) (number : ℕ) (h : BasedList) (os : List Order) → lines_text name number (lines_of index h os) ++ last_text (length_of (list_behind index h os)) (length (live_of (list_behind index h os))) ≡ lines_from index name number h os
text_is index name number h [] = refl
text_is index name number h (o ∷ os) =
    let g : BasedList = list_after index h o in
    append_assoc (line_text name number (reply_to index h o)) (lines_text name (number + 1) (lines_of index g os)) (last_text (length_of (list_behind index g os)) (length (live_of (list_behind index g os))))
    ∙ ap (λ (t : List ℕ). line_text name number (reply_to index h o) ++ t) (text_is index name (number + 1) g os)

-- ---- the whole

said_alone : (index : Index) (client : Client) → AllByRecursion (IsOrderOf Once) client.orders → Said index empty_list (list_behind index empty_list client.orders) (client ∷ []) (once_text index (client ∷ []))
said_alone index client allowed =
    let h : BasedList = list_behind index empty_list client.orders in
    let ls : List Line = lines_of index empty_list client.orders in
    let last : List ℕ = last_text (length_of h) (length (live_of h)) in
    let goes : Goes index ls h = all_steps index empty_list [] client.orders allowed (said_first index empty_list 0, alone_first index) in
    let legal : IsLegal index h = record { base = session_base index.params h goes.1.base; entries = goes.1.legal } in
    let size : length h.entries ≡ length (own empty_list h 0) = sym (own_all index h goes.1) in
    let may : MayLeave index empty_list (known_alone h) h = record {
      legal = legal;
      begins = begins_empty h goes.1.base;
      seen = begins_self h;
      told = begins_self h;
      entries = omega (arith, size);
      stop = inl refl;
    } in
    record {
      legal = legal;
      begins = begins_empty h goes.1.base;
      parts = record { name = client.name; lines = ls } ∷ [];
      commands = ap (λ (os : List Order). let c : Client = record { name = client.name; orders = os } in c ∷ []) (orders_are index empty_list client.orders);
      lines = ap (λ (t : List ℕ). t ++ last) (append-nil (lines_text client.name 1 ls)) ∙ text_is index client.name 1 empty_list client.orders;
      clients = All-weaker (λ p. is_of 0 p ≡ true) (λ p. by_of p.entry < 1) (λ p e. (let zero_is = eqb-true (by_of p.entry) 0 e in omega (arith, zero_is))) (past empty_list h) (All-same (λ p. is_of 0 p ≡ true) (past empty_list h) (own empty_list h 0) (sym goes.1.mine) (filter_passes (is_of 0) (past empty_list h)));
      stand = (said_whole index empty_list h (known_alone h) ls goes.0 may size, tt);
    }

said_nothing : (index : Index) → Said index empty_list empty_list [] (once_text index [])
said_nothing index = record {
  legal = record { base = session_base index.params empty_list refl; entries = refl };
  begins = begins_empty empty_list refl;
  parts = [];
  commands = refl;
  lines = refl;
  clients = All-nil (λ (p : Placed). by_of p.entry < 0);
  stand = tt;
}

pub said_once : (index : Index) (script : List Client) → IsScriptOf Once script → length script ≤ 1 → Said index empty_list (list_of index script) script (once_text index script)
said_once index [] script few = said_nothing index
said_once index (client ∷ []) script few = said_alone index client script.0.orders
said_once index (client ∷ other ∷ others) script few = absurd (omega (arith, few))
