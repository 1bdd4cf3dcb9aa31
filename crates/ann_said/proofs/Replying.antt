-- What each reply of a client is worth, from what the client knows.
use Rattle.std.proofs.Common.{◌≡◌, ℕ, ◌+◌, ◌≤◌, max, Bool, true, false, List, [], ◌∷◌, ◌++◌, Some, refl, sym, ap, ◌∙◌, subst, arith, map, filter, take, drop, length, inl, inr, length-append, length-drop, append_assoc, take-add, not}
use Rattle.std.proofs.lemmas.List.{take_at, drop_at, length-take-le, length-map}
use Rattle.std.proofs.lemmas.List.Filters.{length-filter_both}
use Rattle.ann_types.specs.Index.{Index}
use Rattle.ann_types.specs.Lists.{ListBase, BasedList, BeginsWith, upto, with_entries, length_of}
use Rattle.ann_types.specs.Fold.{fold_of}
use Rattle.ann_types.specs.Judge.{Refusal, Dimension, Full, Present, Absent, entry_of, judge_all}
use Rattle.ann_types.specs.Answer as found
use Rattle.ann_types.specs.declared.change.Change.{Change}
use Rattle.ann_types.specs.declared.entry.Entry.{Entry}
use Rattle.ann_script.specs.Order.{Order, Apply, Find}
use Rattle.ann_transcript.specs.declared.reply.UpdateWord.{UpdateWord}
use Rattle.ann_transcript.specs.declared.reply.UpdateWord.TheVariants.{Dimension as Dimension', Full as Full', Present as Present', Absent as Absent', LogFault, Stopped, Memory, MemoryLogged}
use Rattle.ann_transcript.specs.declared.reply.Reply.{Reply}
use Rattle.ann_transcript.specs.declared.reply.Reply.TheVariants.{Update, Found}
use Rattle.ann_reply.specs.Reply.{accepted, word_of}
use Rattle.ann_said.specs.Owned.{Placed, placed_from, own, reach}
use Rattle.ann_said.specs.Seen.{refusal_seen, line_seen}
use Rattle.ann_said.specs.Table.{Turn, IsBetween, AreAccepted, AreJudged, AreRefused, IsFound, Stands}
use Rattle.ann_said.specs.Said.{Line, line, Spot, start, turn_at, behind_line, behind_lines}
use Rattle.ann_said.specs.Knowing.{Known, with_more, HasOwn, HasOwnCause, spot, MayLeave, SaidUpTo, IsSaidSoFar}
use Rattle.ann_said.proofs.Prefixes.{begins_trans, begins_upto, begins_length, begins_entries, begins_shorter, upto_begins, upto_own, length_upto}
use Rattle.ann_said.proofs.Owning.{length_placed, reach-append, reach_placed, is_of, own_reach, own_then, own_begins, own_changes}
use Rattle.ann_said.proofs.Adding.{said_push}

-- ---- what a prefix of the told list says of every list that the run may leave

pub record Tells (h0 t h : BasedList) (client count at : ℕ) : Type 0 where
  pub same : upto h at ≡ upto t at
  pub mine : take count (own h0 h client) ≡ own h0 (upto t at) client
  pub far : reach (take count (own h0 h client)) ≤ at
  pub between : IsBetween h0 h at
  pub size : length_of (upto t at) ≡ at

pub tells : (h0 t h : BasedList) (client count at : ℕ) → BeginsWith h t → HasOwn h0 t client count at → Tells h0 t h client count at
tells h0 t h client count at more has =
    let begins : BeginsWith h (upto t at) = begins_trans h t (upto t at) more (begins_upto t at) in
    let front = own_begins h0 (upto t at) h client has.begins begins in
    let mine : take count (own h0 h client) ≡ own h0 (upto t at) client = ap (take count) (sym front.1) ∙ take_at (own h0 (upto t at) client) front.0 count has.own in
    let same : t.base.position ≡ h0.base.position = ap (λ (b : ListBase). b.position) has.begins.base in
    let long = has.long in
    let after = has.after in
    let size : length_of (upto t at) ≡ at = length_upto t at (omega (arith, same, after)) long in
    let far = own_reach h0 (upto t at) client has.begins in
    let longer = begins_length h t more in
    record {
      same = upto_begins h t at more has.long;
      mine = mine;
      far = subst (λ (ps : List Placed). reach ps ≤ at) (sym mine) (omega (arith, far, size));
      between = (after, omega (arith, long, longer));
      size = size;
    }

-- the next entries are before the end of those so far and these
pub next_reach : (n m : ℕ) (ps : List Placed) → reach (take m (drop n ps)) ≤ reach (take (n + m) ps)
next_reach n m ps =
    let both = ap reach (take-add n m ps) ∙ reach-append (take n ps) (take m (drop n ps)) in
    omega (arith, both)

-- ---- a line without entries

-- its turn
abbrev pub idle : BasedList → BasedList → Known → ℕ → Turn
idle h0 h k covers = record { client = k.client; earlier = take k.entries (own h0 h k.client); own = []; seen = covers }

no_more : (index : Index) (h0 h : BasedList) (k : Known) (ls : List Line) → SaidUpTo index h0 h (with_more k 0) ls → SaidUpTo index h0 h k ls
no_more index h0 h k ls s =
    let same : k.entries + 0 ≡ k.entries = omega arith in
    subst (λ (n : ℕ). let t : Known = record k { entries = n } in SaidUpTo index h0 h t ls) same s

pub said_idle : (index : Index) (h0 h : BasedList) (k : Known) (ls : List Line) (order : Order) (reply : Reply) (s : SaidUpTo index h0 h k ls) → Stands index h0 h (idle h0 h k s.covers) order reply → line_seen [] reply ≤ max (length_of k.seen) (length_of k.told) → SaidUpTo index h0 h k (ls ++ line order reply 0 ∷ [])
said_idle index h0 h k ls order reply s right most =
    let bound = s.most in
    no_more index h0 h k (ls ++ line order reply 0 ∷ []) (said_push index h0 h k ls (line order reply 0) s right (omega (arith, bound, most)))

-- of fewer entries a list asks less
pub fewer : (index : Index) (h0 h : BasedList) (k : Known) (count : ℕ) → MayLeave index h0 (with_more k count) h → MayLeave index h0 k h
fewer index h0 h k count may =
    let all = may.entries in
    record { legal = may.legal; begins = may.begins; seen = may.seen; told = may.told; entries = omega (arith, all); stop = may.stop }

-- ---- searches

seen_grows : (s : Spot) (ls : List Line) → s.seen ≤ (behind_lines s ls).seen
seen_grows s [] = omega arith
seen_grows s (l ∷ ls) = let rest = seen_grows (behind_line s l) ls in omega (arith, rest)

pub said_found : (index : Index) (h0 : BasedList) (known : Known) (ls : List Line) (k l : ℕ) (vector : List ℕ) → length_of known.told ≤ length_of known.seen → IsSaidSoFar index h0 known ls → IsSaidSoFar index h0 known (ls ++ line (Find k l vector) (Found (length_of known.seen) (found.hits index (fold_of index known.seen) k l vector)) 0 ∷ [])
said_found index h0 known ls k l vector covers so h may =
    let s = so h may in
    let most = s.most in
    let first = seen_grows (start h0 h known.client) ls in
    let last = ap (λ (t : Spot). t.seen) s.behind in
    let longer = begins_length h known.seen may.seen in
    let right : IsFound index h0 h (idle h0 h known s.covers) k l vector (length_of known.seen) (found.hits index (fold_of index known.seen) k l vector) = record {
      between = (omega (arith, first, last, most, covers), longer);
      seen = omega (arith, most, covers);
      answer = ap (λ (g : BasedList). found.hits index (fold_of index g) k l vector) (sym (upto_own h known.seen may.seen));
      none = refl;
    } in
    said_idle index h0 h known ls (Find k l vector) (Found (length_of known.seen) (found.hits index (fold_of index known.seen) k l vector)) s right (omega arith)

-- ---- updates that are refused by their changes

pub judged_seen : (place at : ℕ) (why : Refusal) → refusal_seen (word_of place why at) ≡ at
judged_seen place at (Dimension got want) = refl
judged_seen place at Full = refl
judged_seen place at (Present tag) = refl
judged_seen place at (Absent tag) = refl

pub judged_refused : (index : Index) (h0 h : BasedList) (t : Turn) (changes : List Change) (place at : ℕ) (why : Refusal) → AreJudged index h0 h t changes place why at → AreRefused index h0 h t changes (word_of place why at)
judged_refused index h0 h t changes place at (Dimension got want) judged = judged
judged_refused index h0 h t changes place at Full judged = judged
judged_refused index h0 h t changes place at (Present tag) judged = judged
judged_refused index h0 h t changes place at (Absent tag) judged = judged

pub said_judged : (index : Index) (h0 : BasedList) (known : Known) (ls : List Line) (changes : List Change) (batch : Bool) (place : ℕ) (why : Refusal) (at : ℕ) → HasOwn h0 known.told known.client known.entries at → judge_all index.params (upto known.told at) known.client changes ≡ Some (place, why) → IsSaidSoFar index h0 known ls → IsSaidSoFar index h0 known (ls ++ line (Apply changes batch) (Update (word_of place why at) batch) 0 ∷ [])
said_judged index h0 known ls changes batch place why at has refused so h may =
    let s = so h may in
    let t = tells h0 known.told h known.client known.entries at may.told has in
    let right : AreJudged index h0 h (idle h0 h known s.covers) changes place why at = record {
      about = record { between = t.between; earlier = t.far; none = refl };
      refused = ap (λ (g : BasedList). judge_all index.params g known.client changes) t.same ∙ refused;
    } in
    let seen = judged_seen place at why in
    let long = has.long in
    said_idle index h0 h known ls (Apply changes batch) (Update (word_of place why at) batch) s (judged_refused index h0 h (idle h0 h known s.covers) changes place at why right, refl) (omega (arith, seen, long))

-- ---- updates that are accepted

accepted_stands : (index : Index) (h0 h : BasedList) (t : Turn) (changes : List Change) (batch : Bool) (at : ℕ) → AreAccepted h0 h t changes at → Stands index h0 h t (Apply changes batch) (accepted changes batch at)
accepted_stands index h0 h t [] batch at right = (right, refl)
accepted_stands index h0 h t (c ∷ cs) batch at right = (right, refl)

accepted_seen : (ps : List Placed) (changes : List Change) (batch : Bool) (at : ℕ) → line_seen ps (accepted changes batch at) ≡ reach ps
accepted_seen ps [] batch at = refl
accepted_seen ps (c ∷ cs) batch at = refl

-- the entries of a prefix that ends with these, where so many before them are the client's
pub record Ends (h0 t h : BasedList) (client count : ℕ) (es : List Entry) (at : ℕ) : Type 0 where
  pub first : ℕ
  pub next : take (length es) (drop count (own h0 h client)) ≡ placed_from first es
  pub end : first + length es ≡ at

not_not : (b : Bool) → not (not b) ≡ b
not_not true = refl
not_not false = refl

few_own : (h0 h : BasedList) (client : ℕ) → length (own h0 h client) ≤ length (drop (length h0.entries) h.entries)
few_own h0 h client =
    let both = length-filter_both (λ p. not (is_of client p)) (is_of client) (λ p. sym (not_not (is_of client p))) (placed_from (length_of h0) (drop (length h0.entries) h.entries)) in
    let size = length_placed (length_of h0) (drop (length h0.entries) h.entries) in
    omega (arith, both, size)

pub ends : (h0 t h before : BasedList) (client count : ℕ) (es : List Entry) (at : ℕ) → ((n : ℕ) → filter (is_of client) (placed_from n es) ≡ placed_from n es) → BeginsWith h t → HasOwn h0 t client (count + length es) at → upto t at ≡ with_entries before es → Ends h0 t h client count es at
ends h0 t h before client count es at theirs more has is =
    let told = tells h0 t h client (count + length es) at more has in
    let whole : BeginsWith (with_entries before es) h0 = subst (λ (g : BasedList). BeginsWith g h0) is has.begins in
    let size : length (own h0 (with_entries before es) client) ≡ count + length es = sym (ap (λ (g : BasedList). length (own h0 g client)) is) ∙ has.own in
    let few = few_own h0 (with_entries before es) client in
    let rest = length-drop (length h0.entries) (before.entries ++ es) in
    let joined = length-append before.entries es in
    let first : BeginsWith before h0 = begins_shorter before h0 es whole (let room = begins_entries (with_entries before es) h0 whole in omega (arith, size, few, rest, joined, room)) in
    let mine : own h0 (with_entries before es) client ≡ own h0 before client ++ placed_from (length_of before) es = own_then h0 before es client first ∙ ap (λ ps. own h0 before client ++ ps) (theirs (length_of before)) in
    let parts = length-append (own h0 before client) (placed_from (length_of before) es) in
    let last = length_placed (length_of before) es in
    let counted : length (own h0 before client) ≡ count = (let all = sym (ap length mine) ∙ size in omega (arith, parts, last, all)) in
    let front = own_begins h0 (upto t at) h client has.begins (begins_trans h t (upto t at) more (begins_upto t at)) in
    let here : own h0 h client ≡ own h0 before client ++ (placed_from (length_of before) es ++ front.0) =
    sym front.1 ∙ ap (λ (g : BasedList). own h0 g client ++ front.0) is ∙ ap (λ ps. ps ++ front.0) mine ∙ append_assoc (own h0 before client) (placed_from (length_of before) es) front.0 in
    let end = told.size in
    let long = ap length_of is in
    record {
      first = length_of before;
      next =
          ap (λ ps. take (length es) (drop count ps)) here
          ∙ ap (take (length es)) (drop_at (own h0 before client) (placed_from (length_of before) es ++ front.0) count counted)
          ∙ take_at (placed_from (length_of before) es) front.0 (length es) last;
      end = omega (arith, end, long, joined);
    }

-- the same of an update's changes
pub changes_end : (h0 t h before : BasedList) (client count : ℕ) (changes : List Change) (at : ℕ) → BeginsWith h t → HasOwn h0 t client (count + length changes) at → upto t at ≡ with_entries before (map (entry_of client) changes) → Ends h0 t h client count (map (entry_of client) changes) at
changes_end h0 t h before client count changes at more has is =
    ends h0 t h before client count (map (entry_of client) changes) at (λ n. own_changes client n changes) more
    (subst (λ (m : ℕ). HasOwn h0 t client (count + m) at) (sym (length-map changes (entry_of client))) has) is

pub said_accepted : (index : Index) (h0 before : BasedList) (known : Known) (ls : List Line) (changes : List Change) (batch : Bool) (at : ℕ) → HasOwn h0 known.told known.client (known.entries + length changes) at → upto known.told at ≡ with_entries before (map (entry_of known.client) changes) → IsSaidSoFar index h0 known ls → IsSaidSoFar index h0 (with_more known (length changes)) (ls ++ line (Apply changes batch) (accepted changes batch at) (length changes) ∷ [])
said_accepted index h0 before known ls changes batch at has is so h may =
    let s = so h (fewer index h0 h known (length changes) may) in
    let t = tells h0 known.told h known.client (known.entries + length changes) at may.told has in
    let e = changes_end h0 known.told h before known.client known.entries changes at may.told has is in
    let ps : List Placed = take (length changes) (drop known.entries (own h0 h known.client)) in
    let as_many = length-map changes (entry_of known.client) in
    let next : ps ≡ placed_from e.first (map (entry_of known.client) changes) = ap (λ (m : ℕ). take m (drop known.entries (own h0 h known.client))) (sym as_many) ∙ e.next in
    let right : AreAccepted h0 h (turn_at (spot h0 h known s.covers) (length changes)) changes at = record {
      between = t.between;
      entries = record { first = e.first; are = next; end = e.end };
    } in
    let seen = accepted_seen ps changes batch at in
    let end = e.end in
    let far : reach ps ≤ at = subst (λ (qs : List Placed). reach qs ≤ at) (sym next) (let r = reach_placed e.first (map (entry_of known.client) changes) in omega (arith, r, end)) in
    let most = s.most in
    let long = has.long in
    said_push index h0 h known ls (line (Apply changes batch) (accepted changes batch at) (length changes)) s (accepted_stands index h0 h (turn_at (spot h0 h known s.covers) (length changes)) changes batch at right) (omega (arith, seen, far, most, long))

-- ---- updates that end by their own cause

pub caused_refused : (index : Index) (h0 h : BasedList) (t : Turn) (changes : List Change) (why : UpdateWord) → HasOwnCause why → t.own ≡ [] → AreRefused index h0 h t changes why
caused_refused index h0 h t changes (Dimension' place got want at) cause none = absurd cause
caused_refused index h0 h t changes (Full' place at) cause none = absurd cause
caused_refused index h0 h t changes (Present' place tag at) cause none = absurd cause
caused_refused index h0 h t changes (Absent' place tag at) cause none = absurd cause
caused_refused index h0 h t changes LogFault cause none = none
caused_refused index h0 h t changes (Stopped at) cause none = absurd cause
caused_refused index h0 h t changes Memory cause none = none
caused_refused index h0 h t changes (MemoryLogged at) cause none = absurd cause

pub caused_seen : (why : UpdateWord) → HasOwnCause why → refusal_seen why ≡ 0
caused_seen (Dimension' place got want at) cause = absurd cause
caused_seen (Full' place at) cause = absurd cause
caused_seen (Present' place tag at) cause = absurd cause
caused_seen (Absent' place tag at) cause = absurd cause
caused_seen LogFault cause = refl
caused_seen (Stopped at) cause = absurd cause
caused_seen Memory cause = refl
caused_seen (MemoryLogged at) cause = absurd cause

pub said_caused : (index : Index) (h0 : BasedList) (known : Known) (ls : List Line) (changes : List Change) (batch : Bool) (why : UpdateWord) → HasOwnCause why → IsSaidSoFar index h0 known ls → IsSaidSoFar index h0 known (ls ++ line (Apply changes batch) (Update why batch) 0 ∷ [])
said_caused index h0 known ls changes batch why cause so h may =
    let s = so h may in
    let none = caused_seen why cause in
    said_idle index h0 h known ls (Apply changes batch) (Update why batch) s (caused_refused index h0 h (idle h0 h known s.covers) changes why cause refl, refl) (omega (arith, none))

pub stopped_at : (index : Index) (h0 h : BasedList) (known : Known) (at : ℕ) → MayLeave index h0 known h → known.stop ≡ at + 1 → at ≡ length_of h
stopped_at index h0 h known at may stop = elim may.stop [
  | inl none ↦ absurd (omega (arith, stop, none))
  | inr length ↦ omega (arith, stop, length)
]

pub said_stopped : (index : Index) (h0 : BasedList) (known : Known) (ls : List Line) (changes : List Change) (batch : Bool) (at : ℕ) → known.stop ≡ at + 1 → IsSaidSoFar index h0 known ls → IsSaidSoFar index h0 known (ls ++ line (Apply changes batch) (Update (Stopped at) batch) 0 ∷ [])
said_stopped index h0 known ls changes batch at stop so h may = said_idle index h0 h known ls (Apply changes batch) (Update (Stopped at) batch) (so h may) ((refl, stopped_at index h0 h known at may stop), refl) (omega arith)

pub said_logged : (index : Index) (h0 : BasedList) (known : Known) (ls : List Line) (changes : List Change) (batch : Bool) (at : ℕ) → IsSaidSoFar index h0 known ls → IsSaidSoFar index h0 (with_more known (length changes)) (ls ++ line (Apply changes batch) (Update (MemoryLogged at) batch) (length changes) ∷ [])
said_logged index h0 known ls changes batch at so h may =
    let s = so h (fewer index h0 h known (length changes) may) in
    let rest = length-drop known.entries (own h0 h known.client) in
    let all = may.entries in
    let most = s.most in
    said_push index h0 h known ls (line (Apply changes batch) (Update (MemoryLogged at) batch) (length changes)) s (length-take-le (length changes) (drop known.entries (own h0 h known.client)) (omega (arith, rest, all)), refl) (omega (arith, most))
