-- The account of a list, one entry on.
use Rattle.std.proofs.Common.{◌≡◌, ◌≤◌, ◌<◌, ℕ, ◌+◌, true, false, cond, not, eqb, Option, Some, None, List, [], ◌∷◌, refl, sym, ap, subst, ◌∙◌, arith, length, ltb-true}
use Rattle.std.specs.Option.{option_map}
use Rattle.std.specs.FinMap.{get, insert, len, remove}
use Rattle.std.proofs.lemmas.Bool.{and_parts}
use Rattle.std.proofs.lemmas.List.{length-append}
use Rattle.ann_types.specs.Fold.{Begun, State, frozen, grown, switched, merge_of, deleted, step, fold_of}
use Rattle.ann_types.specs.Graph.{Graph}
use Rattle.ann_types.specs.Index.{Index}
use Rattle.ann_types.specs.Legal.{pid_end, fits, may_follow, IsLegal}
use Rattle.ann_types.specs.Lists.{BasedList, with_entry, with_entries, length_of, next_pid, is_live, live_of, mapped, pids_at}
use Rattle.ann_types.specs.Put.{put}
use Rattle.ann_types.specs.declared.params.Params.{Params}
use Rattle.ann_types.specs.declared.entry.Entry.{Entry}
use Rattle.ann_types.specs.declared.entry.Entry.TheVariants.{Insert, Delete, Begin, End, Replace}
use Rattle.ann_types.proofs.Booleans.{not_true}
use Rattle.ann_types.proofs.Folds.{entries_none, fold_push, legal_push, legal_before, live_push, next_pid_push}
use Rattle.ann_types.proofs.Tagged.{tags_differ}
use Rattle.ann_tags.specs.Tags.{Pids, map_of}
use Rattle.ann_tags.proofs.Maps.{mapped_is, unmapped_is, replaced, found_none, count_is}
use Rattle.ann_view.specs.declared.op.Op.{Op}
use Rattle.ann_account.specs.Account.{AccountView, IsAccountOf, HasRoom, begun_in}
use Rattle.ann_account.specs.Entered.{by_kind, entered, waits, MayBe}
use Rattle.ann_account.specs.Steps.{CanNote}

-- ---- a list with one entry more

-- what a list stays with
pub legal_here : (index : Index) (h : BasedList) (e : Entry) → IsLegal index (with_entry h e) → IsLegal index h
legal_here index h e l = record { base = l.base; entries = legal_before index h (e ∷ []) l.entries }

pub follows : (index : Index) (h : BasedList) (e : Entry) → IsLegal index (with_entry h e) → may_follow index.params h (fold_of index h) e ≡ true
follows index h e l = (and_parts _ _ (sym (legal_push index h e) ∙ l.entries)).1

grown_begun : (params : Params) (s : State) (g : Graph) → (grown params s g).begun ≡ s.begun
grown_begun params s g = elim (eqb (length g.points) params.freeze_at) as (λ t. (cond t (frozen s g) (record s { rw = g })).begun ≡ s.begun) [ true ↦ refl | false ↦ refl ]

abbrev place : Option Begun → Option ℕ
place o = option_map (λ (b : Begun). b.position) o

place_ended : (s : State) (lti : Graph) (o : Option Begun) → o ≡ s.begun → place (switched s lti o).begun ≡ None
place_ended s lti None is = ap place (sym is)
place_ended s lti (Some b) is = refl

-- the open Begin by the kind of the entry
abbrev begun_by : Index → BasedList → Entry → Option ℕ
begun_by index h (Insert by tag vector) = begun_in index h
begun_by index h (Delete by tag) = begun_in index h
begun_by index h (Begin by) = Some (length_of h)
begun_by index h (End by segment) = None
begun_by index h (Replace by tag vector) = begun_in index h

step_begun : (index : Index) (h : BasedList) (e : Entry) → place (step index h (fold_of index h) e).begun ≡ begun_by index h e
step_begun index h (Insert by tag vector) = ap place (grown_begun index.params (fold_of index h) (put index.params (fold_of index h).rw (next_pid h) tag vector))
step_begun index h (Delete by tag) = refl
step_begun index h (Begin by) = refl
step_begun index h (End by segment) = place_ended (fold_of index h) (merge_of index (fold_of index h) (fold_of index h).begun) (fold_of index h).begun refl
step_begun index h (Replace by tag vector) =
    ap place (grown_begun index.params (deleted (fold_of index h) (pids_at (live_of h) tag)) (put index.params (fold_of index h).rw (next_pid h) tag vector))

begun_more : (index : Index) (h : BasedList) (e : Entry) → begun_in index (with_entry h e) ≡ begun_by index h e
begun_more index h e = ap (λ (s : State). place s.begun) (fold_push index h e) ∙ step_begun index h e

length_more : (h : BasedList) (e : Entry) → length_of (with_entry h e) ≡ length_of h + 1
length_more h e = let size = length-append h.entries (e ∷ []) in omega (arith, size)

-- ---- the account

pub at_next : {S : Type 0} (a : AccountView S) (e : Entry) → (entered a e).at ≡ a.at + 1
at_next a (Insert by tag vector) = refl
at_next a (Delete by tag) = refl
at_next a (Begin by) = refl
at_next a (End by segment) = refl
at_next a (Replace by tag vector) = refl

module _ {S : Type 0} (index : Index) (h : BasedList) (a : AccountView S) (is : IsAccountOf index h a) where
  at_more : (e : Entry) → (entered a e).at ≡ length_of (with_entry h e)
  at_more e = at_next a e ∙ ap (λ n. n + 1) is.at ∙ sym (length_more h e)

  next_kind : (e : Entry) → (by_kind a e).next ≡ next_pid (with_entry h e)
  next_kind (Insert by tag vector) = ap (λ n. n + 1) is.next ∙ sym (next_pid_push h (Insert by tag vector))
  next_kind (Delete by tag) = is.next ∙ (let more = next_pid_push h (Delete by tag) in omega (arith, more))
  next_kind (Begin by) = is.next ∙ (let more = next_pid_push h (Begin by) in omega (arith, more))
  next_kind (End by segment) = is.next ∙ (let more = next_pid_push h (End by segment) in omega (arith, more))
  next_kind (Replace by tag vector) = ap (λ n. n + 1) is.next ∙ sym (next_pid_push h (Replace by tag vector))

  begun_kind : (e : Entry) → (by_kind a e).begun ≡ begun_by index h e
  begun_kind (Insert by tag vector) = is.begun
  begun_kind (Delete by tag) = is.begun
  begun_kind (Begin by) = ap Some is.at
  begun_kind (End by segment) = refl
  begun_kind (Replace by tag vector) = is.begun

  -- a tag added to these Pids
  put_in : (tag : ℕ) (pids : Pids) → pids ≡ map_of (live_of h) → insert pids tag a.next ≡ map_of (mapped (live_of h) tag (next_pid h))
  put_in tag pids same =
      ap (λ (m : Pids). insert m tag a.next) same
      ∙ ap (insert (map_of (live_of h)) tag) is.next
      ∙ sym (mapped_is (live_of h) tag (next_pid h))

  tags_kind : (e : Entry) → (by_kind a e).tags.pids ≡ map_of (live_of (with_entry h e))
  tags_kind (Insert by tag vector) = put_in tag a.tags.pids is.tags ∙ ap map_of (sym (live_push h (Insert by tag vector)))
  tags_kind (Delete by tag) =
      ap (λ (m : Pids). remove m tag) is.tags ∙ sym (unmapped_is (live_of h) tag) ∙ ap map_of (sym (live_push h (Delete by tag)))
  tags_kind (Begin by) = is.tags ∙ ap map_of (sym (live_push h (Begin by)))
  tags_kind (End by segment) = is.tags ∙ ap map_of (sym (live_push h (End by segment)))
  tags_kind (Replace by tag vector) =
      replaced a.tags.pids tag a.next ∙ put_in tag a.tags.pids is.tags ∙ ap map_of (sym (live_push h (Replace by tag vector)))

  -- The account with an entry more is of the list with it.
  pub entered_is : (e : Entry) → IsAccountOf index (with_entry h e) (entered a e)
  entered_is e = record {
    at = at_more e;
    next = next_kind e;
    begun = begun_kind e ∙ sym (begun_more index h e);
    tags = tags_kind e;
  }

-- what is not live isn't found
not_found : (pids : Pids) (h : BasedList) (tag : ℕ) → pids ≡ map_of (live_of h) → not (is_live (live_of h) tag) ≡ true → get pids tag ≡ None
not_found pids h tag same none =
    ap (λ (m : Pids). get m tag) same ∙ found_none (live_of h) tag (not_true (is_live (live_of h) tag) none)

module _ {S : Type 0} (index : Index) (h : BasedList) (a : AccountView S) (is : IsAccountOf index h a) where
  fits_pid : (vector : List ℕ) → fits index.params h vector ≡ true → a.next < pid_end
  fits_pid vector f = let next = is.next in let below : next_pid h < pid_end = ltb-true (next_pid h) pid_end (and_parts _ _ f).1 in omega (arith, next, below)

  may_be : (e : Entry) → 1 ≤ a.tags.spare → may_follow index.params h (fold_of index h) e ≡ true → MayBe a e
  may_be (Insert by tag vector) room f =
      let both = and_parts _ _ f in
      (record { room = room; pid = fits_pid vector both.0 }, not_found a.tags.pids h tag is.tags both.1)
  may_be (Delete by tag) room f = tt
  may_be (Begin by) room f = tt
  may_be (End by segment) room f = tt
  may_be (Replace by tag vector) room f = record { room = room; pid = fits_pid vector (and_parts _ _ f).0 }

-- An entry of a list can be taken in.
pub can_enter : {S : Type 0} (index : Index) (h : BasedList) (a : AccountView S) (e : Entry) → CanNote index h (e ∷ []) a → HasRoom 1 a → MayBe a e
can_enter index h a e can room = may_be index h a can.account_is e room.tags (follows index h e can.legal)

-- How many tags are live.
pub live_count : {S : Type 0} (index : Index) (h : BasedList) (a : AccountView S) (n : ℕ) → IsLegal index h → IsAccountOf index h a → n ≡ len a.tags.pids → n ≡ length (live_of h)
live_count index h a n legal is counted = counted ∙ ap len is.tags ∙ count_is (live_of h) (tags_differ index.params h legal.base)

-- ---- room

waiting_kind : {S : Type 0} (a : AccountView S) (e : Entry) → (by_kind a e).waiting ≡ a.waiting
waiting_kind a (Insert by tag vector) = refl
waiting_kind a (Delete by tag) = refl
waiting_kind a (Begin by) = refl
waiting_kind a (End by segment) = refl
waiting_kind a (Replace by tag vector) = refl

-- what waits isn't touched by an entry
pub waiting_same : {S : Type 0} (a : AccountView S) (e : Entry) → (entered a e).waiting ≡ a.waiting
waiting_same a e = waiting_kind a e

room_kind : {S : Type 0} (a : AccountView S) (e : Entry) → (by_kind a e).room ≡ a.room
room_kind a (Insert by tag vector) = refl
room_kind a (Delete by tag) = refl
room_kind a (Begin by) = refl
room_kind a (End by segment) = refl
room_kind a (Replace by tag vector) = refl

spare_kind : {S : Type 0} (a : AccountView S) (e : Entry) → a.tags.spare ≤ (by_kind a e).tags.spare + 1
spare_kind a (Insert by tag vector) = omega arith
spare_kind a (Delete by tag) = omega arith
spare_kind a (Begin by) = omega arith
spare_kind a (End by segment) = omega arith
spare_kind a (Replace by tag vector) = omega arith

pub room_there : {S : Type 0} (a : AccountView S) (e : Entry) → HasRoom 1 a → length (entered a e).waiting < (entered a e).room
room_there a e room =
    let same = ap length (waiting_kind a e) in
    let size = room_kind a e in
    let there = room.waiting in
    omega (arith, same, size, there)

-- one place is taken
pub room_left : {S : Type 0} (a : AccountView S) (e : Entry) (op : Op S) (more : ℕ) → HasRoom (more + 1) a → HasRoom more (waits (entered a e) op)
room_left a e op more room = record {
  tags = (let spare = spare_kind a e in let there = room.tags in omega (arith, spare, there));
  waiting =
      (let same = ap length (waiting_kind a e) in
      let size = room_kind a e in
      let there = room.waiting in
      let longer = length-append (entered a e).waiting (op ∷ []) in
      omega (arith, same, size, there, longer));
}

-- what waits is no part of what an account says of its list
pub waits_is : {S : Type 0} (index : Index) (h : BasedList) (a : AccountView S) (e : Entry) (op : Op S) → CanNote index h (e ∷ []) a → IsAccountOf index (with_entry h e) (waits (entered a e) op)
waits_is index h a e op can =
    let is : IsAccountOf index (with_entry h e) (entered a e) = entered_is index h a can.account_is e in
    record { at = is.at; next = is.next; begun = is.begun; tags = is.tags }

pub legal_none : (index : Index) (h : BasedList) → IsLegal index (with_entries h []) → IsLegal index h
legal_none index h l = subst (IsLegal index) (entries_none h) l
