-- One more entry: the number that is named, the open Begin, and the list up to it.
use Rattle.std.proofs.Common.{◌≡◌, ℕ, true, false, not, cond, eqb, List, [], ◌∷◌, ◌++◌, refl, sym, ap, ◌∙◌, length}
use Rattle.std.specs.Prelude.{Option, Some, None}
use Rattle.std.specs.List.{list_all}
use Rattle.std.proofs.lemmas.Bool.{false≢true, and_parts, not-true}
use Rattle.ann_types.specs.Graph.{Graph, is_empty}
use Rattle.ann_types.specs.Put.{put}
use Rattle.ann_types.specs.Index.{Index}
use Rattle.ann_types.specs.Lists.{BasedList, length_of, makes_point, with_entry, next_pid, pids_at, live_of}
use Rattle.ann_types.specs.Fold.{Begun, State, frozen, grown, deleted, opened, begun_at, switched, step}
use Rattle.ann_types.specs.declared.params.Params.{Params}
use Rattle.ann_types.specs.declared.entry.Entry.{Entry}
use Rattle.ann_types.specs.declared.entry.Entry.TheVariants.{Insert, Delete, Begin, End, Replace}
use Rattle.ann_types.proofs.Options.{some_is}
use Rattle.ann_laws.specs.Replays.{is_end, LastMerge}
use Rattle.ann_named.specs.Named.{named_after, named_from, named_in}

-- ---- the number

pub named_then : (number : ℕ) (es fs : List Entry) → named_from number (es ++ fs) ≡ named_from (named_from number es) fs
named_then number [] fs = refl
named_then number (e ∷ es) fs = named_then (named_after number e) es fs

pub named_push : (h : BasedList) (e : Entry) → named_in (with_entry h e) ≡ named_after (named_in h) e
named_push h e = named_then h.base.segment h.entries (e ∷ [])

pub named_stays : (number : ℕ) (e : Entry) → is_end e ≡ false → named_after number e ≡ number
named_stays number (Insert by tag vector) n = refl
named_stays number (Delete by tag) n = refl
named_stays number (Begin by) n = refl
named_stays number (End by segment) n = absurd (false≢true (sym n))
named_stays number (Replace by tag vector) n = refl

-- entries that are no Ends name no other
pub none_named : (number : ℕ) (es : List Entry) → list_all (λ e. not (is_end e)) es ≡ true → named_from number es ≡ number
none_named number [] n = refl
none_named number (e ∷ es) n =
    let both = and_parts (not (is_end e)) (list_all (λ x. not (is_end x)) es) n in
    none_named (named_after number e) es both.1 ∙ named_stays number e (not-true (is_end e) both.0)

-- the last merge names its segment
pub last_named : (number : ℕ) (h : BasedList) (m : LastMerge h) → named_from number h.entries ≡ m.segment
last_named number h m =
    ap (named_from number) m.merge.entries
    ∙ named_then number (m.before ++ Begin m.merge.begin_by ∷ m.inside) (End m.merge.end_by m.segment ∷ m.behind)
    ∙ none_named m.segment m.behind m.merge.last

-- ---- the open Begin

grown_begun : (params : Params) (s : State) (g : Graph) → (grown params s g).begun ≡ s.begun
grown_begun params s g = elim (eqb (length g.points) params.freeze_at) as (λ t. (cond t (frozen s g) (record s { rw = g })).begun ≡ s.begun) [ true ↦ refl | false ↦ refl ]

begin_opens : (s : State) (at : ℕ) (b : Begun) → (begun_at s at).begun ≡ Some b → b.position ≡ at
begin_opens s at b e = elim (is_empty s.rw) as (λ t. (opened (cond t s (frozen s s.rw)) at).begun ≡ Some b → b.position ≡ at) [
  | true ↦ λ same. sym (ap (λ (c : Begun). c.position) (some_is _ b same))
  | false ↦ λ same. sym (ap (λ (c : Begun). c.position) (some_is _ b same))
] e

pub end_closes : (s : State) (lti : Graph) (o : Option Begun) → o ≡ s.begun → (switched s lti o).begun ≡ None
end_closes s lti None e = sym e
end_closes s lti (Some b) e = refl

-- With one more entry that is no End an open Begin was open before, or it is that entry.
pub data Opened (h : BasedList) (s : State) (e : Entry) (b : Begun) : Type 0 where
  before : s.begun ≡ Some b → Opened h s e b
  here : makes_point e ≡ false → b.position ≡ length_of h → Opened h s e b

pub opened_by : (index : Index) (h : BasedList) (s : State) (e : Entry) (b : Begun) → is_end e ≡ false → (step index h s e).begun ≡ Some b → Opened h s e b
opened_by index h s (Insert by tag vector) b n o = before (sym (grown_begun index.params s (put index.params s.rw (next_pid h) tag vector)) ∙ o)
opened_by index h s (Delete by tag) b n o = before o
opened_by index h s (Begin by) b n o = here refl (begin_opens s (length_of h) b o)
opened_by index h s (End by segment) b n o = absurd (false≢true (sym n))
opened_by index h s (Replace by tag vector) b n o =
    let less : State = deleted s (pids_at (live_of h) tag) in
    before (sym (grown_begun index.params less (put index.params less.rw (next_pid h) tag vector)) ∙ o)
