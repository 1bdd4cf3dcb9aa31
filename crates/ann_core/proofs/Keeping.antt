-- The texts of kept segments, and what opening a prefix finds in them.
use Rattle.std.proofs.Common.{◌≡◌, ◌∙◌, ℕ, ◌≤◌, Bool, true, false, cond, eqb, eqb-true, not, ◌||◌, List, [], ◌∷◌, ◌++◌, fold, take, length, slice_get, refl, sym, ap, subst, arith}
use Rattle.std.specs.Prelude.{Option, Some, None, MatchOption, All}
use Rattle.std.specs.FinMap.{get, empty}
use Rattle.std.specs.List.{list_all}
use Rattle.std.proofs.lemmas.Bool.{and_parts, not-true}
use Rattle.std.proofs.lemmas.List.Elements.{All-get_or}
use Rattle.std.proofs.lemmas.Option.{slice_get_within, get_or_from_slice_get}
use Rattle.ann_types.specs.Answer.{answer, hits}
use Rattle.ann_types.specs.Fold.{State as Graphs, fold_of}
use Rattle.ann_types.specs.Graph.{Graph}
use Rattle.ann_types.specs.Index.{Index}
use Rattle.ann_types.specs.Lists.{BasedList}
use Rattle.ann_types.specs.declared.ask.Ask.{Ask}
use Rattle.ann_types.specs.declared.entry.Entry.{Entry}
use Rattle.ann_types.specs.declared.entry.Entry.TheVariants.{Begin, End}
use Rattle.ann_types.specs.declared.hit.Hit.{Hit}
use Rattle.ann_types.specs.declared.params.Params.{Params}
use Rattle.ann_types.proofs.Booleans.{same_true}
use Rattle.ann_laws.specs.Replays.{is_end, LastMerge}
use Rattle.ann_base.specs.Front.{IsSealedAs}
use Rattle.ann_merge.proofs.Numbers.{inserted}
use Rattle.ann_pq.specs.Codebook.{CodebookView}
use Rattle.ann_segment.specs.Holds.{Fits}
use Rattle.ann_segment.specs.Text.{segment_text}
use Rattle.ann_state.specs.State.{index_with, AreKept}
use Rattle.ann_vault.specs.Seal.{seal_bytes}
use Rattle.ann_view.specs.Holding.{HoldsGraph}
use Rattle.ann_view.specs.Stands.{StandsFor, lti_of}
use Rattle.ann_view.specs.View.{index_of}
use Rattle.ann_core_laws.specs.State.{Kept, CoreState, logged, end_after, last_end, graph_in, is_kept, held_state}
use Rattle.ann_core_laws.specs.Events.{pin_of, refused, reply}
use Rattle.ann_core_laws.specs.Facts.{HoldsEnd, IsPin}
use Rattle.ann_core_laws.specs.declared.step.Step.TheVariants.{Answered}
use Rattle.ann_core_laws.proofs.Logged.{no_end}
use Rattle.ann_core_laws.proofs.Segments.{held_is, lacking}
use Rattle.ann_core.specs.Core.{CoreView, IsTextOf, AreTextsOf, IsCoreOf}
use Rattle.ann_core.specs.Kept.{Text, text_in, is_kept_in, without_text, held_under, held_for}
use Rattle.ann_core.specs.Opened.{IsOpened}
use Rattle.ann_core.specs.declared.prefix.Opened.{Opened}

-- ---- the texts and the graphs of kept segments

some_is : {A : Type 0} (x y : A) → Some x ≡ Some y → x ≡ y
some_is x y e = cc

pub record IsKeptText (index : Index) (texts : List Text) (n : ℕ) (graph : Graph) : Type 0 where
  pub fits : Fits index.params index.book graph
  pub text : text_in texts n ≡ Some (segment_text index.params index.book graph n)

kept_first : (index : Index) (t : Text) (ts : List Text) (k : Kept) (n : ℕ) (g : Graph) → IsTextOf index t k → eqb k.number n ≡ true → k.graph ≡ g → IsKeptText index (t ∷ ts) n g
kept_first index t ts k n g first same is = record {
  fits = subst (Fits index.params index.book) is first.fits;
  text =
      ap (λ (b : Bool). cond b (Some t.bytes) (text_in ts n)) (ap (λ (i : ℕ). eqb i n) first.number ∙ same)
      ∙ ap (λ (b : List ℕ). Some b) (first.bytes ∙ ap (λ (i : ℕ). segment_text index.params index.book k.graph i) (eqb-true k.number n same) ∙ ap (λ (x : Graph). segment_text index.params index.book x n) is);
}

kept_later : (index : Index) (t : Text) (ts : List Text) (k : Kept) (n : ℕ) (g : Graph) → IsTextOf index t k → eqb k.number n ≡ false → IsKeptText index ts n g → IsKeptText index (t ∷ ts) n g
kept_later index t ts k n g first other rest = record {
  fits = rest.fits;
  text = ap (λ (b : Bool). cond b (Some t.bytes) (text_in ts n)) (ap (λ (i : ℕ). eqb i n) first.number ∙ other) ∙ rest.text;
}

pub text_kept : (index : Index) (ts : List Text) (ks : List Kept) (n : ℕ) (g : Graph) → AreTextsOf index ts ks → graph_in ks n ≡ Some g → IsKeptText index ts n g
text_kept index [] [] n g w f = absurd (let e : None ≡ Some g = f in cc)
text_kept index [] (k ∷ ks) n g w f = absurd w
text_kept index (t ∷ ts) [] n g w f = absurd w
text_kept index (t ∷ ts) (k ∷ ks) n g (first, rest) f =
    elim (eqb k.number n) as (λ b. eqb k.number n ≡ b → cond b (Some k.graph) (graph_in ks n) ≡ Some g → IsKeptText index (t ∷ ts) n g) [
      | true ↦ λ e is. kept_first index t ts k n g first e (some_is k.graph g is)
      | false ↦ λ e is. kept_later index t ts k n g first e (text_kept index ts ks n g rest is)
    ] refl f

pub kept_same : (index : Index) (ts : List Text) (ks : List Kept) (n : ℕ) → AreTextsOf index ts ks → is_kept_in ts n ≡ is_kept ks n
kept_same index [] [] n w = refl
kept_same index [] (k ∷ ks) n w = absurd w
kept_same index (t ∷ ts) [] n w = absurd w
kept_same index (t ∷ ts) (k ∷ ks) n (first, rest) =
    ap (λ (i : ℕ). eqb i n || is_kept_in ts n) first.number ∙ ap (λ b. eqb k.number n || b) (kept_same index ts ks n rest)

pub without_same : (index : Index) (ts : List Text) (ks : List Kept) (n : ℕ) → AreTextsOf index ts ks → AreTextsOf index (without_text ts n) (lacking ks n)
without_same index [] [] n w = tt
without_same index [] (k ∷ ks) n w = absurd w
without_same index (t ∷ ts) [] n w = absurd w
without_same index (t ∷ ts) (k ∷ ks) n (first, rest) =
    subst (λ (i : ℕ). AreTextsOf index (cond (not (eqb i n)) (t ∷ without_text ts n) (without_text ts n)) (cond (not (eqb k.number n)) (k ∷ lacking ks n) (lacking ks n))) (sym first.number)
    (elim (eqb k.number n) as (λ b. AreTextsOf index (cond (not b) (t ∷ without_text ts n) (without_text ts n)) (cond (not b) (k ∷ lacking ks n) (lacking ks n))) [
      | true ↦ without_same index ts ks n rest
      | false ↦ (first, without_same index ts ks n rest)
    ])

pub more_same : (index : Index) (ts : List Text) (ks : List Kept) (t : Text) (k : Kept) → AreTextsOf index ts ks → IsTextOf index t k → AreTextsOf index (ts ++ t ∷ []) (ks ++ k ∷ [])
more_same index [] [] t k w one = (one, tt)
more_same index [] (x ∷ xs) t k w one = absurd w
more_same index (x ∷ xs) [] t k w one = absurd w
more_same index (x ∷ xs) (y ∷ ys) t k (first, rest) one = (first, more_same index xs ys t k rest one)

-- ---- the last End of a list with a merge

ends_keep : (last : Option ℕ) (es : List Entry) → list_all (λ e. not (is_end e)) es ≡ true → fold end_after last es ≡ last
ends_keep last [] w = refl
ends_keep last (e ∷ es) w =
    let both = and_parts (not (is_end e)) (list_all (λ x. not (is_end x)) es) w in
    ap (λ (o : Option ℕ). fold end_after o es) (no_end last e (not-true (is_end e) both.0)) ∙ ends_keep last es both.1

ends_then : (last : Option ℕ) (front rest : List Entry) (segment : ℕ) → ((o : Option ℕ) → fold end_after o rest ≡ Some segment) → fold end_after last (front ++ rest) ≡ Some segment
ends_then last [] rest segment each = each last
ends_then last (e ∷ es) rest segment each = ends_then (end_after last e) es rest segment each

pub last_is : (h : BasedList) (m : LastMerge h) → last_end h.entries ≡ Some m.segment
last_is h m =
    ap (λ (t : List Entry). fold end_after None t) m.merge.entries
    ∙ ends_then None (m.before ++ (Begin m.merge.begin_by ∷ m.inside)) (End m.merge.end_by m.segment ∷ m.behind) m.segment (λ o. ends_keep (Some m.segment) m.behind m.merge.last)

-- ---- what a vault with the segment of the last End holds

module _ (index : Index) (ts : List Text) (ks : List Kept) (w : AreTextsOf index ts ks) where
  sealed_under : (n : ℕ) (g : Graph) → graph_in ks n ≡ Some g → IsSealedAs (held_under n (text_in ts n)) index.params n index.book g
  sealed_under n g f =
      let is : IsKeptText index ts n g = text_kept index ts ks n g w f in
      record {
        fits = is.fits;
        text =
            ap (λ (o : Option (List ℕ)). get (held_under n o) n) is.text
            ∙ inserted empty n (segment_text index.params index.book g n);
      }

  kept_by : (entries : List Entry) (o : Option ℕ) → last_end entries ≡ o → MatchOption o (Unit {0}) (λ number. graph_in ks number ≡ Some (fold_of index (logged entries)).lti) → AreKept (held_for ts o) index.params index.book (logged entries)
  kept_by entries None e h = record { base = λ some. absurd (some refl); merged = λ m. absurd (let no : None ≡ Some m.segment = sym e ∙ last_is (logged entries) m in cc) }
  kept_by entries (Some n) e h = record {
    base = λ some. absurd (some refl);
    merged = λ m.
        let same : n ≡ m.segment = some_is n m.segment (sym e ∙ last_is (logged entries) m) in
        subst (λ (i : ℕ). IsSealedAs (held_under n (text_in ts n)) index.params i index.book (fold_of index (logged entries)).lti) same (sealed_under n (fold_of index (logged entries)).lti h);
  }

  pub are_kept : (entries : List Entry) → HoldsEnd index ks entries → AreKept (held_for ts (last_end entries)) index.params index.book (logged entries)
  are_kept entries h = kept_by entries (last_end entries) refl h

-- ---- a prefix that is opened

module _ (index : Index) (v : CoreView) (c : CoreState) (core : IsCoreOf index v c) (entries : List Entry) (held : HoldsEnd index c.kept entries) (opened : Opened) (is : IsOpened (held_for v.kept (last_end entries)) v.params v.book entries opened) where
  pub index_same : index_of opened.view ≡ index
  index_same =
      ap (λ (p : Params). index_with p opened.view.book.book) is.index.0 ∙ ap (λ (k : CodebookView). index_with v.params k.book) is.index.1 ∙ sym core.index_is

  pub graph_held : HoldsGraph seal_bytes opened.view (lti_of opened.view (logged entries))
  graph_held =
      is.holds (subst (λ (i : Index). AreKept (held_for v.kept (last_end entries)) i.params i.book (logged entries)) core.index_is (are_kept index v.kept c.kept core.kept entries held))

  pub answered : (ask : Ask) (found : List Hit) → ((h : BasedList) → StandsFor opened.view h → HoldsGraph seal_bytes opened.view (lti_of opened.view h) → found ≡ answer (index_of opened.view) h ask) → found ≡ hits index (held_state index c.kept entries) ask.k ask.l ask.vector
  answered ask found each =
      each (logged entries) is.stands graph_held
      ∙ ap (λ (i : Index). answer i (logged entries) ask) index_same
      ∙ ap (λ (s : Graphs). hits index s ask.k ask.l ask.vector) (sym (held_is index c.kept entries held))

-- ---- a reply

pin_found : (index : Index) (c : CoreState) (reader n : ℕ) → All (IsPin index c) c.pins → pin_of c reader ≡ Some (Some n) → IsPin index c (Some n)
pin_found index c reader n pins found =
    subst (IsPin index c) (get_or_from_slice_get c.pins reader (Some n) None found)
    (All-get_or (IsPin index c) c.pins reader None (slice_get_within c.pins reader (Some n) found) pins)

module _ (index : Index) (v : CoreView) (c : CoreState) (core : IsCoreOf index v c) where
  pub pin_is : (reader : ℕ) → slice_get v.pins reader ≡ pin_of c reader
  pin_is reader = ap (λ (t : List (Option ℕ)). slice_get t reader) core.pins

  pub pinned : (reader n : ℕ) → slice_get v.pins reader ≡ Some (Some n) → IsPin index c (Some n)
  pinned reader n found = pin_found index c reader n core.facts.pins (sym (pin_is reader) ∙ found)

  pub pin_within : (n : ℕ) → IsPin index c (Some n) → n ≤ length v.list
  pin_within n w =
      let below = w.0 in
      let within = core.facts.shown in
      let same = ap (λ (t : List Entry). length t) core.list in
      omega (arith, below, within, same)

  pub replied : (pin : ℕ) → IsPin index c (Some pin) → (ask : Ask) → length ask.vector ≡ v.params.d → (opened : Opened) → IsOpened (held_for v.kept (last_end (take pin v.list))) v.params v.book (take pin v.list) opened → (found : List Hit) → ((h : BasedList) → StandsFor opened.view h → HoldsGraph seal_bytes opened.view (lti_of opened.view h) → found ≡ answer (index_of opened.view) h ask) → Answered pin found ≡ (reply index c ask (Some (Some pin))).1
  replied pin w ask width opened is found each =
      let opens : IsOpened (held_for v.kept (last_end (take pin c.list))) v.params v.book (take pin c.list) opened = subst (λ (t : List Entry). IsOpened (held_for v.kept (last_end (take pin t))) v.params v.book (take pin t) opened) core.list is in
      let agree : length ask.vector ≡ index.params.d = width ∙ sym (ap (λ (i : Index). i.params.d) core.index_is) in
      ap (λ (t : List Hit). Answered pin t) (answered index v c core (take pin c.list) w.1 opened opens ask found each)
      ∙ sym (ap (λ (b : Bool). (cond b (c, Answered pin (hits index (held_state index c.kept (take pin c.list)) ask.k ask.l ask.vector)) (refused c)).1) (same_true (length ask.vector) index.params.d agree))
