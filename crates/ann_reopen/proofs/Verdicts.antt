-- What is known of all entries, or of those before one that may not follow, as the verdict on a list.
use Rattle.std.proofs.Common.{◌≡◌, ◌≤◌, ◌<◌, ℕ, ◌+◌, ◌-◌, Bool, true, false, ◌&&◌, List, [], ◌∷◌, ◌++◌, refl, sym, ap, ◌∙◌, subst, arith, take, length, get_or}
use Rattle.std.specs.Prelude.{Option, Some, None}
use Rattle.std.specs.Option.{option_map}
use Rattle.std.proofs.lemmas.List.{take_more, take_all, length-take-le}
use Rattle.ann_types.specs.Fold.{Begun, fold_of}
use Rattle.ann_types.specs.Index.{Index}
use Rattle.ann_types.specs.Legal.{may_follow, is_legal}
use Rattle.ann_types.specs.Lists.{BasedList, IsBaseOf, upto, with_entry}
use Rattle.ann_types.specs.declared.entry.Entry.{Entry}
use Rattle.ann_types.specs.declared.params.Params.{Params}
use Rattle.ann_types.proofs.Folds.{legal_push}
use Rattle.ann_laws.specs.Outlines.{Opening, Outline, opening_of}
use Rattle.ann_laws.specs.Replays.{with_only}
use Rattle.ann_reopen.specs.Judged.{IsListOn, IsFirstIllegal, IsJudged}
use Rattle.ann_reopen.specs.Reading.{ReadingView, IsReadBy, start_of}
use Rattle.ann_reopen.specs.declared.basis.Basis.{Basis}
use Rattle.ann_reopen.specs.declared.judged.Judged.{Judged}
use Rattle.ann_reopen.specs.declared.judged.Merge.{Merge}
use Rattle.ann_reopen.proofs.Knowing.{Knows, LastIs, knows_none}

-- ---- no entry yet

pub knows_start : (index : Index) (params : Params) (basis : Basis) (all : List Entry) (h : BasedList) (r : ReadingView) → IsListOn index params basis all h → r ≡ start_of params basis → Knows index (with_only h (take 0 all)) r
knows_start index params basis all h r on is =
    subst (Knows index (with_only h [])) (sym is)
    (knows_none index h (start_of params basis) (subst (λ (p : Params). IsBaseOf p h.base) (sym on.same) on.base) (sym on.same) (sym on.position) refl on.tags (sym on.next) refl refl)

-- ---- one more

pub with_next : (h : BasedList) (all : List Entry) (i : ℕ) (e : Entry) → i < length all → e ≡ get_or all i e → with_only h (take (i + 1) all) ≡ with_entry (with_only h (take i all)) e
with_next h all i e l is = ap (with_only h) (take_more all i e l ∙ ap (λ x. take i all ++ x ∷ []) (sym is))

-- ---- an entry that may not follow

and_false : (a b : Bool) → b ≡ false → (a && b) ≡ false
and_false true b e = e
and_false false b e = refl

upto_is : (h : BasedList) (all : List Entry) (n i : ℕ) → h.entries ≡ all → n ≡ h.base.position + i → upto h n ≡ with_only h (take i all)
upto_is h all n i are is =
    ap (λ (k : ℕ). with_only h (take k h.entries)) (let same : n - h.base.position ≡ i = omega arith in same)
    ∙ ap (λ (t : List Entry). with_only h (take i t)) are

pub first_illegal : (index : Index) (h : BasedList) (all : List Entry) (r : ReadingView) (i : ℕ) (e : Entry) → h.entries ≡ all → i < length all → e ≡ get_or all i e → Knows index (with_only h (take i all)) r → may_follow index.params (with_only h (take i all)) (fold_of index (with_only h (take i all))) e ≡ false → IsFirstIllegal index h r.position
first_illegal index h all r i e are l is k m =
    let size : length (take i all) ≡ i = length-take-le i all (omega arith) in
    let place : r.position ≡ h.base.position + i = (let at = k.position in omega arith) in
    let many : length h.entries ≡ length all = ap (λ (t : List Entry). length t) are in
    record {
      within = (omega arith, omega arith);
      before = ap (is_legal index) (upto_is h all r.position i are place) ∙ k.legal.entries;
      at =
          ap (is_legal index) (upto_is h all (r.position + 1) (i + 1) are (omega arith) ∙ with_next h all i e l is)
          ∙ legal_push index (with_only h (take i all)) e
          ∙ and_false (is_legal index (with_only h (take i all))) _ m;
    }

-- ---- all entries

begun_places : (dead : List ℕ) (o : Option Begun) → option_map (λ (x : Opening). x.position) (opening_of dead o) ≡ option_map (λ (b : Begun). b.position) o
begun_places dead None = refl
begun_places dead (Some b) = refl

pub judged_all : (index : Index) (h : BasedList) (all : List Entry) (r : ReadingView) (i : ℕ) (j : Judged) → h.entries ≡ all → length all ≤ i → Knows index (with_only h (take i all)) r → IsReadBy r j → IsJudged index h j
judged_all index h all r i j are l known read =
    let whole : with_only h (take i all) ≡ h = ap (with_only h) (take_all i all l ∙ sym are) in
    let k : Knows index h r = subst (λ (g : BasedList). Knows index g r) whole known in
    record {
      legal = k.legal;
      tags = read.tags ∙ k.pids;
      next = read.next ∙ k.next;
      begun = read.begun ∙ ap (λ (o : Outline). option_map (λ (x : Opening). x.position) o.begun) k.outline ∙ begun_places (fold_of index h).dead (fold_of index h).begun;
      merge = subst (λ (m : Option Merge). LastIs h m) (sym read.merge) k.last;
      gone = read.gone ∙ k.gone;
    }
