-- Operations that lead to a list, and one more.
use Rattle.std.proofs.Common.{◌≡◌, ◌<◌, ℕ, true, false, List, [], ◌∷◌, ◌++◌, Option, Some, refl, sym, ap, subst, ◌∙◌, arith, length, get_or, take, drop}
use Rattle.std.specs.FinMap.{get}
use Rattle.std.specs.Prelude.{IsSome}
use Rattle.std.proofs.lemmas.Bool.{and_parts, false≢true}
use Rattle.std.proofs.lemmas.List.{append-nil}
use Rattle.ann_types.specs.Index.{Index}
use Rattle.ann_types.specs.Fold.{fold_of, merge_of}
use Rattle.ann_types.specs.Legal.{may_follow, is_legal, IsLegal}
use Rattle.ann_types.specs.Lists.{BasedList, with_entry, with_entries, is_live, pids_at, live_of}
use Rattle.ann_types.specs.declared.entry.Entry.{Entry}
use Rattle.ann_types.specs.declared.entry.Entry.TheVariants as entry
use Rattle.ann_types.proofs.Folds.{entries_then, entries_none, legal_before}
use Rattle.ann_types.proofs.Tagged.{tags_differ}
use Rattle.ann_laws.specs.Replays.{is_end}
use Rattle.ann_reopen.specs.Gone.{gone_by}
use Rattle.ann_segment.specs.Segment.{SegmentView}
use Rattle.ann_tags.specs.Tags.{map_of}
use Rattle.ann_tags.proofs.Maps.{live_is, pids_found}
use Rattle.ann_resume.specs.Applied.{IsNext, CanMake, IsMadeOf}
use Rattle.ann_resume.proofs.Applying.{may_apply, brings_none}
use Rattle.ann_view.specs.Holding.{BringsMerge}
use Rattle.ann_view.specs.Stands.{StandsFor, IsEntryOf}
use Rattle.ann_view.specs.View.{IndexView, index_of}
use Rattle.ann_view.specs.declared.op.Op.{Op}
use Rattle.ann_view.specs.declared.op.Op.TheVariants as op
use Rattle.std.specs.declared.sync.Arc.{Arc}
use Rattle.std.specs.declared.alloc.Global.{Global}
use Rattle.ann_segment.specs.Holds.{Holds}
use Rattle.ann_account.specs.Account.{AccountView, IsAccountOf}
use Rattle.ann_account.specs.Entered.{entered, waits}
use Rattle.ann_account.specs.Steps.{IsStep, AreSteps, Lead, Bring, LeadOn, CanNote, HoldsMerge, IsNoted, MayEndWith, StillLead}
use Rattle.ann_account.proofs.Entering.{legal_here, follows, waiting_same, waits_is}

-- ---- one more behind others

then_one : (h : BasedList) (e : Entry) (es : List Entry) → with_entries (with_entry h e) es ≡ with_entries h (e ∷ es)
then_one h e es = entries_then h (e ∷ []) es

steps_more : {S : Type 0} (index : Index) (h : BasedList) (ops : List (Op S)) (es : List Entry) (op : Op S) (e : Entry) → AreSteps index h ops es → IsStep index (with_entries h es) op e → AreSteps index h (ops ++ op ∷ []) (es ++ e ∷ [])
steps_more index h [] [] op e s one = (subst (λ (g : BasedList). IsStep index g op e) (entries_none h) one, tt)
steps_more index h [] (f ∷ es) op e s one = absurd s
steps_more index h (o ∷ ops) [] op e s one = absurd s
steps_more index h (o ∷ ops) (f ∷ es) op e s one =
    (s.0, steps_more index (with_entry h f) ops es op e s.1 (subst (λ (g : BasedList). IsStep index g op e) (sym (then_one h f es)) one))

bring_more : {S : Type 0} (bytes : S → List ℕ) (index : Index) (h : BasedList) (ops : List (Op S)) (es : List Entry) (op : Op S) (e : Entry) → AreSteps index h ops es → Bring bytes index h ops es → ((view : IndexView S) → index_of view ≡ index → BringsMerge bytes view (with_entries h es) op) → Bring bytes index h (ops ++ op ∷ []) (es ++ e ∷ [])
bring_more bytes index h [] [] op e s b one = (λ view same. subst (λ (g : BasedList). BringsMerge bytes view g op) (entries_none h) (one view same), tt)
bring_more bytes index h [] (f ∷ es) op e s b one = absurd s
bring_more bytes index h (o ∷ ops) [] op e s b one = absurd s
bring_more bytes index h (o ∷ ops) (f ∷ es) op e s b one =
    (b.0, bring_more bytes index (with_entry h f) ops es op e s.1 b.1 (λ view same. subst (λ (g : BasedList). BringsMerge bytes view g op) (sym (then_one h f es)) (one view same)))

pub lead_more : {S : Type 0} (index : Index) (shown h : BasedList) (ops ops' : List (Op S)) (op : Op S) (e : Entry) → ops' ≡ ops ++ op ∷ [] → IsStep index h op e → Lead index shown h ops → Lead index shown (with_entry h e) ops'
lead_more index shown h ops ops' op e more one l = record {
  entries = l.entries ++ e ∷ [];
  whole = ap (λ (g : BasedList). with_entry g e) l.whole ∙ entries_then shown l.entries (e ∷ []);
  steps =
      subst (λ os. AreSteps index shown os (l.entries ++ e ∷ [])) (sym more)
      (steps_more index shown ops l.entries op e l.steps (subst (λ (g : BasedList). IsStep index g op e) l.whole one));
}

pub lead_on_more : {S : Type 0} (bytes : S → List ℕ) (index : Index) (shown h : BasedList) (ops ops' : List (Op S)) (op : Op S) (e : Entry) → ops' ≡ ops ++ op ∷ [] → IsStep index h op e → ((view : IndexView S) → index_of view ≡ index → BringsMerge bytes view h op) → LeadOn bytes index shown h ops → LeadOn bytes index shown (with_entry h e) ops'
unfolding lead_more
lead_on_more bytes index shown h ops ops' op e more one brings (l, b) = (
  lead_more index shown h ops ops' op e more one l,
  subst (λ os. Bring bytes index shown os (l.entries ++ e ∷ [])) (sym more)
      (bring_more bytes index shown ops l.entries op e l.steps b
      (λ view same. subst (λ (g : BasedList). BringsMerge bytes view g op) l.whole (brings view same))),
)

-- ---- the operation of an entry that is no End

pid_of : (index : Index) (h : BasedList) (tag pid : ℕ) (pid_gone : Option ℕ) → IsLegal index h → pid_gone ≡ Some pid → pid_gone ≡ get (map_of (live_of h)) tag → pids_at (live_of h) tag ≡ pid ∷ []
pid_of index h tag pid pid_gone legal is found = pids_found (live_of h) tag pid (tags_differ index.params h legal.base) (sym found ∙ is)

made_is : {S : Type 0} (index : Index) (h : BasedList) (pid_gone : Option ℕ) (e : Entry) (op : Op S) → IsLegal index h → pid_gone ≡ gone_by (map_of (live_of h)) e → IsMadeOf e pid_gone op → IsEntryOf h op e
made_is index h pid_gone (entry.Insert by tag vector) op legal d m = subst (λ (o : Op _). IsEntryOf h o (entry.Insert by tag vector)) (sym m) (by, refl)
made_is index h pid_gone (entry.Delete by tag) op legal d (pid, is, m) =
    subst (λ (o : Op _). IsEntryOf h o (entry.Delete by tag)) (sym m) (by, tag, refl, pid_of index h tag pid pid_gone legal is d)
made_is index h pid_gone (entry.Begin by) op legal d m = subst (λ (o : Op _). IsEntryOf h o (entry.Begin by)) (sym m) (by, refl)
made_is index h pid_gone (entry.End by segment) op legal d m = absurd m
made_is index h pid_gone (entry.Replace by tag vector) op legal d (pid, is, m) =
    subst (λ (o : Op _). IsEntryOf h o (entry.Replace by tag vector)) (sym m) (by, refl, pid_of index h tag pid pid_gone legal is d)

next_here : {S : Type 0} (index : Index) (h : BasedList) (pid_gone : Option ℕ) (e : Entry) (view : IndexView S) → IsLegal index (with_entry h e) → is_end e ≡ false → pid_gone ≡ gone_by (map_of (live_of h)) e → index_of view ≡ index → StandsFor view h → IsNext view h e pid_gone
next_here index h pid_gone e view legal none deletes same stands = record {
  stands = stands;
  legal = subst (λ (i : Index). IsLegal i (with_entry h e)) (sym same) legal;
  no_end = none;
  deletes = deletes;
}

pub is_step : {S : Type 0} (index : Index) (h : BasedList) (pid_gone : Option ℕ) (e : Entry) (op : Op S) → IsLegal index (with_entry h e) → is_end e ≡ false → pid_gone ≡ gone_by (map_of (live_of h)) e → IsMadeOf e pid_gone op → IsStep index h op e
is_step index h pid_gone e op legal none deletes made = record {
  stands = made_is index h pid_gone e op (legal_here index h e legal) deletes made;
  applies = λ view same stands. may_apply view h pid_gone e op (next_here index h pid_gone e view legal none deletes same stands) made;
}

pub brings : {S : Type 0} (bytes : S → List ℕ) (index : Index) (h : BasedList) (pid_gone : Option ℕ) (e : Entry) (op : Op S) → IsMadeOf e pid_gone op → (view : IndexView S) → index_of view ≡ index → BringsMerge bytes view h op
brings bytes index h pid_gone e op made view same = brings_none view h pid_gone bytes e op made

some_found : (h : BasedList) (tag : ℕ) (pid_gone : Option ℕ) → pid_gone ≡ get (map_of (live_of h)) tag → is_live (live_of h) tag ≡ true → IsSome pid_gone
some_found h tag pid_gone is live_now = subst (λ (o : Option ℕ). IsSome o) (sym is) (sym (live_is (live_of h) tag) ∙ live_now)

made_one : (index : Index) (h : BasedList) (pid_gone : Option ℕ) (e : Entry) → may_follow index.params h (fold_of index h) e ≡ true → is_end e ≡ false → pid_gone ≡ gone_by (map_of (live_of h)) e → CanMake e pid_gone
made_one index h pid_gone (entry.Insert by tag vector) f none d = tt
made_one index h pid_gone (entry.Delete by tag) f none d = some_found h tag pid_gone d f
made_one index h pid_gone (entry.Begin by) f none d = tt
made_one index h pid_gone (entry.End by segment) f none d = false≢true (sym none)
made_one index h pid_gone (entry.Replace by tag vector) f none d = some_found h tag pid_gone d (and_parts _ _ f).1

pub can_be_made : (index : Index) (h : BasedList) (pid_gone : Option ℕ) (e : Entry) → IsLegal index (with_entry h e) → is_end e ≡ false → pid_gone ≡ gone_by (map_of (live_of h)) e → CanMake e pid_gone
can_be_made index h pid_gone e legal none d = made_one index h pid_gone e (follows index h e legal) none d

-- ---- notes

module _ {S : Type 0} (index : Index) (h : BasedList) (a : AccountView S) (e : Entry) (op : Op S) (can : CanNote index h (e ∷ []) a) (one : IsStep index h op e) where
  more : (waits (entered a e) op).waiting ≡ a.waiting ++ op ∷ []
  more = ap (λ os. os ++ op ∷ []) (waiting_same a e)

  -- An account with an entry more, whose operation waits.
  pub noted_one : IsNoted index h (e ∷ []) a (waits (entered a e) op)
  noted_one = record {
    account_is = waits_is index h a e op can;
    leads = λ shown l. lead_more index shown h a.waiting (waits (entered a e) op).waiting op e more one l;
  }

  pub still_one : (bytes : S → List ℕ) → ((view : IndexView S) → index_of view ≡ index → BringsMerge bytes view h op) → StillLead bytes index h (e ∷ []) a (waits (entered a e) op)
  still_one bytes brings shown l = lead_on_more bytes index shown h a.waiting (waits (entered a e) op).waiting op e more one brings l

-- ---- several notes

pub noted_none : {S : Type 0} (index : Index) (h : BasedList) (a : AccountView S) → IsAccountOf index h a → IsNoted index h [] a a
noted_none index h a is = record {
  account_is = subst (λ (g : BasedList). IsAccountOf index g a) (sym (entries_none h)) is;
  leads = λ shown l. subst (λ (g : BasedList). Lead index shown g a.waiting) (sym (entries_none h)) l;
}

pub still_none : {S : Type 0} (bytes : S → List ℕ) (index : Index) (h : BasedList) (a : AccountView S) → StillLead bytes index h [] a a
still_none bytes index h a shown l = subst (λ (g : BasedList). LeadOn bytes index shown g a.waiting) (sym (entries_none h)) l

pub noted_then : {S : Type 0} (index : Index) (h : BasedList) (es fs : List Entry) (a b c : AccountView S) → IsNoted index h es a b → IsNoted index (with_entries h es) fs b c → IsNoted index h (es ++ fs) a c
noted_then index h es fs a b c first second = record {
  account_is = subst (λ (g : BasedList). IsAccountOf index g c) (entries_then h es fs) second.account_is;
  leads = λ shown l. subst (λ (g : BasedList). Lead index shown g c.waiting) (entries_then h es fs) (second.leads shown (first.leads shown l));
}

pub still_then : {S : Type 0} (bytes : S → List ℕ) (index : Index) (h : BasedList) (es fs : List Entry) (a b c : AccountView S) → StillLead bytes index h es a b → StillLead bytes index (with_entries h es) fs b c → StillLead bytes index h (es ++ fs) a c
still_then bytes index h es fs a b c first second shown l = subst (λ (g : BasedList). LeadOn bytes index shown g c.waiting) (entries_then h es fs) (second shown (first shown l))

-- the next entry can be noted
pub can_next : {S : Type 0} (index : Index) (h : BasedList) (es rest : List Entry) (e : Entry) (b : AccountView S) → IsAccountOf index (with_entries h es) b → IsLegal index (with_entries h (es ++ e ∷ rest)) → CanNote index (with_entries h es) (e ∷ []) b
can_next index h es rest e b is legal = record {
  account_is = is;
  legal = record {
    base = legal.base;
    entries =
        legal_before index (with_entry (with_entries h es) e) rest
        (ap (is_legal index) (then_one (with_entries h es) e rest ∙ entries_then h es (e ∷ rest)) ∙ legal.entries);
  };
}

-- ---- the End

pub end_step : {S : Type 0} (index : Index) (h : BasedList) (by : ℕ) (segment : Arc (SegmentView S) Global) (a : AccountView S) → MayEndWith index h by segment.value a → IsStep index h (op.End segment) (entry.End by segment.value.number)
end_step index h by segment a may = record {
  stands = (by, refl);
  applies = λ view same stands. may.ends view same stands;
}

index_parts : {S : Type 0} (bytes : S → List ℕ) (index : Index) (h : BasedList) (segment : SegmentView S) (view : IndexView S) → index_of view ≡ index → HoldsMerge bytes index h segment → Holds view.params view.book.book (bytes segment.seal) segment (merge_of (index_of view) (fold_of (index_of view) h) (fold_of (index_of view) h).begun)
index_parts bytes index h segment view same holds =
    subst (λ (i : Index). Holds i.params i.book (bytes segment.seal) segment (merge_of i (fold_of i h) (fold_of i h).begun)) (sym same) holds

pub end_brings : {S : Type 0} (bytes : S → List ℕ) (index : Index) (h : BasedList) (segment : Arc (SegmentView S) Global) → HoldsMerge bytes index h segment.value → (view : IndexView S) → index_of view ≡ index → BringsMerge bytes view h (op.End segment)
end_brings bytes index h segment holds view same = index_parts bytes index h segment.value view same holds

-- the first of some values, and those behind it
pub first_out : {A : Type 0} (xs ys : List A) (x : A) → 0 < length xs → x ≡ get_or xs 0 x → ys ≡ take 0 xs ++ drop 1 xs → xs ≡ x ∷ ys
first_out [] ys x some is rest = absurd (omega (arith, some))
first_out (z ∷ xs) ys x some is rest = ap (λ w. w ∷ xs) (sym is) ∙ ap (λ w. x ∷ w) (sym rest)

-- where none are left, the front is the whole
pub none_left : {A : Type 0} (front rest whole : List A) → (0 < length rest → ⊥) → front ++ rest ≡ whole → front ≡ whole
none_left front [] whole none all = sym (append-nil front) ∙ all
none_left front (x ∷ rest) whole none all = absurd (none (omega arith))
