-- What the line of a fill is worth.
use Rattle.std.proofs.Common.{◌≡◌, ℕ, zero, suc, ◌+◌, ◌*◌, ◌<◌, ◌≤◌, max, Bool, true, false, cond, List, [], ◌∷◌, ◌++◌, Some, refl, sym, ap, ◌∙◌, subst, arith, map, filter, take, drop, length, inl, inr, take-add, drop-drop, length-append, length-drop}
use Rattle.std.proofs.lemmas.List.{take_all, drop_at, take-take, take-append-le, drop-append-le, drop-take, drop_all, length-take, length-take-le, length-map, map-append, take_min}
use Rattle.std.proofs.lemmas.Bool.{cases_lt}
use Rattle.ann_types.specs.Index.{Index}
use Rattle.ann_types.specs.Lists.{BasedList, upto, with_entries, length_of}
use Rattle.ann_types.specs.Judge.{Refusal, entry_of, judge_all}
use Rattle.ann_types.specs.declared.change.Change.{Change}
use Rattle.ann_types.specs.declared.change.Change.TheVariants.{Insert}
use Rattle.ann_types.specs.declared.entry.Entry.{Entry}
use Rattle.ann_script.specs.Generator.{after, made, inserts, batch_of}
use Rattle.ann_script.specs.Order.{Fill}
use Rattle.ann_script.proofs.Generating.{length-inserts}
use Rattle.ann_transcript.specs.declared.reply.UpdateWord.{UpdateWord}
use Rattle.ann_transcript.specs.declared.reply.UpdateWord.TheVariants.{Stopped, MemoryLogged}
use Rattle.ann_transcript.specs.declared.reply.Reply.TheVariants.{Filled, Cut}
use Rattle.ann_reply.specs.Reply.{word_of}
use Rattle.ann_said.specs.Owned.{Placed, placed_from, entries_of, own, past, reach, StandTogether}
use Rattle.ann_said.specs.Seen.{refusal_seen}
use Rattle.ann_said.specs.Table.{Turn, behind_first, AreFirst, AreRefused, AreFilled, AreCut}
use Rattle.ann_said.specs.Said.{Line, line, turn_at}
use Rattle.ann_said.specs.Knowing.{Known, with_more, HasOwn, HasOwnCause, spot, MayLeave, SaidUpTo, IsSaidSoFar, MakesSoFar}
use Rattle.ann_said.proofs.Prefixes.{begins_length}
use Rattle.ann_said.proofs.Owning.{is_of, length_placed, reach-append}
use Rattle.ann_said.proofs.Adding.{said_push}
use Rattle.ann_said.proofs.Replying.{Ends, tells, fewer, changes_end, next_reach, judged_refused, judged_seen, caused_refused, caused_seen, stopped_at}

-- ---- the inserts of a fill

-- fewer inserts are the first of more
inserts_take : (d x tag n count : ℕ) → n ≤ count → take n (inserts d x tag count) ≡ inserts d x tag n
inserts_take d x tag zero count few = refl
inserts_take d x tag (suc n) zero few = absurd (omega (arith, few))
inserts_take d x tag (suc n) (suc count) few = ap (λ (cs : List Change). Insert tag (made x d) ∷ cs) (inserts_take d (after x d) (tag + 1) n count (omega (arith, few)))

-- behind whole updates come those of the next one
inserts_next : (d seed count first updates : ℕ) → 64 * updates ≤ count → inserts d seed first (64 * updates + length (batch_of d seed count first updates)) ≡ inserts d seed first (64 * updates) ++ batch_of d seed count first updates
inserts_next d seed count first updates few =
    let all : List Change = inserts d seed first count in
    let next : List Change = drop (64 * updates) all in
    let whole = length-inserts d seed first count in
    let left = length-drop (64 * updates) all in
    let size = length-take 64 next in
    let rest : take (length (take 64 next)) next ≡ take 64 next = ap (λ (n : ℕ). take n next) size ∙ take_min 64 next in
    sym (inserts_take d seed first (64 * updates + length (take 64 next)) count (omega (arith, whole, left, size, few)))
    ∙ take-add (64 * updates) (length (take 64 next)) all
    ∙ ap (λ (cs : List Change). cs ++ take (length (take 64 next)) next) (inserts_take d seed first (64 * updates) count few)
    ∙ ap (λ (cs : List Change). inserts d seed first (64 * updates) ++ cs) rest

batch_small : (d seed count first updates : ℕ) → length (batch_of d seed count first updates) ≤ 64
batch_small d seed count first updates = let size = length-take 64 (drop (64 * updates) (inserts d seed first count)) in omega (arith, size)

-- ---- entries that stand side by side

entries_placed : (n : ℕ) (es : List Entry) → entries_of (placed_from n es) ≡ es
entries_placed n [] = refl
entries_placed n (e ∷ es) = ap (λ (fs : List Entry). e ∷ fs) (entries_placed (n + 1) es)

together_placed : (n : ℕ) (es : List Entry) → StandTogether (placed_from n es)
together_placed n es = record { first = n; are = ap (placed_from n) (sym (entries_placed n es)) }

-- behind whole updates of entries that stand together there are more such, at most as many as an update has
together_more : (ps qs : List Placed) (updates : ℕ) → length ps ≡ 64 * updates → length qs ≤ 64 → StandTogether qs → ((i : ℕ) → StandTogether (take 64 (drop (64 * i) ps))) → (i : ℕ) → StandTogether (take 64 (drop (64 * i) (ps ++ qs)))
together_more ps qs updates size small new old i = elim (cases_lt i updates) [
  | inl before ↦ (
      let rest = length-drop (64 * i) ps in
      let same : take 64 (drop (64 * i) (ps ++ qs)) ≡ take 64 (drop (64 * i) ps) =
      ap (take 64) (drop-append-le (64 * i) ps qs (omega (arith, size, before)))
      ∙ take-append-le 64 (drop (64 * i) ps) qs (omega (arith, rest, size, before)) in
      subst StandTogether (sym same) (old i)
      )
  | inr behind ↦ elim (cases_lt updates i) [
    | inl past ↦ (
        let both = length-append ps qs in
        let none : take 64 (drop (64 * i) (ps ++ qs)) ≡ [] = ap (take 64) (drop_all (64 * i) (ps ++ qs) (omega (arith, both, size, small, past))) in
        subst StandTogether (sym none) (record { first = 0; are = refl })
        )
    | inr here ↦ (
        let at : length ps ≡ 64 * i = omega (arith, size, behind, here) in
        let same : take 64 (drop (64 * i) (ps ++ qs)) ≡ qs = ap (take 64) (drop_at ps qs (64 * i) at) ∙ take_all 64 qs small in
        subst StandTogether (sym same) new
        )
  ]
]

-- ---- under way

pub filled_none : (index : Index) (h0 : BasedList) (known : Known) (seed first : ℕ) → MakesSoFar index h0 known 0 (AreFirst index known.client seed first 0)
filled_none index h0 known seed first h may = record { entries = refl; updates = λ i. subst StandTogether (sym (nothing i)) (record { first = 0; are = refl }) }
  where
    nothing : (i : ℕ) → take 64 (drop {A = Placed} (64 * i) []) ≡ []
    nothing i = ap (take 64) (drop_all (64 * i) [] (omega arith))

-- the next entries, in two parts
parts : (n done more : ℕ) (ps : List Placed) → take (done + more) (drop n ps) ≡ take done (drop n ps) ++ take more (drop (n + done) ps)
parts n done more ps = take-add done more (drop n ps) ∙ ap (λ (qs : List Placed). take done (drop n ps) ++ take more qs) (drop-drop done n ps)

-- the end of the told prefix, where an update's changes are
batch_end : (index : Index) (h0 before h : BasedList) (known : Known) (done at : ℕ) (batch : List Change) → MayLeave index h0 (with_more known (done + length batch)) h → HasOwn h0 known.told known.client (known.entries + (done + length batch)) at → upto known.told at ≡ with_entries before (map (entry_of known.client) batch) → Ends h0 known.told h known.client (known.entries + done) (map (entry_of known.client) batch) at
batch_end index h0 before h known done at batch may has is =
    let sum : known.entries + (done + length batch) ≡ known.entries + done + length batch = omega arith in
    changes_end h0 known.told h before known.client (known.entries + done) batch at may.told (subst (λ (n : ℕ). HasOwn h0 known.told known.client n at) sum has) is

-- they are the next of the client
batch_next : (h0 t h : BasedList) (client n at : ℕ) (batch : List Change) (e : Ends h0 t h client n (map (entry_of client) batch) at) → take (length batch) (drop n (own h0 h client)) ≡ placed_from e.first (map (entry_of client) batch)
batch_next h0 t h client n at batch e = ap (λ (m : ℕ). take m (drop n (own h0 h client))) (sym (length-map batch (entry_of client))) ∙ e.next

still : (index : Index) (h0 h : BasedList) (known : Known) (n m : ℕ) → n ≤ m → MayLeave index h0 (with_more known m) h → MayLeave index h0 (with_more known n) h
still index h0 h known n m less may = (let enough = may.entries in record { legal = may.legal; begins = may.begins; seen = may.seen; told = may.told; entries = omega (arith, enough, less); stop = may.stop })

first_of_fill : (index : Index) (client seed count first updates : ℕ) (ps qs : List Placed) (n : ℕ) → 64 * updates ≤ count → AreFirst index client seed first (64 * updates) ps → qs ≡ placed_from n (map (entry_of client) (batch_of index.params.d seed count first updates)) → AreFirst index client seed first (64 * updates + length (batch_of index.params.d seed count first updates)) (ps ++ qs)
first_of_fill index client seed count first updates ps qs n few so are =
    let batch : List Change = batch_of index.params.d seed count first updates in
    let old : List Change = inserts index.params.d seed first (64 * updates) in
    let made_old = sym (length-map ps (λ (p : Placed). p.entry)) ∙ ap length so.entries ∙ length-map old (entry_of client) ∙ length-inserts index.params.d seed first (64 * updates) in
    let made_new = ap length are ∙ length_placed n (map (entry_of client) batch) ∙ length-map batch (entry_of client) in
    let small = batch_small index.params.d seed count first updates in
    record {
      entries =
          map-append (λ (p : Placed). p.entry) ps qs
          ∙ ap (λ (es : List Entry). es ++ entries_of qs) so.entries
          ∙ ap (λ (es : List Entry). map (entry_of client) old ++ es) (ap entries_of are ∙ entries_placed n (map (entry_of client) batch))
          ∙ sym (map-append (entry_of client) old batch)
          ∙ ap (map (entry_of client)) (sym (inserts_next index.params.d seed count first updates few));
      updates = together_more ps qs updates made_old (omega (arith, made_new, small)) (subst StandTogether (sym are) (together_placed n (map (entry_of client) batch))) so.updates;
    }

pub filled_next : (index : Index) (h0 before : BasedList) (known : Known) (seed count first updates at : ℕ) (batch : List Change) → batch ≡ batch_of index.params.d seed count first updates → 64 * updates ≤ count → HasOwn h0 known.told known.client (known.entries + (64 * updates + length batch)) at → upto known.told at ≡ with_entries before (map (entry_of known.client) batch) → MakesSoFar index h0 known (64 * updates) (AreFirst index known.client seed first (64 * updates)) → MakesSoFar index h0 known (64 * updates + length batch) (AreFirst index known.client seed first (64 * updates + length batch))
filled_next index h0 before known seed count first updates at batch batch_is few has is makes h may =
    let all : List Placed = own h0 h known.client in
    let done : ℕ = 64 * updates in
    let e = batch_end index h0 before h known done at batch may has is in
    let ps : List Placed = take done (drop known.entries all) in
    let qs : List Placed = take (length batch) (drop (known.entries + done) all) in
    let next : qs ≡ placed_from e.first (map (entry_of known.client) batch) = batch_next h0 known.told h known.client (known.entries + done) at batch e in
    let old : AreFirst index known.client seed first done ps = makes h (still index h0 h known done (done + length batch) (omega arith) may) in
    let new = first_of_fill index known.client seed count first updates ps qs e.first few old (next ∙ ap (λ (cs : List Change). placed_from e.first (map (entry_of known.client) cs)) batch_is) in
    subst (λ (rs : List Placed). AreFirst index known.client seed first (done + length batch) rs) (sym (parts known.entries done (length batch) all))
    (subst (λ (cs : List Change). AreFirst index known.client seed first (done + length cs) (ps ++ qs)) (sym batch_is) new)

-- ---- how far they reach

reach_whole : (n : ℕ) (es : List Entry) → 1 ≤ length es → reach (placed_from n es) ≡ n + length es
reach_whole n [] some = absurd (omega (arith, some))
reach_whole n (e ∷ []) some = omega arith
reach_whole n (e ∷ f ∷ es) some = let rest = reach_whole (n + 1) (f ∷ es) (omega arith) in omega (arith, rest)

pub filled_end : (index : Index) (h0 before : BasedList) (known : Known) (done at : ℕ) (batch : List Change) → 1 ≤ length batch → HasOwn h0 known.told known.client (known.entries + (done + length batch)) at → upto known.told at ≡ with_entries before (map (entry_of known.client) batch) → MakesSoFar index h0 known (done + length batch) (λ ps. reach ps ≡ at)
filled_end index h0 before known done at batch some has is h may =
    let all : List Placed = own h0 h known.client in
    let e = batch_end index h0 before h known done at batch may has is in
    let t = tells h0 known.told h known.client (known.entries + (done + length batch)) at may.told has in
    let as_many = length-map batch (entry_of known.client) in
    let last = ap reach (batch_next h0 known.told h known.client (known.entries + done) at batch e) ∙ reach_whole e.first (map (entry_of known.client) batch) (omega (arith, some, as_many)) in
    let both = ap reach (parts known.entries done (length batch) all) ∙ reach-append (take done (drop known.entries all)) (take (length batch) (drop (known.entries + done) all)) in
    let far = next_reach known.entries (done + length batch) all in
    let within = t.far in
    let end = e.end in
    omega (arith, last, both, far, within, end)

-- ---- entries past h0 are at positions behind it

abbrev AreFrom : ℕ → List Placed → Type 0
AreFrom n [] = Unit {0}
AreFrom n (p ∷ ps) = (n ≤ p.position) × AreFrom n ps

from_placed : (n m : ℕ) (es : List Entry) → n ≤ m → AreFrom n (placed_from m es)
from_placed n m [] le = tt
from_placed n m (e ∷ es) le = (le, from_placed n (m + 1) es (omega (arith, le)))

from_filter : (n : ℕ) (test : Placed → Bool) (ps : List Placed) → AreFrom n ps → AreFrom n (filter test ps)
from_filter n test [] all = tt
from_filter n test (p ∷ ps) all = elim (test p) as (λ b. AreFrom n (cond b (p ∷ filter test ps) (filter test ps))) [ true ↦ (all.0, from_filter n test ps all.1) | false ↦ from_filter n test ps all.1 ]

from_drop : (n m : ℕ) (ps : List Placed) → AreFrom n ps → AreFrom n (drop m ps)
from_drop n zero ps all = all
from_drop n (suc m) [] all = tt
from_drop n (suc m) (p ∷ ps) all = from_drop n m ps all.1

from_take : (n m : ℕ) (ps : List Placed) → AreFrom n ps → AreFrom n (take m ps)
from_take n zero ps all = tt
from_take n (suc m) [] all = tt
from_take n (suc m) (p ∷ ps) all = (all.0, from_take n m ps all.1)

from_reach : (n : ℕ) (ps : List Placed) → 1 ≤ length ps → AreFrom n ps → n ≤ reach ps
from_reach n [] some all = absurd (omega (arith, some))
from_reach n (p ∷ ps) some all = let first = all.0 in omega (arith, first)

own_from : (h0 h : BasedList) (client : ℕ) → AreFrom (length_of h0) (own h0 h client)
own_from h0 h client = from_filter (length_of h0) (is_of client) (past h0 h) (from_placed (length_of h0) (length_of h0) (drop (length h0.entries) h.entries) (omega arith))

-- ---- all were accepted

pub said_filled : (index : Index) (h0 : BasedList) (known : Known) (ls : List Line) (seed count first at : ℕ) → 1 ≤ count → at ≤ length_of known.told → MakesSoFar index h0 known count (AreFirst index known.client seed first count) → MakesSoFar index h0 known count (λ ps. reach ps ≡ at) → IsSaidSoFar index h0 known ls → IsSaidSoFar index h0 (with_more known count) (ls ++ line (Fill seed count first) (Filled count at) count ∷ [])
said_filled index h0 known ls seed count first at some told makes ends so h may =
    let all : List Placed = own h0 h known.client in
    let s = so h (fewer index h0 h known count may) in
    let rest = length-drop known.entries all in
    let enough = may.entries in
    let size = length-take-le count (drop known.entries all) (omega (arith, rest, enough)) in
    let end : reach (take count (drop known.entries all)) ≡ at = ends h may in
    let from = from_reach (length_of h0) (take count (drop known.entries all)) (omega (arith, size, some)) (from_take (length_of h0) count (drop known.entries all) (from_drop (length_of h0) known.entries all (own_from h0 h known.client))) in
    let longer = begins_length h known.told may.told in
    let right : AreFilled index h0 h (turn_at (spot h0 h known s.covers) count) seed first count at = record {
      between = (omega (arith, from, end), omega (arith, told, longer));
      entries = makes h may;
      end = end;
    } in
    let most = s.most in
    said_push index h0 h known ls (line (Fill seed count first) (Filled count at) count) s (right, refl) (omega (arith, most, end, told))

-- ---- the next update was refused

-- a fill's line with so many of its inserts, and so many entries of the refused update
cut_line : (index : Index) (h0 h : BasedList) (known : Known) (ls : List Line) (seed count first updates more : ℕ) (why : UpdateWord) → 64 * updates < count → MayLeave index h0 (with_more known (64 * updates + more)) h → MakesSoFar index h0 known (64 * updates) (AreFirst index known.client seed first (64 * updates)) → IsSaidSoFar index h0 known ls → ((t : Turn) → t.client ≡ known.client → t.earlier ≡ take (known.entries + 64 * updates) (own h0 h known.client) → t.own ≡ take more (drop (known.entries + 64 * updates) (own h0 h known.client)) → AreRefused index h0 h t (batch_of index.params.d seed count first updates) why) → reach (take (64 * updates) (drop known.entries (own h0 h known.client))) ≤ max (length_of known.seen) (length_of known.told) → refusal_seen why ≤ max (length_of known.seen) (length_of known.told) → SaidUpTo index h0 h (with_more known (64 * updates + more)) (ls ++ line (Fill seed count first) (Cut (64 * updates) why) (64 * updates + more) ∷ [])
cut_line index h0 h known ls seed count first updates more why less may makes so refused reached seen =
    let all : List Placed = own h0 h known.client in
    let done : ℕ = 64 * updates in
    let s = so h (fewer index h0 h known (done + more) may) in
    let t : Turn = turn_at (spot h0 h known s.covers) (done + more) in
    let front : take done t.own ≡ take done (drop known.entries all) = take-take done (done + more) (drop known.entries all) (omega arith) in
    let back : drop done t.own ≡ take more (drop (known.entries + done) all) = drop-take done more (drop known.entries all) ∙ ap (take more) (drop-drop done known.entries all) in
    let before : take known.entries all ++ take done t.own ≡ take (known.entries + done) all = ap (λ (ps : List Placed). take known.entries all ++ ps) front ∙ sym (take-add known.entries done all) in
    let right : AreCut index h0 h t seed first count done why = record {
      updates = updates;
      whole = refl;
      more = less;
      entries = subst (λ (ps : List Placed). AreFirst index known.client seed first done ps) (sym front) (makes h (still index h0 h known done (done + more) (omega arith) may));
      next = refused (behind_first done t) refl before back;
    } in
    let most = s.most in
    let reached' = ap reach front in
    said_push index h0 h known ls (line (Fill seed count first) (Cut done why) (done + more)) s right (omega (arith, most, reached, reached', seen))

-- where the refused update has no entries
cut_lone : (index : Index) (h0 h : BasedList) (known : Known) (ls : List Line) (seed count first updates : ℕ) (why : UpdateWord) → 64 * updates < count → MayLeave index h0 (with_more known (64 * updates)) h → MakesSoFar index h0 known (64 * updates) (AreFirst index known.client seed first (64 * updates)) → IsSaidSoFar index h0 known ls → ((t : Turn) → t.client ≡ known.client → t.earlier ≡ take (known.entries + 64 * updates) (own h0 h known.client) → t.own ≡ [] → AreRefused index h0 h t (batch_of index.params.d seed count first updates) why) → reach (take (64 * updates) (drop known.entries (own h0 h known.client))) ≤ max (length_of known.seen) (length_of known.told) → refusal_seen why ≤ max (length_of known.seen) (length_of known.told) → SaidUpTo index h0 h (with_more known (64 * updates)) (ls ++ line (Fill seed count first) (Cut (64 * updates) why) (64 * updates) ∷ [])
cut_lone index h0 h known ls seed count first updates why less may makes so refused reached seen =
    let same : 64 * updates + 0 ≡ 64 * updates = omega arith in
    subst (λ (n : ℕ). SaidUpTo index h0 h (with_more known n) (ls ++ line (Fill seed count first) (Cut (64 * updates) why) n ∷ [])) same
    (cut_line index h0 h known ls seed count first updates 0 why less (subst (λ (n : ℕ). MayLeave index h0 (with_more known n) h) (sym same) may) makes so (λ t client earlier mine. refused t client earlier mine) reached seen)

pub said_cut_judged : (index : Index) (h0 : BasedList) (known : Known) (ls : List Line) (seed count first updates : ℕ) (place : ℕ) (why : Refusal) (at : ℕ) → 64 * updates < count → HasOwn h0 known.told known.client (known.entries + 64 * updates) at → judge_all index.params (upto known.told at) known.client (batch_of index.params.d seed count first updates) ≡ Some (place, why) → MakesSoFar index h0 known (64 * updates) (AreFirst index known.client seed first (64 * updates)) → IsSaidSoFar index h0 known ls → IsSaidSoFar index h0 (with_more known (64 * updates)) (ls ++ line (Fill seed count first) (Cut (64 * updates) (word_of place why at)) (64 * updates) ∷ [])
said_cut_judged index h0 known ls seed count first updates place why at less has refused makes so h may =
    let all : List Placed = own h0 h known.client in
    let batch : List Change = batch_of index.params.d seed count first updates in
    let t = tells h0 known.told h known.client (known.entries + 64 * updates) at may.told has in
    let far = next_reach known.entries (64 * updates) all in
    let within = t.far in
    let long = has.long in
    let seen = judged_seen place at why in
    cut_lone index h0 h known ls seed count first updates (word_of place why at) less may makes so
    (λ turn client earlier mine. judged_refused index h0 h turn batch place at why (record {
      about = record { between = t.between; earlier = subst (λ (ps : List Placed). reach ps ≤ at) (sym earlier) t.far; none = mine };
      refused = ap (λ (c : ℕ). judge_all index.params (upto h at) c batch) client ∙ ap (λ (g : BasedList). judge_all index.params g known.client batch) t.same ∙ refused;
    }))
    (omega (arith, far, within, long))
    (omega (arith, seen, long))

pub said_cut_caused : (index : Index) (h0 : BasedList) (known : Known) (ls : List Line) (seed count first updates at : ℕ) (why : UpdateWord) → 64 * updates < count → HasOwnCause why → at ≤ length_of known.told → MakesSoFar index h0 known (64 * updates) (AreFirst index known.client seed first (64 * updates)) → MakesSoFar index h0 known (64 * updates) (λ ps. reach ps ≡ at) → IsSaidSoFar index h0 known ls → IsSaidSoFar index h0 (with_more known (64 * updates)) (ls ++ line (Fill seed count first) (Cut (64 * updates) why) (64 * updates) ∷ [])
said_cut_caused index h0 known ls seed count first updates at why less cause told makes ends so h may =
    let end : reach (take (64 * updates) (drop known.entries (own h0 h known.client))) ≡ at = ends h may in
    let none = caused_seen why cause in
    cut_lone index h0 h known ls seed count first updates why less may makes so
    (λ turn client earlier mine. caused_refused index h0 h turn (batch_of index.params.d seed count first updates) why cause mine)
    (omega (arith, end, told))
    (omega (arith, none))

pub said_cut_stopped : (index : Index) (h0 : BasedList) (known : Known) (ls : List Line) (seed count first updates at last : ℕ) → 64 * updates < count → known.stop ≡ last + 1 → at ≤ length_of known.told → MakesSoFar index h0 known (64 * updates) (AreFirst index known.client seed first (64 * updates)) → MakesSoFar index h0 known (64 * updates) (λ ps. reach ps ≡ at) → IsSaidSoFar index h0 known ls → IsSaidSoFar index h0 (with_more known (64 * updates)) (ls ++ line (Fill seed count first) (Cut (64 * updates) (Stopped last)) (64 * updates) ∷ [])
said_cut_stopped index h0 known ls seed count first updates at last less stop told makes ends so h may =
    let end : reach (take (64 * updates) (drop known.entries (own h0 h known.client))) ≡ at = ends h may in
    cut_lone index h0 h known ls seed count first updates (Stopped last) less may makes so
    (λ turn client earlier mine. (mine, stopped_at index h0 h known last (fewer index h0 h known (64 * updates) may) stop))
    (omega (arith, end, told))
    (omega arith)

pub said_cut_logged : (index : Index) (h0 : BasedList) (known : Known) (ls : List Line) (seed count first updates at last : ℕ) (batch : List Change) → 64 * updates < count → batch ≡ batch_of index.params.d seed count first updates → at ≤ length_of known.told → MakesSoFar index h0 known (64 * updates) (AreFirst index known.client seed first (64 * updates)) → MakesSoFar index h0 known (64 * updates) (λ ps. reach ps ≡ at) → IsSaidSoFar index h0 known ls → IsSaidSoFar index h0 (with_more known (64 * updates + length batch)) (ls ++ line (Fill seed count first) (Cut (64 * updates) (MemoryLogged last)) (64 * updates + length batch) ∷ [])
said_cut_logged index h0 known ls seed count first updates at last batch less batch_is told makes ends so h may =
    let all : List Placed = own h0 h known.client in
    let end : reach (take (64 * updates) (drop known.entries all)) ≡ at = ends h (still index h0 h known (64 * updates) (64 * updates + length batch) (omega arith) may) in
    let rest = length-drop (known.entries + 64 * updates) all in
    let enough = may.entries in
    let size = length-take-le (length batch) (drop (known.entries + 64 * updates) all) (omega (arith, rest, enough)) in
    cut_line index h0 h known ls seed count first updates (length batch) (MemoryLogged last) less may makes so
    (λ turn client earlier mine. ap length mine ∙ size ∙ ap length batch_is)
    (omega (arith, end, told))
    (omega arith)
