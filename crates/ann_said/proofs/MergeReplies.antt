-- What the line of a merge is worth.
use Rattle.std.proofs.Common.{◌≡◌, ℕ, zero, suc, ◌+◌, ◌≤◌, false, List, [], ◌∷◌, ◌++◌, Some, None, refl, sym, ap, ◌∙◌, subst, arith, take, drop, length, take-add, drop-drop, length-drop}
use Rattle.std.proofs.lemmas.List.{length-take-le, drop-take, take_all, length-map}
use Rattle.ann_types.specs.Index.{Index}
use Rattle.ann_types.specs.Lists.{BasedList, upto, with_entry}
use Rattle.ann_types.specs.Fold.{Begun, fold_of}
use Rattle.ann_types.specs.Legal.{has_work}
use Rattle.ann_types.specs.declared.entry.Entry.{Entry}
use Rattle.ann_types.specs.declared.entry.Entry.TheVariants.{Begin, End}
use Rattle.ann_script.specs.Order as order
use Rattle.ann_transcript.specs.declared.reply.MergeWord.{MergeWord}
use Rattle.ann_transcript.specs.declared.reply.MergeWord.TheVariants.{Merged, Nothing, Running, Shut, Disk, BadSegment, LogFault, Stopped, Memory, MemoryLogged}
use Rattle.ann_transcript.specs.declared.reply.Reply.TheVariants.{Merge}
use Rattle.ann_said.specs.Owned.{Placed, own, entries_of}
use Rattle.ann_said.specs.Seen.{merge_seen}
use Rattle.ann_said.specs.Table.{Turn, MayBegin, IsMerged, IsIdle, IsRunning, IsMergeReply}
use Rattle.ann_said.specs.Said.{Line, line, turn_at}
use Rattle.ann_said.specs.Knowing.{Known, with_more, HasOwn, MergeHasOwnCause, spot, MayLeave, IsSaidSoFar, MakesSoFar}
use Rattle.ann_said.proofs.Owning.{own_mark}
use Rattle.ann_said.proofs.Adding.{said_push}
use Rattle.ann_said.proofs.Replying.{tells, idle, said_idle, fewer, ends, stopped_at, next_reach}

-- ---- under way

pub made_none : (index : Index) (h0 : BasedList) (known : Known) → MakesSoFar index h0 known 0 (MayBegin known.client)
made_none index h0 known h may = tt

pub made_begin : (index : Index) (h0 before : BasedList) (known : Known) (at : ℕ) → HasOwn h0 known.told known.client (known.entries + 1) at → upto known.told at ≡ with_entry before (Begin known.client) → MakesSoFar index h0 known 1 (MayBegin known.client)
made_begin index h0 before known at has is h may =
    let e = ends h0 known.told h before known.client known.entries (Begin known.client ∷ []) at (λ n. own_mark known.client n (Begin known.client) refl) may.told has is in
    subst (MayBegin known.client) (sym e.next) refl

-- the first of the entries that are left is the last of the client's
last_mark : (client n : ℕ) (ps : List Placed) (before : List Entry) → length ps ≡ n + 1 → entries_of ps ≡ before ++ Begin client ∷ [] → MayBegin client (take 1 (drop n ps))
last_mark client zero [] before size are = absurd (omega (arith, size))
last_mark client (suc n) [] before size are = absurd (omega (arith, size))
last_mark client zero (p ∷ []) [] size are = cc
last_mark client zero (p ∷ []) (e ∷ []) size are = absurd (cc)
last_mark client zero (p ∷ []) (e ∷ f ∷ before) size are = absurd (cc)
last_mark client zero (p ∷ q ∷ ps) before size are = absurd (omega (arith, size))
last_mark client (suc n) (p ∷ ps) [] size are = (let none = ap length are in let many = length-map ps (λ (q : Placed). q.entry) in absurd (omega (arith, size, none, many)))
last_mark client (suc n) (p ∷ ps) (e ∷ before) size are = last_mark client n ps before (omega (arith, size)) cc

pub made_last : (index : Index) (h0 : BasedList) (known : Known) (before : List Entry) (at : ℕ) → HasOwn h0 known.told known.client (known.entries + 1) at → entries_of (own h0 (upto known.told at) known.client) ≡ before ++ Begin known.client ∷ [] → MakesSoFar index h0 known 1 (MayBegin known.client)
made_last index h0 known before at has are h may =
    let t = tells h0 known.told h known.client (known.entries + 1) at may.told has in
    let first : take 1 (drop known.entries (own h0 h known.client)) ≡ take 1 (drop known.entries (own h0 (upto known.told at) known.client)) =
    sym (drop-take known.entries 1 (own h0 h known.client))
    ∙ ap (drop known.entries) t.mine
    ∙ sym (take_whole known.entries (own h0 (upto known.told at) known.client) has.own) in
    subst (MayBegin known.client) (sym first) (last_mark known.client known.entries (own h0 (upto known.told at) known.client) before has.own are)
  where
    take_whole : (n : ℕ) (ps : List Placed) → length ps ≡ n + 1 → take 1 (drop n ps) ≡ drop n ps
    take_whole n ps size = (let rest = length-drop n ps in take_all 1 (drop n ps) (omega (arith, rest, size)))

-- ---- ended

pub said_merged : (index : Index) (h0 before : BasedList) (known : Known) (ls : List Line) (count segment at : ℕ) → MakesSoFar index h0 known count (MayBegin known.client) → HasOwn h0 known.told known.client (known.entries + (count + 1)) at → upto known.told at ≡ with_entry before (End known.client segment) → IsSaidSoFar index h0 known ls → IsSaidSoFar index h0 (with_more known (count + 1)) (ls ++ line order.Merge (Merge (Merged segment at)) (count + 1) ∷ [])
said_merged index h0 before known ls count segment at makes has is so h may =
    let all : List Placed = own h0 h known.client in
    let es : List Entry = End known.client segment ∷ [] in
    let s = so h (fewer index h0 h known (count + 1) may) in
    let sum : known.entries + (count + 1) ≡ known.entries + count + 1 = omega arith in
    let has' : HasOwn h0 known.told known.client (known.entries + count + 1) at = subst (λ (n : ℕ). HasOwn h0 known.told known.client n at) sum has in
    let e = ends h0 known.told h before known.client (known.entries + count) es at (λ n. own_mark known.client n (End known.client segment) refl) may.told has' is in
    let t = tells h0 known.told h known.client (known.entries + (count + 1)) at may.told has in
    let parts : take (count + 1) (drop known.entries all) ≡ take count (drop known.entries all) ++ take 1 (drop (known.entries + count) all) =
    take-add count 1 (drop known.entries all) ∙ ap (λ (ps : List Placed). take count (drop known.entries all) ++ take 1 ps) (drop-drop count known.entries all) in
    let fewer' : MayLeave index h0 (with_more known count) h = (let enough = may.entries in record { legal = may.legal; begins = may.begins; seen = may.seen; told = may.told; entries = omega (arith, enough); stop = may.stop }) in
    let right : IsMerged h0 h (turn_at (spot h0 h known s.covers) (count + 1)) segment at = record {
      between = t.between;
      begun = take count (drop known.entries all);
      ended = take 1 (drop (known.entries + count) all);
      entries = parts;
      begin = makes h fewer';
      end = record { first = e.first; are = e.next; end = e.end };
    } in
    let far = next_reach known.entries (count + 1) all in
    let within = t.far in
    let most = s.most in
    let long = has.long in
    said_push index h0 h known ls (line order.Merge (Merge (Merged segment at)) (count + 1)) s right (omega (arith, far, within, most, long))

-- ---- nothing to merge, or an open merge

pub said_nothing : (index : Index) (h0 : BasedList) (known : Known) (ls : List Line) (at : ℕ) → HasOwn h0 known.told known.client known.entries at → (fold_of index (upto known.told at)).begun ≡ None → has_work (fold_of index (upto known.told at)) ≡ false → IsSaidSoFar index h0 known ls → IsSaidSoFar index h0 known (ls ++ line order.Merge (Merge (Nothing at)) 0 ∷ [])
said_nothing index h0 known ls at has begun work so h may =
    let s = so h may in
    let t = tells h0 known.told h known.client known.entries at may.told has in
    let right : IsIdle index h0 h (idle h0 h known s.covers) at = record {
      about = record { between = t.between; earlier = t.far; none = refl };
      begun = ap (λ (g : BasedList). (fold_of index g).begun) t.same ∙ begun;
      work = ap (λ (g : BasedList). has_work (fold_of index g)) t.same ∙ work;
    } in
    let long = has.long in
    said_idle index h0 h known ls order.Merge (Merge (Nothing at)) s right (omega (arith, long))

pub said_running : (index : Index) (h0 : BasedList) (known : Known) (ls : List Line) (at : ℕ) (begun : Begun) → HasOwn h0 known.told known.client known.entries at → (fold_of index (upto known.told at)).begun ≡ Some begun → IsSaidSoFar index h0 known ls → IsSaidSoFar index h0 known (ls ++ line order.Merge (Merge (Running at begun.position)) 0 ∷ [])
said_running index h0 known ls at begun has is so h may =
    let s = so h may in
    let t = tells h0 known.told h known.client known.entries at may.told has in
    let right : IsRunning index h0 h (idle h0 h known s.covers) at begun.position = record {
      about = record { between = t.between; earlier = t.far; none = refl };
      begun = begun;
      is = ap (λ (g : BasedList). (fold_of index g).begun) t.same ∙ is;
      position = refl;
    } in
    let long = has.long in
    said_idle index h0 h known ls order.Merge (Merge (Running at begun.position)) s right (omega (arith, long))

-- ---- given back

caused_reply : (index : Index) (h0 h : BasedList) (t : Turn) (word : MergeWord) → MergeHasOwnCause word → MayBegin t.client t.own → IsMergeReply index h0 h t word
caused_reply index h0 h t (Merged segment at) cause may = absurd cause
caused_reply index h0 h t (Nothing at) cause may = absurd cause
caused_reply index h0 h t (Running at since) cause may = absurd cause
caused_reply index h0 h t Shut cause may = may
caused_reply index h0 h t Disk cause may = may
caused_reply index h0 h t (BadSegment block) cause may = may
caused_reply index h0 h t LogFault cause may = may
caused_reply index h0 h t (Stopped at) cause may = absurd cause
caused_reply index h0 h t Memory cause may = may
caused_reply index h0 h t (MemoryLogged at) cause may = absurd cause

caused_merge_seen : (ps : List Placed) (word : MergeWord) → MergeHasOwnCause word → merge_seen ps word ≡ 0
caused_merge_seen ps (Merged segment at) cause = absurd cause
caused_merge_seen ps (Nothing at) cause = absurd cause
caused_merge_seen ps (Running at since) cause = absurd cause
caused_merge_seen ps Shut cause = refl
caused_merge_seen ps Disk cause = refl
caused_merge_seen ps (BadSegment block) cause = refl
caused_merge_seen ps LogFault cause = refl
caused_merge_seen ps (Stopped at) cause = absurd cause
caused_merge_seen ps Memory cause = refl
caused_merge_seen ps (MemoryLogged at) cause = absurd cause

pub said_given_back : (index : Index) (h0 : BasedList) (known : Known) (ls : List Line) (count : ℕ) (word : MergeWord) → MergeHasOwnCause word → MakesSoFar index h0 known count (MayBegin known.client) → IsSaidSoFar index h0 known ls → IsSaidSoFar index h0 (with_more known count) (ls ++ line order.Merge (Merge word) count ∷ [])
said_given_back index h0 known ls count word cause makes so h may =
    let s = so h (fewer index h0 h known count may) in
    let none = caused_merge_seen (take count (drop known.entries (own h0 h known.client))) word cause in
    let most = s.most in
    said_push index h0 h known ls (line order.Merge (Merge word) count) s (caused_reply index h0 h (turn_at (spot h0 h known s.covers) count) word cause (makes h may)) (omega (arith, none, most))

pub said_merge_stopped : (index : Index) (h0 : BasedList) (known : Known) (ls : List Line) (count at : ℕ) → known.stop ≡ at + 1 → MakesSoFar index h0 known count (MayBegin known.client) → IsSaidSoFar index h0 known ls → IsSaidSoFar index h0 (with_more known count) (ls ++ line order.Merge (Merge (Stopped at)) count ∷ [])
said_merge_stopped index h0 known ls count at stop makes so h may =
    let one = fewer index h0 h known count may in
    let s = so h one in
    let most = s.most in
    said_push index h0 h known ls (line order.Merge (Merge (Stopped at)) count) s (makes h may, stopped_at index h0 h known at one stop) (omega (arith, most))

pub said_merge_logged : (index : Index) (h0 : BasedList) (known : Known) (ls : List Line) (count at : ℕ) → 1 ≤ count → count ≤ 2 → IsSaidSoFar index h0 known ls → IsSaidSoFar index h0 (with_more known count) (ls ++ line order.Merge (Merge (MemoryLogged at)) count ∷ [])
said_merge_logged index h0 known ls count at some few so h may =
    let s = so h (fewer index h0 h known count may) in
    let rest = length-drop known.entries (own h0 h known.client) in
    let all = may.entries in
    let size = length-take-le count (drop known.entries (own h0 h known.client)) (omega (arith, rest, all)) in
    let most = s.most in
    said_push index h0 h known ls (line order.Merge (Merge (MemoryLogged at)) count) s (omega (arith, size, some), omega (arith, size, few)) (omega (arith, most))
