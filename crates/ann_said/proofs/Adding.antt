-- One more line behind others, and what a client has said as it learns more.
use Rattle.std.proofs.Common.{◌≡◌, ℕ, suc, ◌+◌, ◌<◌, ◌≤◌, max, List, [], ◌∷◌, ◌++◌, refl, sym, ap, ◌∙◌, subst, arith, take, drop, get_or, length, take-add, drop-drop, inl, inr}
use Rattle.std.proofs.lemmas.List.{drop_all}
use Rattle.std.proofs.lemmas.List.Sums.{fold_push}
use Rattle.ann_types.specs.Index.{Index}
use Rattle.ann_types.specs.Lists.{BasedList, length_of}
use Rattle.ann_said.specs.Owned.{Placed, own}
use Rattle.ann_said.specs.Seen.{line_seen}
use Rattle.ann_said.specs.Table.{Stands}
use Rattle.ann_said.specs.Said.{Line, Spot, start, turn_at, behind_line, behind_lines, Part, AllStand, SaysAll, AllSay}
use Rattle.ann_said.specs.Knowing.{Known, known_first, with_more, Learns, spot, MayLeave, SaidUpTo, IsSaidSoFar, MakesSoFar}
use Rattle.ann_said.proofs.Prefixes.{begins_trans, begins_length}

-- ---- one more line

stand_push : (index : Index) (h0 h : BasedList) (s : Spot) (ls : List Line) (l : Line) → AllStand index h0 h s ls → Stands index h0 h (turn_at (behind_lines s ls) l.size) l.order l.reply → AllStand index h0 h s (ls ++ l ∷ [])
stand_push index h0 h s [] l all last = (last, tt)
stand_push index h0 h s (x ∷ ls) l all last = (all.0, stand_push index h0 h (behind_line s x) ls l all.1 last)

-- the next entries go from those to come to the earlier ones
next_spot : (h0 h : BasedList) (k : Known) (covers : ℕ) (l : Line) → behind_line (spot h0 h k covers) l ≡ spot h0 h (with_more k l.size) (max covers (line_seen (take l.size (drop k.entries (own h0 h k.client))) l.reply))
next_spot h0 h k covers l =
    let all : List Placed = own h0 h k.client in
    let seen : ℕ = max covers (line_seen (take l.size (drop k.entries all)) l.reply) in
    ap (λ (ps : List Placed). let s : Spot = record { client = k.client; earlier = ps; coming = drop l.size (drop k.entries all); seen = seen } in s) (sym (take-add k.entries l.size all))
    ∙ ap (λ (ps : List Placed). let s : Spot = record { client = k.client; earlier = take (k.entries + l.size) all; coming = ps; seen = seen } in s) (drop-drop l.size k.entries all)

pub said_push : (index : Index) (h0 h : BasedList) (k : Known) (ls : List Line) (l : Line) (s : SaidUpTo index h0 h k ls) → Stands index h0 h (turn_at (spot h0 h k s.covers) l.size) l.order l.reply → max s.covers (line_seen (take l.size (drop k.entries (own h0 h k.client))) l.reply) ≤ max (length_of k.seen) (length_of k.told) → SaidUpTo index h0 h (with_more k l.size) (ls ++ l ∷ [])
said_push index h0 h k ls l s right most = record {
  stand = stand_push index h0 h (start h0 h k.client) ls l s.stand (subst (λ (t : Spot). Stands index h0 h (turn_at t l.size) l.order l.reply) (sym s.behind) right);
  covers = max s.covers (line_seen (take l.size (drop k.entries (own h0 h k.client))) l.reply);
  behind = fold_push behind_line (start h0 h k.client) ls l ∙ ap (λ (t : Spot). behind_line t l) s.behind ∙ next_spot h0 h k s.covers l;
  most = most;
}

-- ---- the first line, more knowledge, and the last line

pub said_first : (index : Index) (h0 : BasedList) (client : ℕ) → IsSaidSoFar index h0 (known_first client h0) []
said_first index h0 client h may = record { stand = tt; covers = length_of h0; behind = refl; most = omega arith }

pub may_before : (index : Index) (h0 h : BasedList) (old new : Known) → Learns old new → MayLeave index h0 new h → MayLeave index h0 old h
may_before index h0 h old new more may = record {
  legal = may.legal;
  begins = may.begins;
  seen = begins_trans h new.seen old.seen may.seen more.seen;
  told = begins_trans h new.told old.told may.told more.told;
  entries = subst (λ (c : ℕ). old.entries ≤ length (own h0 h c)) more.client (subst (λ (n : ℕ). n ≤ length (own h0 h new.client)) more.entries may.entries);
  stop = elim more.stop [
    | inl none ↦ inl none
    | inr same ↦ elim may.stop [ inl none ↦ inl (sym same ∙ none) | inr is ↦ inr (sym same ∙ is) ]
  ];
}

pub said_still : (index : Index) (h0 h : BasedList) (old new : Known) (ls : List Line) → Learns old new → SaidUpTo index h0 h old ls → SaidUpTo index h0 h new ls
said_still index h0 h old new ls more s = record {
  stand = subst (λ (c : ℕ). AllStand index h0 h (start h0 h c) ls) (sym more.client) s.stand;
  covers = s.covers;
  behind =
      ap (λ (c : ℕ). behind_lines (start h0 h c) ls) more.client
      ∙ s.behind
      ∙ ap (λ (c : ℕ). let t : Spot = record { client = c; earlier = take old.entries (own h0 h c); coming = drop old.entries (own h0 h c); seen = s.covers } in t) (sym more.client)
      ∙ ap (λ (n : ℕ). let t : Spot = record { client = new.client; earlier = take n (own h0 h new.client); coming = drop n (own h0 h new.client); seen = s.covers } in t) (sym more.entries);
  most =
      let bound = s.most in
      let seen = begins_length new.seen old.seen more.seen in
      let told = begins_length new.told old.told more.told in
      omega (arith, bound, seen, told);
}

pub said_learned : (index : Index) (h0 : BasedList) (old new : Known) (ls : List Line) → Learns old new → IsSaidSoFar index h0 old ls → IsSaidSoFar index h0 new ls
said_learned index h0 old new ls more so h may = said_still index h0 h old new ls more (so h (may_before index h0 h old new more may))

-- what a command has made stays right, as is said of it by its client
pub made_learned : (index : Index) (h0 : BasedList) (old new : Known) (count : ℕ) (AreRight : ℕ → List Placed → Type 0) → Learns old new → MakesSoFar index h0 old count (AreRight old.client) → MakesSoFar index h0 new count (AreRight new.client)
made_learned index h0 old new count AreRight more so h may =
    let longer : Learns (with_more old count) (with_more new count) = record { client = more.client; entries = ap (λ (n : ℕ). n + count) more.entries; seen = more.seen; told = more.told; stop = more.stop } in
    subst (λ (c : ℕ). AreRight c (take count (drop new.entries (own h0 h c)))) (sym more.client)
    (subst (λ (n : ℕ). AreRight old.client (take count (drop n (own h0 h old.client)))) (sym more.entries) (so h (may_before index h0 h (with_more old count) (with_more new count) longer may)))

pub said_whole : (index : Index) (h0 h : BasedList) (k : Known) (ls : List Line) → IsSaidSoFar index h0 k ls → MayLeave index h0 k h → k.entries ≡ length (own h0 h k.client) → SaysAll index h0 h k.client ls
said_whole index h0 h k ls so may all =
    let s = so h may in
    record { stand = s.stand; all = ap (λ (t : Spot). t.coming) s.behind ∙ drop_whole k.entries (own h0 h k.client) all }
  where
    drop_whole : (n : ℕ) (ps : List Placed) → n ≡ length ps → drop n ps ≡ []
    drop_whole n ps e = drop_all n ps (omega (arith, e))

-- ---- all clients

say_from : (index : Index) (h0 h : BasedList) (n : ℕ) (parts : List Part) → ((i : ℕ) (p : Part) → i < length parts → SaysAll index h0 h (n + i) (get_or parts i p).lines) → AllSay index h0 h n parts
say_from index h0 h n [] each = tt
say_from index h0 h n (p ∷ ps) each =
    let here : n + 0 ≡ n = omega arith in
    let next : (i : ℕ) → n + suc i ≡ n + 1 + i = λ i. omega arith in (
      subst (λ (m : ℕ). SaysAll index h0 h m p.lines) here (each 0 p (omega arith)),
      say_from index h0 h (n + 1) ps (λ i q lt. subst (λ (m : ℕ). SaysAll index h0 h m (get_or ps i q).lines) (next i) (each (suc i) q (omega (arith, lt)))),
    )

pub say_from_each : (index : Index) (h0 h : BasedList) (parts : List Part) → ((i : ℕ) (p : Part) → i < length parts → SaysAll index h0 h i (get_or parts i p).lines) → AllSay index h0 h 0 parts
say_from_each index h0 h parts each = say_from index h0 h 0 parts (λ i p lt. (let same : i ≡ 0 + i = omega arith in subst (λ (m : ℕ). SaysAll index h0 h m (get_or parts i p).lines) same (each i p lt)))
