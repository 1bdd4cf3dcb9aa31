-- What a crew drew, joined and in order.
use Rattle.std.proofs.Common.{◌≡◌, ◌≢◌, ℕ, zero, suc, ◌+◌, ◌<◌, List, [], ◌∷◌, ◌++◌, refl, sym, ap, subst, ◌∙◌, arith, map, length, get_or, reverse, true}
use Rattle.std.specs.Prelude.{Some, None}
use Rattle.std.specs.List.{All, AllByRecursion, flat_map, range_with_len}
use Rattle.std.proofs.lemmas.List.{map-append, length-map, append-nil, reverse-reverse}
use Rattle.std.proofs.lemmas.List.Elements.{All-from_recursion, recursion_from_All, All-append, All-nil, All-push}
use Rattle.std.proofs.lemmas.List.Sorted.{All-permutation}
use Rattle.std.proofs.lemmas.List.FromFn.{get_or-range_with_len, length-range_with_len}
use Rattle.std.proofs.lemmas.Grind.{flat_map-append}
use Rattle.std.proofs.Math.ListN.{get_or-map}
use Rattle.ann_claim.specs.Claims.{Lot, Drawer, all_drawn}
use Rattle.ann_mdelete.specs.declared.refused.WorkRefused.{WorkRefused}
use Rattle.ann_mdelete.specs.declared.refused.WorkRefused.TheVariants.{Disk, BadSegment, Memory}
use Rattle.ann_crew.specs.declared.member.Member.{Member}
use Rattle.ann_crew.specs.declared.member.Drawn.{Drawn}
use Rattle.ann_crew.specs.Members.{HasDrawn, IsEnded, AreResults, worker_of, drawn_of, number_of, piece_of}
use Rattle.ann_crew.specs.Crew.{AreGathered, AreWorked, ArePieces, IsCaused, AreSettled, IsRefusalOf}
use Rattle.ann_crew.proofs.Pairs.{Pairs, pairs_length, pairs_at, pairs_reverse, pairs_right, pairs_map, pairs_by_index, map_reverse}

abbrev results_in : {P : Type 0} → List (Drawn P) → List (ℕ × P)
results_in drawn = flat_map (λ d. d.results.items) drawn

pub gathered_more : {P : Type 0} (taken : List (Drawn P)) (claimers : List Drawer) (results : List (ℕ × P)) (d : Drawn P) → AreGathered taken claimers results → d.refusal ≡ None → AreGathered (taken ++ d ∷ []) (claimers ++ d.claimer ∷ []) (results ++ d.results.items)
gathered_more taken claimers results d was calm = record {
  calm = All-push (λ (x : Drawn _). x.refusal ≡ None) taken d was.calm calm;
  drawers = ap (λ t. t ++ d.claimer ∷ []) was.drawers ∙ sym (map-append (λ (x : Drawn _). x.claimer) taken (d ∷ []));
  all = ap (λ t. t ++ d.results.items) was.all ∙ ap (λ t. results_in taken ++ t) (sym (append-nil d.results.items)) ∙ sym (flat_map-append (λ (x : Drawn _). x.results.items) taken (d ∷ []));
}

-- ---- the numbers of all results are those that were drawn

pub numbers_are : {P : Type 0} (lot : Lot) (drawn : List (Drawn P)) → AllByRecursion (IsEnded lot) drawn → AllByRecursion (λ d. d.refusal ≡ None) drawn → map number_of (results_in drawn) ≡ all_drawn (map (λ d. d.claimer) drawn)
numbers_are lot [] e c = refl
numbers_are lot (d ∷ drawn) (e, es) (c, cs) =
    map-append number_of d.results.items (results_in drawn)
    ∙ ap (λ t. t ++ map number_of (results_in drawn)) (e.numbers c)
    ∙ ap (λ t. d.claimer.drawn ++ t) (numbers_are lot drawn es cs)

pub claimers_own : {P : Type 0} (lot : Lot) (drawn : List (Drawn P)) → AllByRecursion (IsEnded lot) drawn → AllByRecursion (λ (c : Drawer). c.lot ≡ lot) (map (λ d. d.claimer) drawn)
claimers_own lot [] e = tt
claimers_own lot (d ∷ drawn) (e, es) = (e.own, claimers_own lot drawn es)

pub claimers_ended : {P : Type 0} (lot : Lot) (drawn : List (Drawn P)) → AllByRecursion (IsEnded lot) drawn → AllByRecursion (λ (c : Drawer). c.ended ≡ true) (map (λ d. d.claimer) drawn)
claimers_ended lot [] e = tt
claimers_ended lot (d ∷ drawn) (e, es) = (e.ended, claimers_ended lot drawn es)

-- ---- from all results to the pieces in order

module _ {W P : Type 0} (goes : W → W → Type 0) (causes : W → W → WorkRefused → Type 0) (is_piece : ℕ → P → Type 0) (first : ℕ) (lot : Lot) where
  abbrev Has : Member W P → Member W P → Type 0
  Has old new = HasDrawn goes causes is_piece first lot old new

  pub workers_are : (olds news : List (Member W P)) → Pairs Has olds news → AreWorked goes (map worker_of olds) (map worker_of news)
  workers_are olds news p =
      let moved : Pairs goes (map worker_of olds) (map worker_of news) = pairs_map Has goes worker_of worker_of olds news (λ x y h. h.moved) p in
      record {
        same = pairs_length goes (map worker_of olds) (map worker_of news) moved;
        each = λ i d l. pairs_at goes (map worker_of olds) (map worker_of news) i d d moved l;
      }

  pub drawn_ended : (olds news : List (Member W P)) → Pairs Has olds news → AllByRecursion (IsEnded lot) (map drawn_of news)
  drawn_ended [] [] p = tt
  drawn_ended [] (y ∷ ys) p = absurd p
  drawn_ended (x ∷ xs) [] p = absurd p
  drawn_ended (x ∷ xs) (y ∷ ys) (h, p) = (record { own = h.own; ended = h.ended; numbers = λ e. (h.done e).numbers }, drawn_ended xs ys p)

  drawn_pieces : (olds news : List (Member W P)) → Pairs Has olds news → AllByRecursion (λ d. d.refusal ≡ None) (map drawn_of news) → All (λ r. is_piece (first + r.0) r.1) (results_in (map drawn_of news))
  drawn_pieces [] [] p c = All-nil (λ r. is_piece (first + r.0) r.1)
  drawn_pieces [] (y ∷ ys) p c = absurd p
  drawn_pieces (x ∷ xs) [] p c = absurd p
  drawn_pieces (x ∷ xs) (y ∷ ys) (h, p) (e, c) = All-append (λ r. is_piece (first + r.0) r.1) y.results.items (results_in (map drawn_of ys)) (h.done e).pieces (drawn_pieces xs ys p c)

  pub pieces_are : (olds news : List (Member W P)) (count : ℕ) (pieces : List P) → Pairs Has olds news → AreSettled (map drawn_of news) count pieces → ArePieces is_piece first count pieces
  pieces_are olds news count pieces p s =
      let all : All (λ r. is_piece (first + r.0) r.1) s.ordered =
      All-permutation (λ r. is_piece (first + r.0) r.1) (results_in (map drawn_of news)) s.ordered s.same
      (drawn_pieces olds news p (recursion_from_All (λ (d : Drawn P). d.refusal ≡ None) (map drawn_of news) s.calm)) in
      let long : length s.ordered ≡ count = sym (length-map s.ordered (λ r. number_of r)) ∙ ap length s.numbers ∙ length-range_with_len 0 count in
      record {
        many = ap length s.alone ∙ length-map s.ordered (λ r. piece_of r) ∙ long;
        each = λ i d l.
            let number : (get_or s.ordered i (0, d)).0 ≡ i =
            sym (get_or-map (λ r. number_of r) s.ordered i (0, d)) ∙ ap (λ t. get_or t i 0) s.numbers ∙ get_or-range_with_len 0 count i 0 l ∙ omega arith in
            let piece : get_or pieces i d ≡ (get_or s.ordered i (0, d)).1 = ap (λ t. get_or t i d) s.alone ∙ get_or-map (λ r. piece_of r) s.ordered i (0, d) in
            subst (is_piece (first + i)) (sym piece) (subst (λ n. is_piece (first + n) (get_or s.ordered i (0, d)).1) number (all i (0, d) (omega arith)));
      }

  -- ---- whose refusal it is

  caused_at : (olds news : List (Member W P)) (i : ℕ) (why : WorkRefused) → Pairs Has olds news → i < length (map drawn_of news) → ((d : Drawn P) → (get_or (map drawn_of news) i d).refusal ≡ Some why) → (i < length (map worker_of olds)) × ((d : W) → causes (get_or (map worker_of olds) i d) (get_or (map worker_of news) i d) why)
  caused_at olds [] i why p l is = absurd (omega arith)
  caused_at [] (y ∷ ys) i why p l is = absurd p
  caused_at (x ∷ xs) (y ∷ ys) zero why (h, p) l is = (omega arith, λ d. h.refused why (is (drawn_of y)))
  caused_at (x ∷ xs) (y ∷ ys) (suc i) why (h, p) l is = let next = caused_at xs ys i why p (omega arith) is in (let inside = next.0 in omega arith, next.1)

  pub refused_is : (olds news : List (Member W P)) (why : WorkRefused) → Pairs Has olds news → 0 < length (map worker_of olds) → ((u v : W) → goes u v → causes u v Memory) → IsRefusalOf (map drawn_of news) why → IsCaused causes (map worker_of olds) (map worker_of news) why
  refused_is olds news Memory p some free is = (0, some, λ d. free _ _ ((workers_are olds news p).each 0 d some))
  refused_is olds news Disk p some free is =
      let at = is (λ e. disk_memory e) in
      let c = caused_at olds news at.0 Disk p at.1 at.2 in (at.0, c.0, c.1)
    where
      disk_memory : Disk ≡ Memory → ⊥
      disk_memory e = subst (λ (w : WorkRefused). elim w as (λ _. Type 0) [ Disk ↦ Unit {0} | BadSegment b ↦ Unit {0} | Memory ↦ ⊥ ]) e tt
  refused_is olds news (BadSegment b) p some free is =
      let at = is (λ e. bad_memory e) in
      let c = caused_at olds news at.0 (BadSegment b) p at.1 at.2 in (at.0, c.0, c.1)
    where
      bad_memory : BadSegment b ≡ Memory → ⊥
      bad_memory e = subst (λ (w : WorkRefused). elim w as (λ _. Type 0) [ Disk ↦ Unit {0} | BadSegment b ↦ Unit {0} | Memory ↦ ⊥ ]) e tt

-- ---- the whole outcome, once the members have gone back

pub record Outcome {W P : Type 0} (goes : W → W → Type 0) (causes : W → W → WorkRefused → Type 0) (is_piece : ℕ → P → Type 0) (first : ℕ) (lot : Lot) (old new : List W) (drawn : List (Drawn P)) : Type 0 where
  pub ended : All (IsEnded lot) drawn
  pub workers : AreWorked goes old new
  pub pieces : (count : ℕ) (pieces : List P) → AreSettled (reverse drawn) count pieces → ArePieces is_piece first count pieces
  pub refused : (why : WorkRefused) → 0 < length old → ((u v : W) → goes u v → causes u v Memory) → IsRefusalOf drawn why → IsCaused causes old new why

pub outcome : {W P : Type 0} (goes : W → W → Type 0) (causes : W → W → WorkRefused → Type 0) (is_piece : ℕ → P → Type 0) (first : ℕ) (lot : Lot) (olds news : List (Member W P)) (old new : List W) (drawn : List (Drawn P)) → length news ≡ length olds → ((i : ℕ) (d : Member W P) → i < length olds → HasDrawn goes causes is_piece first lot (get_or olds i d) (get_or news i d)) → reverse (map worker_of olds) ≡ old → new ≡ reverse (map worker_of news) → drawn ≡ reverse (map drawn_of news) → Outcome goes causes is_piece first lot old new drawn
outcome {W} {P} goes causes is_piece first lot olds news old new drawn same each before after left =
    let R : Member W P → Member W P → Type 0 = HasDrawn goes causes is_piece first lot in
    let pairs : Pairs R olds news = pairs_by_index R olds news same each in
    let turned : Pairs R (reverse olds) (reverse news) = pairs_reverse R olds news pairs in
    let old_is : map worker_of (reverse olds) ≡ old = sym (map_reverse worker_of olds) ∙ before in
    let new_is : map worker_of (reverse news) ≡ new = sym (map_reverse worker_of news) ∙ sym after in
    let drawn_is : map drawn_of (reverse news) ≡ drawn = sym (map_reverse drawn_of news) ∙ sym left in
    let back : map drawn_of news ≡ reverse drawn = sym (reverse-reverse (map drawn_of news)) ∙ ap reverse (sym left) in
    record {
      ended = subst (All (IsEnded lot)) drawn_is (All-from_recursion (IsEnded lot) (map drawn_of (reverse news)) (drawn_ended goes causes is_piece first lot (reverse olds) (reverse news) turned));
      workers = subst (λ t. AreWorked goes t new) old_is (subst (AreWorked goes (map worker_of (reverse olds))) new_is (workers_are goes causes is_piece first lot (reverse olds) (reverse news) turned));
      pieces = λ count pieces s. pieces_are goes causes is_piece first lot olds news count pieces pairs (subst (λ t. AreSettled t count pieces) (sym back) s);
      refused = λ why some free is.
          subst (λ t. IsCaused causes t new why) old_is (subst (λ t. IsCaused causes (map worker_of (reverse olds)) t why) new_is
          (refused_is goes causes is_piece first lot (reverse olds) (reverse news) why turned (subst (λ t. 0 < length t) (sym old_is) some) free (subst (λ t. IsRefusalOf t why) (sym drawn_is) is)));
    }
