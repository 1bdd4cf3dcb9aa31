-- How a tail grows by a frame.
use Rattle.std.proofs.Common.{◌≡◌, inl, inr, ℕ, zero, suc, ◌+◌, ◌-◌, ◌<◌, ◌≤◌, ◌^◌, List, [], ◌∷◌, ◌++◌, length, take, drop, refl, sym, ap, subst, ◌∙◌, arith, append_assoc, length-append, length-take}
use Rattle.std.specs.List.{AllByRecursion}
use Rattle.std.proofs.lemmas.Grind.{flat_map-append}
use Rattle.std.proofs.lemmas.List.{append-nil, take_at, take_all}
use Rattle.ann_types.specs.declared.entry.Entry.{Entry}
use Rattle.ann_frame.specs.Frames.{AreFrames, IsFrame, frame_bytes, frames_bytes, entries_of}
use Rattle.ann_types.proofs.Sets.{all_append}
use Rattle.ann_log.specs.Anew.{AreFull, AreTail, HoldsTail, IsHead, opened, IsUnmadeOr, IsUnmadeOrWhole}

-- ---- parts of a list

take_on : {X : Type 0} (n m : ℕ) (xs : List X) → take n xs ++ take m (drop n xs) ≡ take (n + m) xs
take_on zero m xs = ap (λ (k : ℕ). take k xs) (omega arith)
take_on {X = X} (suc n) m [] = nothing m ∙ sym (nothing (suc n + m))
  where
    nothing : (k : ℕ) → take {A = X} k [] ≡ []
    nothing k = take_all k [] (omega arith)
take_on (suc n) m (x ∷ xs) =
    let same : suc (n + m) ≡ suc n + m = omega arith in
    ap (λ l. x ∷ l) (take_on n m xs) ∙ ap (λ (k : ℕ). take k (x ∷ xs)) same

-- ---- the tail

module _ {d : ℕ} {bytes : List ℕ} {entries : List Entry} (is : AreTail d bytes entries) where
  pub are_frames : AreFrames d bytes entries
  are_frames = record { frames = is.frames; each = is.each; spelled = is.spelled; joined = is.joined }

-- 64 entries in each frame
abbrev pub AllFull : List (List Entry) → Type 0
AllFull frames = AllByRecursion (λ frame. length frame ≡ 64) frames

full_grows : (frames : List (List Entry)) (new : List Entry) → AllFull frames → length new ≤ 64 → AreFull (frames ++ new ∷ [])
full_grows [] new full few = few
full_grows (frame ∷ []) new full few = (full.0, few)
full_grows (frame ∷ next ∷ frames) new full few = (full.0, full_grows (next ∷ frames) new full.1 few)

-- how far a tail was written; what is left comes behind full frames
pub record TailSoFar (tells : Type 0) (d gate : ℕ) (old : List ℕ) (tail : List Entry) (start last : ℕ) (seen : List ℕ) : Type 0 where
  pub holds : HoldsTail tells d gate old (take start tail) last seen
  pub full : start < length tail → AllFull holds.are.frames

module _ (tells : Type 0) (d gate : ℕ) (old : List ℕ) where
  pub tail_start : (tail : List Entry) → gate + 1 < 2 ^ 64 → (tells → old ≡ take gate old ++ 0 ∷ []) → TailSoFar tells d gate old tail 0 gate old
  tail_start tail fits last = record {
    holds = record {
      frames = [];
      are = record { frames = []; each = tt; full = tt; spelled = refl; joined = refl };
      place = omega arith;
      end = fits;
      file = λ told. last told ∙ ap (λ l. l ++ 0 ∷ []) (sym (append-nil (take gate old)));
    };
    full = λ more. tt;
  }

  pub tail_end : (tail : List Entry) (start last : ℕ) (seen : List ℕ) → length tail ≤ start → TailSoFar tells d gate old tail start last seen → HoldsTail tells d gate old tail last seen
  tail_end tail start last seen all is = subst (λ e. HoldsTail tells d gate old e last seen) (take_all start tail all) is.holds

  pub tail_ends : old ≡ take gate old ++ 0 ∷ [] → length old ≡ gate + 1
  tail_ends is = let long = ap length is in omega (arith, long, length-append (take gate old) (0 ∷ []), length-take gate old)

  module _ (tail : List Entry) (start end count last next : ℕ) (ends_at : end ≡ start + count) (seen seen' : List ℕ) (sofar : TailSoFar tells d gate old tail start last seen) (inside : tells → gate ≤ length old) where
    abbrev part : List Entry
    part = take count (drop start tail)

    abbrev holds : HoldsTail tells d gate old (take start tail) last seen
    holds = sofar.holds

    joined_more : take end tail ≡ entries_of (holds.are.frames ++ part ∷ [])
    joined_more =
        ap (λ (k : ℕ). take k tail) ends_at
        ∙ sym (take_on start count tail)
        ∙ ap (λ t. t ++ part) holds.are.joined
        ∙ ap (λ t. entries_of holds.are.frames ++ t) (sym (append-nil part))
        ∙ sym (flat_map-append (λ f. f) holds.are.frames (part ∷ []))

    spelled_more : holds.frames ++ 1 ∷ frame_bytes part ≡ frames_bytes (holds.are.frames ++ part ∷ [])
    spelled_more =
        ap (λ t. t ++ 1 ∷ frame_bytes part) holds.are.spelled
        ∙ ap (λ t. frames_bytes holds.are.frames ++ t) (sym (append-nil (1 ∷ frame_bytes part)))
        ∙ sym (flat_map-append (λ f. 1 ∷ frame_bytes f) holds.are.frames (part ∷ []))

    seen_more : tells → seen' ≡ take last seen ++ 1 ∷ frame_bytes part ++ 0 ∷ [] → seen' ≡ take gate old ++ (holds.frames ++ 1 ∷ frame_bytes part) ++ 0 ∷ []
    seen_more told is =
        let front : List ℕ = take gate old ++ holds.frames in
        let place = holds.place in
        let long : length front ≡ last = omega (arith, length-append (take gate old) holds.frames, length-take gate old, inside told, place) in
        is
        ∙ ap (λ l. take last l ++ 1 ∷ frame_bytes part ++ 0 ∷ []) (holds.file told)
        ∙ ap (λ l. l ++ 1 ∷ frame_bytes part ++ 0 ∷ []) (take_at front (0 ∷ []) last long)
        ∙ ap (λ l. l ++ 0 ∷ []) (append_assoc (take gate old) holds.frames (1 ∷ frame_bytes part))

    pub tail_more : IsFrame d part → length part ≤ 64 → start < length tail → (end < length tail → length part ≡ 64) → next ≡ last + (1 + length (frame_bytes part)) → next + 1 < 2 ^ 64 → (tells → seen' ≡ take last seen ++ 1 ∷ frame_bytes part ++ 0 ∷ []) → TailSoFar tells d gate old tail end next seen'
    tail_more frame few here exact place fits file = record {
      holds = record {
        frames = holds.frames ++ 1 ∷ frame_bytes part;
        are = record {
          frames = holds.are.frames ++ part ∷ [];
          each = all_append (IsFrame d) holds.are.frames (part ∷ []) holds.are.each (frame, tt);
          full = full_grows holds.are.frames part (sofar.full here) few;
          spelled = spelled_more;
          joined = joined_more;
        };
        place = let before = holds.place in omega (arith, place, before, length-append holds.frames (1 ∷ frame_bytes part));
        end = fits;
        file = λ told. seen_more told (file told);
      };
      full = λ more. all_append (λ f. length f ≡ 64) holds.are.frames (part ∷ []) (sofar.full here) (exact more, tt);
    }

    pub ends_more : next ≡ last + (1 + length (frame_bytes part)) → (tells → length seen ≡ last + 1) → (tells → seen' ≡ take last seen ++ 1 ∷ frame_bytes part ++ 0 ∷ []) → tells → length seen' ≡ next + 1
    ends_more place ends file told =
        let long = ap length (file told) in
        let here = ends told in
        omega (arith, long, here, place, length-append (take last seen ++ 1 ∷ frame_bytes part) (0 ∷ []), length-append (take last seen) (1 ∷ frame_bytes part), length-take last seen)

-- ---- with an open made byte

module _ (head : List ℕ) (is : IsHead head) where
  front_is : take (length head - 1) head ≡ 0 ∷ is.0
  front_is =
      let long = ap length is.1 in
      ap (take (length head - 1)) is.1 ∙ take_at (0 ∷ is.0) (0 ∷ []) (length head - 1) (omega (arith, long, length-append (0 ∷ is.0) (0 ∷ [])))

  opened_is : take (length head - 1) (opened head) ≡ 1 ∷ is.0
  opened_is =
      let long = ap length is.1 in
      ap (λ (l : List ℕ). take (length head - 1) (opened l)) is.1 ∙ take_at (1 ∷ is.0) (0 ∷ []) (length head - 1) (omega (arith, long, length-append (0 ∷ is.0) (0 ∷ [])))

  module _ (tells : Type 0) (d : ℕ) (tail : List Entry) (gate : ℕ) (seen : List ℕ) (holds : HoldsTail tells d (length head - 1) head tail gate seen) where
    spelled : tells → opened seen ≡ take (length head - 1) (opened head) ++ holds.frames ++ 0 ∷ []
    spelled told =
        ap opened (holds.file told ∙ ap (λ l. l ++ holds.frames ++ 0 ∷ []) front_is)
        ∙ ap (λ l. l ++ holds.frames ++ 0 ∷ []) (sym opened_is)

    pub some_there : tells → 1 ≤ length seen
    some_there told =
        let long = ap length (holds.file told) in
        omega (arith, long, length-append (take (length head - 1) head ++ holds.frames) (0 ∷ []))

    pub open_tail : (new : List ℕ) → (tells → new ≡ opened seen) → HoldsTail tells d (length head - 1) (opened head) tail gate new
    open_tail new opens = record { frames = holds.frames; are = holds.are; place = holds.place; end = holds.end; file = λ told. opens told ∙ spelled told }

    pub whole_there : tells → (new : List ℕ) → IsUnmadeOr (opened seen) new → IsUnmadeOrWhole d head tail new
    whole_there told new (inl unmade) = inl unmade
    whole_there told new (inr same) = inr (gate, record { frames = holds.frames; are = holds.are; place = holds.place; end = holds.end; file = λ _. same ∙ spelled told })
