-- Tags added one after the other, each with its Pid.
use Rattle.std.proofs.Common.{◌≡◌, ◌≤◌, ◌<◌, ℕ, zero, suc, false, cond, eqb, not, ◌||◌, List, [], ◌∷◌, ◌++◌, inl, inr, refl, sym, ap, ap₂, ◌∙◌, arith, map, length, get_or}
use Rattle.std.specs.Prelude.{is_some}
use Rattle.std.specs.FinMap.{get, insert, empty}
use Rattle.std.specs.List.{zip}
use Rattle.std.proofs.lemmas.Bool.{or_parts, cases_lt}
use Rattle.std.proofs.lemmas.List.{take-append-le, take_at, length_push, length-map}
use Rattle.ann_types.specs.Lists.{Names, is_live, unmapped}
use Rattle.ann_types.specs.Order.{has}
use Rattle.ann_types.proofs.Booleans.{eqb_sym}
use Rattle.ann_segment.specs.Directory.{Item, item_of}
use Rattle.ann_segment.specs.Segment.{SegmentView}
use Rattle.ann_tags.specs.Tags.{Pids, map_of}
use Rattle.ann_tags.proofs.Maps.{live_is, mapped_is}
use Rattle.ann_base.specs.Nodes.{pid_of, named}
use Rattle.ann_base.specs.Tagged.{AreDistinct, HasTags}

-- ---- lists

zip_push : (xs ys : List ℕ) (x : ℕ) → length xs < length ys → zip (xs ++ x ∷ []) ys ≡ zip xs ys ++ (x, get_or ys (length xs) 0) ∷ []
zip_push [] [] x l = absurd (omega arith)
zip_push [] (y ∷ ys) x l = refl
zip_push (z ∷ xs) [] x l = absurd (omega arith)
zip_push (z ∷ xs) (y ∷ ys) x l = ap (λ t. (z, y) ∷ t) (zip_push xs ys x (omega arith))

live_zip : (xs ys : List ℕ) (t : ℕ) → length xs ≤ length ys → is_live (zip xs ys) t ≡ has xs t
live_zip [] ys t l = refl
live_zip (x ∷ xs) [] t l = absurd (omega arith)
live_zip (x ∷ xs) (y ∷ ys) t l = ap₂ ◌||◌ (eqb_sym x t) (live_zip xs ys t (omega arith))

unmapped_none : (es : Names) (tag : ℕ) → is_live es tag ≡ false → unmapped es tag ≡ es
unmapped_none [] tag n = refl
unmapped_none (e ∷ es) tag n =
    let both = or_parts (eqb e.0 tag) (is_live es tag) n in
    ap (λ t. cond (not t) (e ∷ unmapped es tag) (unmapped es tag)) both.0 ∙ ap (λ t. e ∷ t) (unmapped_none es tag both.1)

map_push : (es : Names) (tag pid : ℕ) → is_live es tag ≡ false → map_of (es ++ (tag, pid) ∷ []) ≡ insert (map_of es) tag pid
map_push es tag pid n = ap (λ (t : Names). map_of (t ++ (tag, pid) ∷ [])) (sym (unmapped_none es tag n)) ∙ mapped_is es tag pid

pub item_pid : (items : List Item) (row : ℕ) → get_or (map (λ (x : Item). x.0) items) row 0 ≡ (item_of items row).0
item_pid [] row = refl
item_pid (x ∷ items) zero = refl
item_pid (x ∷ items) (suc row) = item_pid items row

get_left : (xs ys : List ℕ) (i : ℕ) → i < length xs → get_or (xs ++ ys) i 0 ≡ get_or xs i 0
get_left [] ys i l = absurd (omega arith)
get_left (x ∷ xs) ys zero l = refl
get_left (x ∷ xs) ys (suc i) l = get_left xs ys i (omega arith)

get_last : (xs : List ℕ) (x : ℕ) → get_or (xs ++ x ∷ []) (length xs) 0 ≡ x
get_last [] x = refl
get_last (y ∷ xs) x = get_last xs x

-- ---- no tag yet

pub no_tags : {S : Type 0} (segment : SegmentView S) → HasTags segment [] empty
no_tags segment = record { few = omega arith; differ = λ row l. absurd (omega arith); pids = refl }

-- ---- one tag more

module _ {S : Type 0} (segment : SegmentView S) (tags : List ℕ) (pids : Pids) (w : HasTags segment tags pids) (tag : ℕ) where
  items_long : length tags ≤ length (map (λ (x : Item). x.0) segment.items)
  items_long = let few = w.few in let size = length-map segment.items (λ (x : Item). x.0) in omega arith

  -- whether the map has it
  pub found_is : is_some (get pids tag) ≡ has tags tag
  found_is =
      ap (λ (m : Pids). is_some (get m tag)) w.pids
      ∙ sym (live_is (named segment tags) tag)
      ∙ live_zip tags (map (λ (x : Item). x.0) segment.items) tag items_long

  module _ (more : length tags < length segment.items) (new : has tags tag ≡ false) where
    differ_more : AreDistinct (tags ++ tag ∷ [])
    differ_more row l = elim (cases_lt row (length tags)) [
      | inl below ↦
          ap₂ (λ (xs : List ℕ) (x : ℕ). has xs x) (take-append-le row tags (tag ∷ []) (omega arith)) (get_left tags (tag ∷ []) row below)
          ∙ w.differ row below
      | inr over ↦
          let size = length_push tags tag in
          let here : row ≡ length tags = omega arith in
          ap₂ (λ (xs : List ℕ) (x : ℕ). has xs x) (take_at tags (tag ∷ []) row (sym here)) (ap (λ (i : ℕ). get_or (tags ++ tag ∷ []) i 0) here ∙ get_last tags tag)
          ∙ new
    ]

    pub tag_more : HasTags segment (tags ++ tag ∷ []) (insert pids tag (pid_of segment (length tags)))
    tag_more = record {
      few = (let size = length_push tags tag in omega arith);
      differ = differ_more;
      pids =
          let all : List ℕ = map (λ (x : Item). x.0) segment.items in
          let size = length-map segment.items (λ (x : Item). x.0) in
          ap₂ (λ (m : Pids) (p : ℕ). insert m tag p) w.pids (sym (item_pid segment.items (length tags)))
          ∙ sym (map_push (named segment tags) tag (get_or all (length tags) 0) (live_zip tags all tag items_long ∙ new))
          ∙ ap map_of (sym (zip_push tags all tag (omega arith)));
    }
