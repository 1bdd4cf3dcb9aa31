-- What a log at rest stands for.
use Rattle.std.proofs.Common.{◌≡◌, ℕ, ◌+◌, ◌*◌, ◌<◌, ◌≤◌, ◌^◌, List, [], ◌∷◌, ◌++◌, length, take, drop, false, sym, ap, subst, ◌∙◌, arith, length-append}
use Rattle.std.proofs.lemmas.List.{drop_at, take_all}
use Rattle.ann_types.specs.declared.entry.Entry.{Entry}
use Rattle.ann_disk.specs.Image.{Unsynced, IsImage}
use Rattle.ann_disk.proofs.Images.{clean_only}
use Rattle.ann_preamble.specs.Preamble.{Said, preamble_of}
use Rattle.ann_preamble.specs.declared.choice.Side.{Side}
use Rattle.ann_preamble.specs.declared.choice.Side.TheVariants.{First, Second}
use Rattle.ann_frame.specs.Text.{StandFor}
use Rattle.ann_frame.specs.TextOf.{Text}
use Rattle.ann_frame.proofs.Agrees.{text_stands}
use Rattle.ann_frame.proofs.Growing.{stand_at_gate}
use Rattle.ann_log.specs.LogView.{IsAtRest, IsSaid, IsSound, listed, counted, files_in, choice_of}
use Rattle.ann_log.specs.Pairs.{EachPair}
use Rattle.ann_log.specs.Text.{Held, said_of, StandsFor, holds, first_gate, file_text}
use Rattle.ann_log.proofs.Standing.{side_text, frames_text}

module _ (side : Side) (s : Said) (log other : List ℕ) (u v : Unsynced) (gate : ℕ) (list : List Entry) (rest : IsAtRest side s log other u v gate list) where
  stands_here : StandFor s.fields.d (drop (first_gate s) log) list (length rest.front)
  stands_here =
      subst (λ (l : List ℕ). StandFor s.fields.d l list (length rest.front))
      (sym (ap (drop (first_gate s)) rest.spelled ∙ drop_at rest.head (rest.front ++ rest.shown ∷ []) (first_gate s) rest.place))
      (stand_at_gate s.fields.d rest.front list rest.frames rest.shown [] rest.shut)

  pub counted_here : (count : ℕ) → length list ≡ count → counted s count log ≡ list
  counted_here count long =
      ap (λ (t : Text). take count (listed t)) (text_stands s.fields.d (drop (first_gate s) log) list (length rest.front) stands_here)
      ∙ take_all count list (omega (arith, long))

  pub text_now : file_text s log ≡ holds s list
  text_now = frames_text s log list (length rest.front) stands_here

  -- the last byte is the gate
  pub ends : gate + 1 ≡ length log
  ends =
      let same = ap length rest.spelled in
      let whole = length-append rest.head (rest.front ++ rest.shown ∷ []) in
      let part = length-append rest.front (rest.shown ∷ []) in
      let end = rest.end in
      omega (arith, same, whole, part, end)

-- all images of a log at rest stand for what it holds
pub each_stands : {F : Type 0} (seen : F → List ℕ) (unsynced : F → Unsynced) (side : Side) (log other : F) (held : Held) (generation : ℕ) (gate : ℕ) → IsAtRest side (said_of held generation) (seen log) (seen other) (unsynced log) (unsynced other) gate held.entries → EachPair unsynced (StandsFor held) (files_in side log other)
each_stands {F} seen unsynced First log other held generation gate rest = λ first is_first second is_second.
    let s = said_of held generation in
    let same_first : first ≡ seen log = clean_only (seen log) first (subst (λ u. IsImage u first) rest.log_synced is_first) in
    let same_second : second ≡ seen other = clean_only (seen other) second (subst (λ u. IsImage u second) rest.other_synced is_second) in (
      generation,
      side_text First s first second (ap preamble_of same_first ∙ rest.says) (ap (λ (l : List ℕ). choice_of First s (preamble_of l)) same_second ∙ rest.is_log)
          ∙ ap (file_text s) same_first
          ∙ text_now First s (seen log) (seen other) (unsynced log) (unsynced other) gate held.entries rest,
    )
each_stands {F} seen unsynced Second log other held generation gate rest = λ first is_first second is_second.
    let s = said_of held generation in
    let same_first : first ≡ seen other = clean_only (seen other) first (subst (λ u. IsImage u first) rest.other_synced is_first) in
    let same_second : second ≡ seen log = clean_only (seen log) second (subst (λ u. IsImage u second) rest.log_synced is_second) in (
      generation,
      side_text Second s second first (ap preamble_of same_second ∙ rest.says) (ap (λ (l : List ℕ). choice_of Second s (preamble_of l)) same_first ∙ rest.is_log)
          ∙ ap (file_text s) same_second
          ∙ text_now Second s (seen log) (seen other) (unsynced log) (unsynced other) gate held.entries rest,
    )

-- a log at rest is sound
pub sound_at_rest : (tells : Type 0) (side : Side) (s : Said) (log other : List ℕ) (u v : Unsynced) (gate count : ℕ) (list : List Entry) → IsSaid s → gate + 1 < 2 ^ 64 → 5 * count ≤ gate → length list ≡ count → (tells → IsAtRest side s log other u v gate list) → IsSound tells side s log other u v gate count false
sound_at_rest tells side s log other u v gate count list said end few long rest = record {
  said = said;
  end = end;
  few = few;
  whole = λ told. ap length (counted_here side s log other u v gate list (rest told) count long) ∙ long;
  rest = λ told is_open. subst (IsAtRest side s log other u v gate) (sym (counted_here side s log other u v gate list (rest told) count long)) (rest told);
}
