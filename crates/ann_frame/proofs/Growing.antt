-- How whole frames grow, and what stands behind them.
use Rattle.std.proofs.Common.{◌≢◌, ℕ, List, [], ◌∷◌, ◌++◌, length, refl, sym, ap, ◌∙◌}
use Rattle.std.proofs.lemmas.Grind.{flat_map-append}
use Rattle.std.proofs.lemmas.List.{append-nil}
use Rattle.ann_types.specs.declared.entry.Entry.{Entry}
use Rattle.ann_frame.specs.Frames.{IsFrame, AreFrames, frame_bytes, frames_bytes, entries_of}
use Rattle.ann_frame.specs.Text.{StandFor}
use Rattle.ann_types.proofs.Sets.{all_append}

module _ (d : ℕ) (front : List ℕ) (entries : List Entry) (is : AreFrames d front entries) where
  -- with one more frame behind an open gate they have its entries too
  pub frames_grow : (new : List Entry) → IsFrame d new → AreFrames d (front ++ 1 ∷ frame_bytes new) (entries ++ new)
  frames_grow new frame = record {
    frames = is.frames ++ new ∷ [];
    each = all_append (IsFrame d) is.frames (new ∷ []) is.each (frame, tt);
    spelled =
        ap (λ t. t ++ 1 ∷ frame_bytes new) is.spelled
        ∙ ap (λ t. frames_bytes is.frames ++ t) (sym (append-nil (1 ∷ frame_bytes new)))
        ∙ sym (flat_map-append (λ frame. 1 ∷ frame_bytes frame) is.frames (new ∷ []));
    joined =
        ap (λ t. t ++ new) is.joined
        ∙ ap (λ t. entries_of is.frames ++ t) (sym (append-nil new))
        ∙ sym (flat_map-append (λ frame. frame) is.frames (new ∷ []));
  }

  -- behind a gate that isn't open anything may stand
  pub stand_at_gate : (shown : ℕ) (rest : List ℕ) → shown ≢ 1 → StandFor d (front ++ shown ∷ rest) entries (length front)
  stand_at_gate shown rest shut = record { front = front; shown = shown; rest = rest; frames = is; cut = refl; shut = shut; place = refl }
