use Rattle.std.proofs.Common.{◌≡◌, ◌∷◌, ◌++◌, [], List, ℕ, length, arith, ap, ◌∙◌}
use Rattle.ann_types.specs.declared.entry.Entry.{Entry}
use Rattle.ann_types.specs.declared.entry.Entry.TheVariants.{Insert, Begin}
use Rattle.ann_entry.specs.EntryBytes.{entry_bytes, entries_bytes}
use Rattle.ann_format_tests.proofs.frame.a_frame_is_written.Goals as goal

-- the bytes of the two entries
size : (entries : List Entry) (vector : List ℕ) → entries ≡ Begin 16909060 ∷ Insert 5 6 vector ∷ [] → vector ≡ 7 ∷ 8 ∷ [] → length (entries_bytes entries) ≡ 20
unfolding entry_bytes
size entries vector is components = ap (λ t. length (entries_bytes t)) is ∙ ap (λ v. length (entries_bytes (Begin 16909060 ∷ Insert 5 6 v ∷ []))) components

pub write_frame-size-requires-clause-short : goal.write_frame-size-requires-clause-short
write_frame-size-requires-clause-short g c =
    let is = c.items.ensures ∙ c.in_ok-push-2.ensures.pushed ∙ ap (λ e. e ++ Insert 5 6 c.in_ok-copy.field-0 ∷ []) (c.in_ok-push.ensures.pushed ∙ ap (λ e. e ++ Begin 16909060 ∷ []) c.new-entries.ensures) in
    let whole = size c.items.result.now c.in_ok-copy.field-0 is c.in_ok-copy.ensures in omega (arith, whole)

pub write_frame-size-requires-clause-room : goal.write_frame-size-requires-clause-room
write_frame-size-requires-clause-room g c =
    let is = c.items.ensures ∙ c.in_ok-push-2.ensures.pushed ∙ ap (λ e. e ++ Insert 5 6 c.in_ok-copy.field-0 ∷ []) (c.in_ok-push.ensures.pushed ∙ ap (λ e. e ++ Begin 16909060 ∷ []) c.new-entries.ensures) in
    let whole = size c.items.result.now c.in_ok-copy.field-0 is c.in_ok-copy.ensures in omega (arith, whole)
