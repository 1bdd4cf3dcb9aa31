use Rattle.std.proofs.Common.{◌≡◌, sym, ap, ◌∙◌, length}
use Rattle.std.proofs.lemmas.List.FromFn.{length-map-range_with_len}
use Rattle.ann_segment_tests.proofs.pieces.loaded.Goals as goal

pub returns-in-Ok : goal.returns-in-Ok
returns-in-Ok c =
    let rows = c.in-Ok.ensures.loaded.rows in
    record { pairs = ap length rows.tagged ∙ length-map-range_with_len _ 0 _ ∙ sym (length-map-range_with_len _ 0 _) ∙ sym (ap length rows.listed) }
