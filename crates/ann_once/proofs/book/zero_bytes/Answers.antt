use Rattle.std.proofs.Common.{◌∙◌}
use Rattle.ann_once.proofs.Zeros.{joined_is}
use Rattle.ann_once.proofs.book.zero_bytes.Goals as goal

pub returns : goal.returns
returns c = joined_is c.args.d _ _ _ _ _ _ _ _ c.in_ok-bytes.ensures.items c.to_le_bytes.ensures c.in_ok-extend_from_slice.ensures.items c.to_le_bytes-2.ensures c.in_ok-extend_from_slice-2.ensures.items (c.deref.ensures.value ∙ c.in_ok-components.ensures.items_if_clones_equal (λ y e. e)) c.from.ensures c.in_ok-extend_from_slice-3.ensures.items
