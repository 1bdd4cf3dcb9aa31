use Rattle.std.proofs.Common.{◌∙◌, sym}
use Rattle.ann_segment_tests.proofs.view.search_pinned.Goals as goal

pub disk-requires-clause-near : goal.disk-requires-clause-near
disk-requires-clause-near c = (c.args.view.now, record { sound = c.known.ensures.view; pinned = sym (c.shared.ensures ∙ c.in_ok-pin.ensures); near = c.in_ok-near.ensures.near })
