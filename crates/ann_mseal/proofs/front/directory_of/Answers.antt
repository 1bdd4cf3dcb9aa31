use Rattle.std.proofs.Common.{◌≡◌, ℕ, ◌∙◌, length, subst}
use Rattle.std.specs.Prelude.{All}
use Rattle.ann_segment.specs.Directory.{item_of}
use Rattle.ann_mpatch.specs.Plan.{segment_in}
use Rattle.ann_mlaws.specs.Rows.{old_items}
use Rattle.ann_mseal.proofs.Items.{items_coded}
use Rattle.ann_mseal.proofs.front.directory_of.Goals as goal

pub returns-clause-codes : goal.returns-clause-codes
returns-clause-codes g c =
    let plan = c.args.plan.now in
    items_coded c.args.book.now.book plan plan.params.m (c.known.ensures.book.count ∙ c.requires.parts)
    (subst (All (λ (row : ℕ). length (item_of (old_items (segment_in plan)) row).1 ≡ plan.params.m)) c.deref.ensures.value (c.in_ok-add_survivors.ensures.codes plan.params.m c.requires.codes))
