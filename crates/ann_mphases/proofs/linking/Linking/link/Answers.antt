use Rattle.std.proofs.Common.{◌-◌, ◌*◌, ◌++◌, List, ℕ, ap, ◌∙◌, arith, take, drop}
use Rattle.ann_mphases.specs.Linked.{LinkView, linked_piece, links_in}
use Rattle.ann_mphases.proofs.Joins.{points_cut}
use Rattle.ann_mphases.proofs.linking.Linking.link.Goals as goal

pub returns : goal.returns
returns c =
    let rows : LinkView = record { base = c.self.inside.base.now; points = c.self.inside.points.now; book = c.self.inside.book.now; params = c.self.inside.params.now } in
    c.in_ok-link_piece.ensures.added.behind
    ∙ ap (λ (t : List (List ℕ)). t ++ links_in rows (take (c.min-end.result - 256 * c.args.number) (drop (256 * c.args.number) rows.points))) c.new-lists.ensures
    ∙ ap (links_in rows) (points_cut rows c.args.number c.min-end.result (let least = c.min-end.ensures in omega arith))
    ∙ ap (λ (r : LinkView). linked_piece r c.args.number) c.self.view_is
