use Rattle.std.proofs.Common.{subst}
use Rattle.ann_types.specs.Index.{IsBookOf}
use Rattle.ann_pq.specs.Format.{IsCodebook}
use Rattle.ann_pq.proofs.Shapes.{is_book_of}
use Rattle.ann_merge.proofs.merging.Taken.known.Goals as goal

pub returns : goal.returns
returns g c =
    let t = c.self.inside in
    let sizes = c.self.invariant.sizes in
    subst (λ o. IsBookOf o.params o.book.book) c.self.view_is
    (is_book_of t.params t.book.value (subst IsCodebook c.deref.ensures c.known.ensures) sizes.0 sizes.1)
