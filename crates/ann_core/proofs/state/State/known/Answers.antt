use Rattle.std.proofs.Common.{subst}
use Rattle.ann_pq.specs.Format.{IsCodebook}
use Rattle.ann_pq.proofs.Shapes.{is_book_of}
use Rattle.ann_core.proofs.state.State.known.Goals as goal

pub returns : goal.returns
returns c =
    let sizes = c.requires.2.sizes in
    is_book_of c.args.self.now.params c.args.self.now.book.value (subst IsCodebook c.deref.ensures c.known.ensures) sizes.0 sizes.1
