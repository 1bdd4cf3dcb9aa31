use Rattle.std.proofs.Common.{subst}
use Rattle.ann_pq.specs.Format.{IsCodebook}
use Rattle.ann_pq.proofs.Books.{is_codebook}
use Rattle.ann_pq.proofs.codebook.Codebook.known.Goals as goal

pub returns : goal.returns
returns c = subst IsCodebook c.self.view_is (is_codebook c.self.inside.d c.self.inside.m c.self.inside.bytes.items c.self.invariant.0 c.self.invariant.1 c.self.invariant.4)
