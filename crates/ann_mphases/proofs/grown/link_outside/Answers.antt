use Rattle.std.proofs.Common.{◌≡◌, ◌++◌, ℕ, List, ap, sym, subst, ◌∙◌, map, length}
use Rattle.std.specs.Prelude.{All}
use Rattle.ann_types.specs.Codes.{decoded}
use Rattle.ann_types.specs.declared.new_point.NewPoint.{NewPoint}
use Rattle.ann_mlaws.proofs.Linked.{into_base}
use Rattle.ann_mplan.specs.Back.{AreInto, deltas_of}
use Rattle.ann_mphases.specs.Index.{index_of}
use Rattle.ann_mphases.proofs.grown.link_outside.Goals as goal

pub invert-requires-clause-into : goal.invert-requires-clause-into
invert-requires-clause-into g c =
    subst (λ (n : ℕ). AreInto n c.in_ok-links.links) (sym (c.len.ensures ∙ ap length c.decoded.ensures))
    (subst (AreInto (length c.args.base.vectors)) (sym c.in_ok-links.ensures.linked) (into_base (index_of c.args.params.now c.args.book.now) c.args.base c.known.ensures.base c.args.outside.now))

pub returns-clause-linked : goal.returns-clause-linked
returns-clause-linked g c = record {
  own = c.into_parts-lists.ensures.lists;
  linked = c.in_ok-links.ensures.linked;
  added = c.in_ok-delta.ensures ∙ ap (λ (n : ℕ). deltas_of n c.in_ok-links.links) (c.len.ensures ∙ ap length c.decoded.ensures ∙ sym c.known.ensures.base.lists.count);
  vectors = c.in_ok-decode_new.ensures.added ∙ ap (λ (t : List (List ℕ)). t ++ map (λ (x : NewPoint). decoded c.args.book.now.book x.vector) c.args.outside.now) c.into_parts-lists.ensures.decoded;
  wide = subst (λ (d : ℕ). All (λ vector. length vector ≡ d) c.decode_new.new.decoded) (sym c.requires.book) c.in_ok-decode_new.ensures.wide;
}
