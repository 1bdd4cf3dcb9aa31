use Rattle.std.proofs.Common.{◌≡◌, [], ℕ, sym, subst, ◌∙◌, length}
use Rattle.std.specs.List.{All}
use Rattle.std.proofs.lemmas.List.Elements.{All-from_get_or}
use Rattle.ann_mdelete.specs.Decoded.{width_of}
use Rattle.ann_minsert.proofs.graph.Base.of.Goals as goal

pub mean_entry-entry-requires : goal.mean_entry-entry-requires
mean_entry-entry-requires c =
    let long : length c.deref_mut.result.now ≡ width_of c.args.decoded = c.deref_mut.ensures.len ∙ c.in_ok-mean.ensures.len ∙ c.width.ensures in
    subst (λ (n : ℕ). All (λ vector. length vector ≡ n) c.args.decoded) (sym long)
    (All-from_get_or (λ vector. length vector ≡ width_of c.args.decoded) c.args.decoded [] c.known.ensures.same)
