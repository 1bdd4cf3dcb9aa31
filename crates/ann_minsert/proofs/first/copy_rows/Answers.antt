use Rattle.std.proofs.Common.{◌<◌, List, ℕ, sym, ap, subst, ◌∙◌, length, get_or}
use Rattle.ann_minsert.proofs.TableRows.{wide_take}
use Rattle.ann_minsert.proofs.first.copy_rows.Goals as goal

pub push_vector-requires-clause-same : goal.push_vector-requires-clause-same
push_vector-requires-clause-same c k d l =
    ap (λ (t : List (List ℕ)). length (get_or t k d)) c.loop-row.invariant.vectors
    ∙ wide_take c.args.table.now.params.d c.args.table.now.nodes c.loop-row.row k d (λ r m. (c.known.ensures.each r m).vector) (subst (λ (t : List (List ℕ)). k < length t) c.loop-row.invariant.vectors l)
    ∙ sym c.vector.ensures.width
