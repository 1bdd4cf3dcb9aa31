use Rattle.std.proofs.Common.{◌≡◌, sym, ap, subst, ◌∙◌, arith, length}
use Rattle.std.proofs.lemmas.List.{length-map}
use Rattle.ann_block.specs.Node.{NodeFields}
use Rattle.ann_mdelete.specs.Loaded.{piece_rows}
use Rattle.ann_tags.specs.Tags.{TagsView}
use Rattle.ann_base.specs.Nodes.{tags_of}
use Rattle.ann_base.specs.Tagged.{HasTags, IsAddRefused, IsLoadRefused}
use Rattle.ann_base.specs.declared.refused.BaseRefused.{BaseRefused}
use Rattle.ann_base.specs.declared.refused.BaseRefused.TheVariants.{BadSegment, Disk, Memory}
use Rattle.ann_base.proofs.Based.{piece_long, load_refused}
use Rattle.ann_base.proofs.Reading.{bad_tag, nodes_then, more_long}
use Rattle.ann_base.proofs.Results.{on_ok, if_err, err_is}
use Rattle.ann_base.proofs.tags.add_piece.Goals as goal

pub returns-in_err-load_piece-clause-refused : goal.returns-in_err-load_piece-clause-refused
returns-in_err-load_piece-clause-refused g c told nodes here w =
    err_is c.from_residual.result (IsLoadRefused c.args.segment.now c.args.params.now (g.S.Sealed.bytes c.args.segment.now.seal)) _ c.from_residual.ensures.1
    (load_refused g.S.Sealed.tells g.S.Sealed.bytes c.args.segment.now c.args.params.now nodes c.args.tags.now.pids w c.args.first here c.requires.piece c.requires.first _ _ _ _ c.in_err-load_piece.ensures.refused told)

pub add_tags-requires-clause-rows : goal.add_tags-requires-clause-rows
add_tags-requires-clause-rows g c =
    let size = piece_long c.args.segment.now c.args.params.now c.args.first (piece_rows (length c.args.segment.now.items) c.args.first) c.load_piece.new.piece c.in_ok-load_piece.ensures.loaded.rows in
    let some = c.requires.first in
    omega (arith, size, some)

pub returns-clause-added : goal.returns-clause-added
returns-clause-added g c nodes here w =
    let segment = c.args.segment.now in
    let params = c.args.params.now in
    let piece = c.load_piece.new.piece in
    let loaded = c.in_ok-load_piece.ensures.loaded in
    let pids : c.reserve.new.self.pids ≡ c.args.tags.now.pids = ap (λ (t : TagsView). t.pids) c.in_ok-reserve.ensures.ok in
    on_ok c.add_tags.result _ _
    (λ tags. record {
      more = _;
      many = more_long g.S.Sealed.tells g.S.Sealed.bytes segment params nodes c.args.tags.now.pids w c.args.first here c.requires.piece c.requires.first piece loaded.rows loaded.told;
      are = nodes_then g.S.Sealed.tells g.S.Sealed.bytes segment params nodes c.args.tags.now.pids w c.args.first here c.requires.piece c.requires.first piece loaded.rows loaded.told c.add_tags.new.tags.pids tags;
    })
    (c.add_tags.ensures.added (tags_of nodes) (length-map nodes (λ (n : NodeFields). n.tag) ∙ here) (subst (HasTags segment (tags_of nodes)) (sym pids) w.tags))

pub returns-clause-refused : goal.returns-clause-refused
returns-clause-refused g c told nodes here w =
    let segment = c.args.segment.now in
    let params = c.args.params.now in
    let piece = c.load_piece.new.piece in
    let loaded = c.in_ok-load_piece.ensures.loaded in
    let pids : c.reserve.new.self.pids ≡ c.args.tags.now.pids = ap (λ (t : TagsView). t.pids) c.in_ok-reserve.ensures.ok in
    let each : (why : BaseRefused) → IsAddRefused segment (tags_of nodes) piece.tags why → IsLoadRefused segment params (g.S.Sealed.bytes segment.seal) why = λ why is.
    (elim why as (λ y. IsAddRefused segment (tags_of nodes) piece.tags y → IsLoadRefused segment params (g.S.Sealed.bytes segment.seal) y) [
      | BadSegment block ↦ λ bad. bad_tag g.S.Sealed.tells g.S.Sealed.bytes segment params nodes c.args.tags.now.pids w c.args.first here c.requires.piece c.requires.first piece loaded.rows loaded.told block bad told
      | Disk ↦ λ bad. tt
      | Memory ↦ λ bad. tt
    ]) is in
    if_err c.add_tags.result (IsAddRefused segment (tags_of nodes) piece.tags) (IsLoadRefused segment params (g.S.Sealed.bytes segment.seal)) each
    (c.add_tags.ensures.refused (tags_of nodes) (length-map nodes (λ (n : NodeFields). n.tag) ∙ here) (subst (HasTags segment (tags_of nodes)) (sym pids) w.tags))
