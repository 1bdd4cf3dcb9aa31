use Rattle.std.proofs.Common.{◌≡◌, ℕ, sym, subst, ◌∙◌, length}
use Rattle.std.specs.Prelude.{All}
use Rattle.std.proofs.lemmas.Result.{IfErr-weaker, IfOk-weaker}
use Rattle.ann_types.specs.Codes.{decode}
use Rattle.ann_types.specs.Index.{Index}
use Rattle.ann_segment.specs.Directory.{Item}
use Rattle.ann_mcause.specs.Eyes.{AreCause}
use Rattle.ann_mcause.proofs.Watched.{eyes_memory}
use Rattle.ann_mpatch.specs.Source.{source_in}
use Rattle.ann_mphases.specs.Index.{index_of}
use Rattle.ann_mphases.proofs.Lefts.{left_is}
use Rattle.ann_mphases.proofs.left.delete_rows.Goals as goal

pub returns-clause-left : goal.returns-clause-left
returns-clause-left g c =
    let index : Index = index_of c.args.params.now c.args.book.now in
    let wide : All (λ (item : Item). length (decode index.book item.1) ≡ index.params.d) c.args.segment.now.items =
    subst (λ (d : ℕ). All (λ (item : Item). length (decode index.book item.1) ≡ d) c.args.segment.now.items) (sym c.requires.book) c.know_codes.ensures in
    IfOk-weaker c.repair_old.result _ _
    (λ left packed. left_is g.S.Sealed.tells g.S.Sealed.bytes index c.args.gone.now c.args.segment.now c.in_ok-lists.lists c.in_ok-decoded.decoded c.deref.result.now left
    c.in_ok-lists.ensures.read (c.deref.ensures.value ∙ c.in_ok-gone.ensures) c.in_ok-decoded.ensures wide packed)
    c.repair_old.ensures.packed

pub returns-clause-refused : goal.returns-clause-refused
returns-clause-refused g c =
    IfErr-weaker c.repair_old.result _ _
    (λ why is. subst (AreCause g.E.Eye.reads g.E.Eye.faults g.S.Sealed.tells (source_in g.S.Sealed.bytes c.args.segment.now) c.args.params.now c.args.eyes.now.items c.read_all.new.eyes.items) (sym is)
    (eyes_memory g.E.Eye.reads g.E.Eye.faults g.S.Sealed.tells (source_in g.S.Sealed.bytes c.args.segment.now) c.args.params.now c.args.eyes.now.items c.read_all.new.eyes.items c.requires.some))
    c.repair_old.ensures.refused
