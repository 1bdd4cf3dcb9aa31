use Rattle.std.proofs.Common.{◌∙◌, sym, subst}
use Rattle.std.specs.Arc.{arc_value}
use Rattle.std.specs.Option.{option_map}
use Rattle.std.proofs.lemmas.Result.{IfErr-weaker, IfOk-weaker}
use Rattle.ann_mcause.specs.Eyes.{AreCause}
use Rattle.ann_mcause.proofs.Watched.{eyes_memory}
use Rattle.ann_mpatch.specs.Source.{source_of}
use Rattle.ann_mphases.specs.Index.{index_of}
use Rattle.ann_mlaws.specs.Rows.{HasCodes}
use Rattle.ann_mphases.proofs.Plans.{may_grow}
use Rattle.ann_mphases.proofs.plan.plan_merge.Goals as goal

pub delete_old-requires-clause-codes : goal.delete_old-requires-clause-codes
delete_old-requires-clause-codes g c κs within =
    subst (HasCodes (option_map arc_value c.args.old.now)) (sym c.requires.may.book.parts ∙ c.known.ensures.book.count) c.requires.may.codes

pub finish-requires-clause-may : goal.finish-requires-clause-may
finish-requires-clause-may g c κs within =
    let is = c.in_ok-left.ensures.left in
    may_grow g.S.Sealed.tells g.S.Sealed.bytes (index_of c.args.params.now c.args.book.now) c.args.gone.now (option_map arc_value c.args.old.now) is.before is.read
    c.args.points.items c.in_ok-left.left.lists c.in_ok-left.left.decoded c.args.book.now.d c.requires.may c.requires.book is.lists is.vectors is.wide

pub returns-clause-planned : goal.returns-clause-planned
returns-clause-planned g c =
    let index = index_of c.args.params.now c.args.book.now in
    let gone = c.args.gone.now in
    let old = option_map arc_value c.args.old.now in
    let points = c.args.points.items in
    IfOk-weaker c.finish.result _ _
    (λ p planned. (let rows = planned gone c.in_ok-left.ensures.left in record {
      rows = rows;
      sound = c.planning.ensures.sound index gone old points p.plan p.entry c.requires.may rows;
      merge = λ told lti holds. c.planning.ensures.merged told index gone old points p.plan p.entry lti c.requires.may rows holds;
    }))
    c.finish.ensures.planned

pub returns-clause-refused : goal.returns-clause-refused
returns-clause-refused g c =
    IfErr-weaker c.finish.result _ _
    (λ why is. subst (AreCause g.E.Eye.reads g.E.Eye.faults g.S.Sealed.tells (source_of g.S.Sealed.bytes (option_map arc_value c.args.old.now)) c.args.params.now c.args.eyes.now.items c.delete_old.new.eyes.items) (sym is)
    (eyes_memory g.E.Eye.reads g.E.Eye.faults g.S.Sealed.tells (source_of g.S.Sealed.bytes (option_map arc_value c.args.old.now)) c.args.params.now c.args.eyes.now.items c.delete_old.new.eyes.items c.requires.workers.0))
    c.finish.ensures.refused
