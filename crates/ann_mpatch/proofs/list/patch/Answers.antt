use Rattle.std.proofs.Common.{◌<◌, ◌++◌, length, ap, ◌∙◌, arith}
use Rattle.ann_types.specs.Kept.{rule_of}
use Rattle.ann_mdelete.specs.Decoded.{apart_of}
use Rattle.ann_mpatch.proofs.Joins.{joined_few, joined_many, all_right}
use Rattle.ann_mpatch.proofs.list.patch.Goals as goal

pub returns-then-own-delta : goal.returns-then-own-delta
returns-then-own-delta c =
    joined_few (rule_of c.args.params.now) (apart_of c.args.metric.now) c.args.p c.args.own.now c.args.delta.now _ c.requires.own c.requires.delta c.requires.apart
    (let few = c.if-own-delta.true in let most = c.from.ensures in omega arith) c.join.ensures

pub gather_warm-requires-2 : goal.gather_warm-requires-2
gather_warm-requires-2 c = all_right (λ row. row < length c.args.metric.now) c.args.own.now c.args.delta.now c.requires.rows.others

pub returns : goal.returns
returns c =
    joined_many (rule_of c.args.params.now) (apart_of c.args.metric.now) c.args.p c.args.own.now c.args.delta.now c.gather_warm-2.new.candidates.rows _ c.requires.own c.requires.delta c.requires.apart
    (let many = c.if-own-delta.false in let most = c.from.ensures in omega arith)
    (c.in_ok-gather_warm-2.ensures ∙ ap (λ t. t ++ c.args.delta.now) (c.in_ok-gather_warm.ensures ∙ ap (λ t. t ++ c.args.own.now) c.clear.ensures.rows))
    c.prune.ensures.kept
