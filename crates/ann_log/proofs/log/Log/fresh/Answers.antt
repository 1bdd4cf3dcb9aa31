use Rattle.ann_log.specs.Making.{held_with}
use Rattle.ann_log.specs.Text.{said_in}
use Rattle.ann_preamble.specs.declared.choice.Side.TheVariants.{First}
use Rattle.ann_log.proofs.Turning.{fresh_rest, fresh_sound, stands_at_rest}
use Rattle.ann_log.proofs.log.Log.fresh.Goals as goal

pub invariant_of-result : goal.invariant_of-result
invariant_of-result g c =
    let D = g.F.LogFile in
    let files = c.args.files in
    let is = c.requires.written in (
      fresh_sound D.tells (said_in c.args.params c.args.book c.args.base 1) c.args.gate (D.seen files.first) (D.seen files.second) (D.unsynced files.first) (D.unsynced files.second) is.first.text
          is.second is.first.rest is.rest c.requires.said,
      c.requires.room,
    )

pub returns-clause-after : goal.returns-clause-after
returns-clause-after g c told a is_a b is_b =
    let D = g.F.LogFile in
    let files = c.args.files in
    let is = c.requires.written in
    stands_at_rest First (held_with c.args.params c.args.book c.args.base) 1 (D.seen files.first) (D.seen files.second) (D.unsynced files.first) (D.unsynced files.second) c.args.gate
    (fresh_rest D.tells (said_in c.args.params c.args.book c.args.base 1) c.args.gate (D.seen files.first) (D.seen files.second) (D.unsynced files.first) (D.unsynced files.second) is.first.text
    is.second is.first.rest is.rest told)
    a b is_a is_b
