use Rattle.std.proofs.Common.{arith}
use Rattle.ann_state.proofs.States.{on_base_is, on_merge_is, stands_in, gone_many}
use Rattle.ann_state.proofs.state.state_of.Goals as goal

pub on_merge-requires-clause-merge : goal.on_merge-requires-clause-merge
on_merge-requires-clause-merge g c =
    let k = c.requires.known in
    let is = stands_in g.S.Sealed.tells g.S.Sealed.bytes k.0 k.1 c.args.base.now c.args.entries.items c.args.list k.2 c.in-Some.merge c.in-Some.is in
    let size = c.args.entries.ok.0 in
    record { behind = is.behind; order = is.order; within = (let within = is.within in omega (arith, within, size)) }

pub on_merge-requires-clause-many : goal.on_merge-requires-clause-many
on_merge-requires-clause-many g c =
    let k = c.requires.known in
    let many = gone_many g.S.Sealed.tells g.S.Sealed.bytes k.0 k.1 c.args.base.now c.args.entries.items c.args.list k.2 in
    let size = c.args.entries.ok.0 in
    let other = c.args.list.judged.gone.ok.0 in
    omega (arith, many, size, other)

pub on_merge-requires-clause-room : goal.on_merge-requires-clause-room
on_merge-requires-clause-room g c =
    let k = c.requires.known in
    let is = stands_in g.S.Sealed.tells g.S.Sealed.bytes k.0 k.1 c.args.base.now c.args.entries.items c.args.list k.2 c.in-Some.merge c.in-Some.is in
    let order = is.order in
    let within = is.within in
    let room = c.requires.room in
    let size = c.args.entries.ok.0 in
    omega (arith, order, within, room, size)

pub returns-in-None : goal.returns-in-None
returns-in-None g c held params is merged =
    on_base_is g.S.Sealed.tells g.S.Sealed.bytes held params c.args.base.now c.args.entries.items c.args.list is c.requires.base c.in-None.is c.on_base.result c.on_base.ensures

pub returns-in-Some : goal.returns-in-Some
returns-in-Some g c held params is merged =
    on_merge_is g.S.Sealed.tells g.S.Sealed.bytes held params c.args.base.now c.args.entries.items c.args.list is c.in-Some.merge c.in-Some.is c.args.merged merged c.on_merge.result c.on_merge.ensures
