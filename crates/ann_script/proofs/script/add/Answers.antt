use Rattle.std.proofs.Common.{sym, refl, ap, ◌∙◌, ◌++◌, ◌∷◌, [], arith}
use Rattle.ann_script.specs.Order.{order_of}
use Rattle.ann_script.proofs.Places.{found_is_first, none_is_past, none_passes}
use Rattle.ann_script.proofs.Clients.{named, pushed, added-at, added-full, added-last}
use Rattle.ann_script.proofs.script.add.Goals as goal

pub returns-in-Some-clause-said : goal.returns-in-Some-clause-said
returns-in-Some-clause-said c =
    let place = rw c.deref.ensures.value at c.in-Some.ensures in
    let first = found_is_first (named c.args.name.now) c.args.parts.now.items c.in-Some.at (sym place) in
    added-at c.args.room c.args.parts.now.items c.args.name.now (order_of c.args.command) c.index_mut-part.result.now (record { name = c.index_mut-part.result.now.name; commands = c.push.new.self }) c.in-Some.at first c.index_mut-part.ensures.value (pushed c.index_mut-part.result.now (record { name = c.index_mut-part.result.now.name; commands = c.push.new.self }) c.args.command refl c.in_ok-push.ensures.items)

pub returns-then-len-room-clause-said : goal.returns-then-len-room-clause-said
returns-then-len-room-clause-said c =
    let place = rw c.deref.ensures.value at c.in_default.ensures in
    added-full c.args.room c.args.parts.now.items c.args.name.now (order_of c.args.command) (none_passes (named c.args.name.now) c.args.parts.now.items (none_is_past (named c.args.name.now) c.args.parts.now.items (sym place))) (omega arith)

pub returns-clause-said : goal.returns-clause-said
returns-clause-said c =
    let place = rw c.deref.ensures.value at c.in_default.ensures in
    added-last c.args.room c.args.parts.now.items c.push-3.new.self.items (record { name = c.in_ok-name.name; commands = c.push-2.new.self }) c.args.name.now c.args.command (none_passes (named c.args.name.now) c.args.parts.now.items (none_is_past (named c.args.name.now) c.args.parts.now.items (sym place))) (omega arith) c.in_ok-push-3.ensures.items c.in_ok-name.ensures (c.in_ok-push-2.ensures.items ∙ ap (λ t. t ++ c.args.command ∷ []) c.new-commands.ensures.items)
