use Rattle.std.specs.Prelude.{Result, Ok, Err, IfOk}
use Rattle.ann_view.proofs.Inserts.{taken_are}
use Rattle.ann_view.proofs.temp.TempIndex.frozen_of_begin.Goals as goal

pub returns-clause-graphs : goal.returns-clause-graphs
returns-clause-graphs c = if_ok c.first.result (λ graphs e. taken_are c.args.self.now c.self.inside.params c.self.inside.rw c.self.inside.ros _ c.self.inside.dead c.self.inside.begun c.in-Some.begun c.frozen.result c.self.view_is c.in-Some.is c.frozen.ensures e) c.first.ensures
  where
    if_ok : {T E : Type 0} {P Q : T → Type 0} (r : Result T E) → ((x : T) → P x → Q x) → IfOk r P → IfOk r Q
    if_ok (Ok x) f p = f x p
    if_ok (Err e) f p = tt
