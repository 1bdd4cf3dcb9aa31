use Rattle.std.proofs.Common.{◌∙◌, sym, length, eqb-true, eq-eqb}
use Rattle.ann_dead.proofs.Runs.{empty_from_none, none_from_empty}
use Rattle.ann_dead.proofs.dead.Dead.is_empty.Goals as goal

pub returns : goal.returns
returns c =
    let rs = c.self.inside.runs.items in (
      (λ empty. sym c.self.view_is ∙ empty_from_none rs (eqb-true (length rs) 0 (sym c.is_empty.ensures ∙ empty))),
      (λ empty. c.is_empty.ensures ∙ eq-eqb (length rs) 0 (none_from_empty c.self.inside.runs.capacity rs c.self.invariant (c.self.view_is ∙ empty))),
    )
