use Rattle.std.proofs.Common.{◌≡◌, subst}
use Rattle.std.specs.Prelude.{Option, None, MatchOption}
use Rattle.ann_merge.specs.Job.{Order}
use Rattle.ann_vault.specs.declared.shelf.MemorySeal.{MemorySeal}
use Rattle.ann_core_laws.specs.State.{open_begin}
use Rattle.ann_core.specs.Made.{IsInputOf}
use Rattle.std.specs.Arc.{arc_value}
use Rattle.ann_core.specs.Core.{seen}
use Rattle.ann_core.proofs.Merges.{made_by}
use Rattle.ann_core.proofs.state.State.merged.Goals as goal

pub returns-in_ok-make-in-Some : goal.returns-in_ok-make-in-Some
returns-in_ok-make-in-Some g c = λ index state core.
    made_by index (seen c.args.self.now) state core c.in-Some.input (arc_value c.in_ok-make-in-Some.field-0)
    (subst (λ (o : Option (Order MemorySeal)). MatchOption o (open_begin index state ≡ None) (IsInputOf index state)) c.in-Some.is (c.in_ok-input.ensures index state core)) c.in_ok-make-in-Some.ensures
