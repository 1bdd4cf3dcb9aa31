use Rattle.std.proofs.Common.{ℕ, ◌-◌, List, sym, subst}
use Rattle.std.specs.Prelude.{Option}
use Rattle.ann_types.specs.declared.entry.Entry.{Entry}
use Rattle.ann_resume.specs.Cut.{without_merge, IsTailOf}
use Rattle.ann_resume.proofs.Cutting.{tail_is}
use Rattle.ann_resume.proofs.cut.cut_tail.Goals as goal

pub returns : goal.returns
returns c index h last =
    let merge = c.args.merge.now in
    let all = c.args.entries.now.items in
    let deleted = c.args.gone.now.items in
    subst (λ (e : List Entry). IsTailOf index c.args.position h merge last all deleted e c.cut_merge-2.new.items.items) (sym c.cut_merge.ensures)
    (subst (λ (d : List (Option ℕ)). IsTailOf index c.args.position h merge last all deleted (without_merge (merge.position - c.args.position) (merge.end - c.args.position) all) d) (sym c.cut_merge-2.ensures) (tail_is index c.args.position h merge last all deleted))
