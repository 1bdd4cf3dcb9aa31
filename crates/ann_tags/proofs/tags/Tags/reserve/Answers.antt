use Rattle.std.proofs.Common.{ℕ, max, ap, ◌∙◌}
use Rattle.ann_tags.specs.Tags.{TagsView, Pids, map_of}
use Rattle.ann_tags.proofs.Maps.{same_pairs}
use Rattle.ann_tags.proofs.tags.Tags.reserve.Goals as goal

pub returns-clause-ok : goal.returns-clause-ok
returns-clause-ok c =
    ap (λ (m : Pids). record { pids = m; spare = c.max-self-inside.result }) (same_pairs c.reserve.new.self.entries c.self.inside.pids.entries c.in_ok-reserve.ensures.entries.2)
    ∙ ap (λ (n : ℕ). record { pids = map_of c.self.inside.pids.entries; spare = n }) c.max-self-inside.ensures
    ∙ ap (λ (s : TagsView). record { pids = s.pids; spare = max s.spare c.args.n }) c.self.view_is
