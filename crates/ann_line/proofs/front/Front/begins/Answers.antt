use Rattle.std.proofs.Common.{◌≤◌, ap, sym, subst, List, ℕ}
use mathlib.Core.List.{IsPrefix}
use Rattle.ann_types.specs.Lists.{BasedList, length_of}
use Rattle.ann_line.specs.declared.history.Link.{Link}
use Rattle.ann_line.specs.History.{line, listed}
use Rattle.ann_line.proofs.Begins.{begins_on, begins_shorter}
use Rattle.ann_line.proofs.Lines.{line_prefix}
use Rattle.ann_line.proofs.front.Front.begins.Goals as goal

pub returns : goal.returns
returns g c =
    let root : ℕ = g.N.ListName.origin.root in
    let opening : BasedList = g.N.ListName.opening in
    let both = c.learn.new.self.log in
    let mine = c.self.inside.seen.log in
    let theirs = c.other.inside.seen.log in
    let this : IsPrefix mine both = subst (λ (l : List Link). IsPrefix l both) (ap (λ s. s.log) c.again-both.ensures) c.learn.ensures.2 in
    let less : length_of (listed opening root mine) ≤ length_of (listed opening root theirs) =
    subst (λ (h : BasedList). length_of h ≤ length_of (listed opening root theirs)) (sym c.self.view_is) (subst (λ (h : BasedList). length_of c.args.self.now ≤ length_of h) (sym c.other.view_is) c.requires) in
    rw (← c.self.view_is, ← c.other.view_is) (begins_shorter (listed opening root mine) (listed opening root theirs) (listed opening root both) (begins_on opening (line root mine) (line root both) (line_prefix root mine both this)) (begins_on opening (line root theirs) (line root both) (line_prefix root theirs both c.learn.ensures.3)) less)
