use Rattle.std.proofs.Common.{sym, ap₂, ◌∙◌, ℕ}
use Rattle.ann_log.specs.LogView.{files_of, held_of}
use Rattle.ann_preamble.specs.declared.base.Base.{Base}
use Rattle.ann_recover.specs.Renewal.{renewal_of}
use Rattle.ann_recover.proofs.Renewals.{none_during, some_during}
use Rattle.ann_recover.proofs.renewal.renew_log.Goals as goal

pub returns-in-None-clause-during : goal.returns-in-None-clause-during
returns-in-None-clause-during g c =
    let same = ap₂ (λ (b : Base) (n : ℕ). renewal_of b n c.args.merge) (sym c.base.ensures.base) (sym c.generation.ensures) in
    none_during g.F.LogFile (files_of c.args.log.now) (held_of c.args.log.now) (renewal_of c.args.log.now.base c.args.log.now.generation c.args.merge) c.args.tail.items
    (same ∙ sym c.new_base.ensures.value ∙ c.in-None.is) c.requires.after

pub returns-in-Some-clause-during : goal.returns-in-Some-clause-during
returns-in-Some-clause-during g c =
    let same = ap₂ (λ (b : Base) (n : ℕ). renewal_of b n c.args.merge) (sym c.base.ensures.base) (sym c.generation.ensures) in
    some_during g.F.LogFile (files_of c.args.log.now) (files_of c.renew-in-Some.new.self) (held_of c.args.log.now) (renewal_of c.args.log.now.base c.args.log.now.generation c.args.merge) c.in-Some.base c.args.tail.items _
    (same ∙ sym c.new_base.ensures.value ∙ c.in-Some.is) c.from_vec.ensures c.renew-in-Some.ensures.during
