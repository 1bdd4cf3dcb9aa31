use Rattle.std.proofs.Common.{◌≡◌, subst, sym}
use Rattle.ann_init.specs.Ends.{said_by, IsUnmadeFor}
use Rattle.ann_init.proofs.Makings.{made_of, unmade_for}
use Rattle.ann_init.proofs.making.make.Goals as goal

pub returns-in-Ok-clause-made : goal.returns-in-Ok-clause-made
returns-in-Ok-clause-made g c = made_of g.F.LogFile c.args.params.now c.args.book.now c.args.files c.into_files.result c.in-Ok.log (λ file. g.met.F.LogFile.reads_an_image file) c.in-Ok.ensures.made c.into_files.ensures

pub returns-in-Err-clause-refused : goal.returns-in-Err-clause-refused
returns-in-Err-clause-refused g c =
    let same : said_by c.in-Err.field-0.why ≡ c.why_of.result = sym c.why_of.ensures in
    subst (IsUnmadeFor g.F.LogFile c.args.params.now c.args.book.now c.args.files c.in-Err.field-0.files) same
    (unmade_for g.F.LogFile c.args.params.now c.args.book.now c.args.files c.in-Err.field-0.files c.in-Err.field-0.why c.in-Err.ensures.refused)
