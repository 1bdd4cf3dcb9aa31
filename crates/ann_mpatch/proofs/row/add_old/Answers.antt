use Rattle.std.proofs.Common.{◌≡◌, ◌∷◌, [], List, ℕ, refl, sym, subst, rules}
use Rattle.ann_mdelete.specs.declared.refused.WorkRefused.TheVariants.{Disk, Memory}
use Rattle.ann_mpatch.specs.Source.{IsBlock, source_in}
use Rattle.ann_mpatch.proofs.Courses.{refused_as}
use Rattle.ann_mpatch.proofs.row.add_old.Goals as goal

pub returns-in_err-read-clause-refused : goal.returns-in_err-read-clause-refused
returns-in_err-read-clause-refused g c =
    refused_as _ c.from_residual.result Disk c.from_residual.ensures.1
    (record {
      before = [];
      row = c.args.row;
      after = [];
      rows_are = refl;
      sound = λ told. tt;
      reads = c.in_err-read.ensures.uncounted;
      faulty = c.in_err-read.ensures.cause.failed;
    })

pub returns-in_err-add_block-in-Ok-clause-refused : goal.returns-in_err-add_block-in-Ok-clause-refused
returns-in_err-add_block-in-Ok-clause-refused g c =
    let page : List ℕ = c.read.new.buf in
    let told : g.S.Sealed.tells → page ≡ (source_in g.S.Sealed.bytes c.args.segment.now).sealed c.args.row = λ tells. search rules in
    let block : IsBlock (source_in g.S.Sealed.bytes c.args.segment.now) c.args.params.now c.args.row page = search rules in
    refused_as _ c.from_residual-in_err-add_block-in-Ok.result Memory c.from_residual-in_err-add_block-in-Ok.ensures.1
    (record {
      before = c.args.row ∷ [];
      after = [];
      rows_are = refl;
      sound = λ tells. (subst (IsBlock (source_in g.S.Sealed.bytes c.args.segment.now) c.args.params.now c.args.row) (told tells) block, tt);
      reads = c.in_ok-read.ensures.counted;
      calm = c.in_ok-read.ensures.cause.calm;
    })

pub returns-in-Err-clause-refused : goal.returns-in-Err-clause-refused
returns-in-Err-clause-refused g c =
    let page : List ℕ = c.read.new.buf in
    let told : g.S.Sealed.tells → page ≡ (source_in g.S.Sealed.bytes c.args.segment.now).sealed c.args.row = λ tells. search rules in
    let bad : IsBlock (source_in g.S.Sealed.bytes c.args.segment.now) c.args.params.now c.args.row page → ⊥ = search rules in
    record {
      before = [];
      row = c.args.row;
      after = [];
      rows_are = refl;
      place = c.node_block-block.ensures.value;
      bad = λ tells is. bad (subst (IsBlock (source_in g.S.Sealed.bytes c.args.segment.now) c.args.params.now c.args.row) (sym (told tells)) is);
      sound = λ told. tt;
      reads = c.in_ok-read.ensures.counted;
      calm = c.in_ok-read.ensures.cause.calm;
    }
