use Rattle.std.proofs.Common.{List, ℕ, ap, subst, ◌∙◌}
use Rattle.ann_fault.specs.Counts.{next_count}
use Rattle.ann_vault.specs.Reads.{more_reads}
use Rattle.ann_block.specs.declared.header.Header.{Header}
use Rattle.ann_segment.specs.Opening.{IsDirectory, directory_in}
use Rattle.ann_segment.proofs.Texts.{may_read_two}
use Rattle.ann_segment.proofs.opening.read_front.Goals as goal

pub returns-in-None-clause-told : goal.returns-in-None-clause-told
returns-in-None-clause-told g c = λ tells.
    let bytes = g.S.Sealed.bytes c.args.seal.now in
    let h = c.in_ok-header.header in
    let first = c.in_ok-header.ensures.told tells in
    let read = c.in_ok-directory.ensures.told tells in
    let found : IsDirectory h.m h.count (directory_in h bytes) = subst (λ (x : List ℕ). IsDirectory h.m h.count x) (c.deref.ensures.value ∙ read) c.in-None.ensures.found in
    record {
      front = record { header = first.0; directory = subst (λ (k : Header). IsDirectory k.m k.count (directory_in k bytes)) first.1 found };
      header = first.1;
      directory = read;
    }

pub returns-in-Some-clause-reads : goal.returns-in-Some-clause-reads
returns-in-Some-clause-reads g c =
    let first = c.in_ok-header.ensures.reads in
    record {
      reads = 2;
      as_many = may_read_two c.in-Some.block c.in-Some.ensures.behind;
      counted = c.in_ok-directory.ensures.read ∙ ap next_count (first.3 ∙ ap (λ (n : ℕ). more_reads n (g.E.Eye.reads c.args.eye.now)) first.2);
    }
