use Rattle.std.proofs.Common.{ℕ, List, ◌++◌, take, replicate, Result, Ok, Err, ap, ◌∙◌, arith}
use Rattle.std.specs.Prelude.{OnOk}
use Rattle.ann_segment.proofs.Rows.{front_written, take-replicate}
use Rattle.ann_segment.proofs.writer.write_front.Goals as goal

-- what follows from what is so where a call ends well
then : {T E P Q : Type 0} (result : Result T E) → (P → Q) → OnOk result P → OnOk result Q
then (Ok x) follows is = follows is
then (Err e) follows is = is

pub returns-clause-draft : goal.returns-clause-draft
returns-clause-draft g c = λ tells.
    let block : List ℕ = c.write_header.new.block in
    let bytes : List ℕ = c.args.directory.now in
    let pad : List ℕ = take c.padding.result (replicate {A = ℕ} 4096 0) in
    let before : List ℕ = g.V.Vault.draft_bytes c.args.draft.now in
    record {
      number = c.write-3.ensures.number tells ∙ c.in_ok-write-2.ensures.number tells ∙ c.in_ok-write.ensures.number tells;
      blocks =
          then c.write-3.result (λ written.
          written
          ∙ ap (λ (b : List ℕ). b ++ pad) (c.in_ok-write-2.ensures.written tells ∙ ap (λ (b : List ℕ). b ++ bytes) (c.in_ok-write.ensures.written tells))
          ∙ front_written c.args.header.now before block bytes pad c.padding.result
          c.write_header.ensures.written
          (take-replicate c.padding.result 4096 (omega (arith, c.padding.ensures.less)))
          c.padding.ensures.value)
          (c.write-3.ensures.written tells);
      current = c.write-3.ensures.current tells;
    }
