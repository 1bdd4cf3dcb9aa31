use Rattle.std.proofs.Common.{◌≡◌, ◌∙◌, ◌++◌, List, ap, subst}
use Rattle.std.specs.Prelude.{IfOk}
use Rattle.ann_types.specs.declared.entry.Entry.{Entry}
use Rattle.ann_reopen.specs.Judged.{IsJudged}
use Rattle.ann_vault.specs.Held.{Holding}
use Rattle.ann_vault.specs.Memory.{memory_held}
use Rattle.ann_core_laws.specs.State.{logged, last_end}
use Rattle.ann_core.specs.Kept.{texts_of, held_for}
use Rattle.ann_core.specs.Opened.{IsRead, IsOpened}
use Rattle.ann_core.proofs.prefix.open_list.Goals as goal

pub resume_list-requires-clause-known : goal.resume_list-requires-clause-known
resume_list-requires-clause-known c = (
  memory_held c.in_ok-vault.vault,
  record {
    judged_are = λ index same. subst (λ (t : List Entry). IsJudged index (logged t) c.in-Ok.judged) c.deref.ensures.value (c.in-Ok.ensures index same);
    opened = c.in-Ok-open_merged.ensures.opened;
  },
)

pub returns : goal.returns
returns c =
    let items : c.copy_all.new.out.items ≡ c.args.entries.now = c.in_ok-copy_all.ensures ∙ ap (λ (t : List Entry). t ++ c.args.entries.now) c.new-all.ensures.items in
    let held : memory_held c.in_ok-vault.vault ≡ held_for (texts_of c.args.kept.now) (last_end c.args.entries.now) = c.in_ok-vault.ensures ∙ ap (held_for (texts_of c.args.kept.now)) c.last_end_of.ensures in
    let read : IsRead (memory_held c.in_ok-vault.vault) c.args.params.now c.copy_all.new.out.items c.in-Ok.judged c.in-Ok-open_merged.merged = record {
      judged_are = λ index same. subst (λ (t : List Entry). IsJudged index (logged t) c.in-Ok.judged) c.deref.ensures.value (c.in-Ok.ensures index same);
      opened = c.in-Ok-open_merged.ensures.opened;
    } in
    subst (λ (h : Holding). IfOk c.resume_list.result (λ opened. IsOpened h c.args.params.now c.args.book.now c.args.entries.now opened)) held
    (subst (λ (t : List Entry). IfOk c.resume_list.result (λ opened. IsOpened (memory_held c.in_ok-vault.vault) c.args.params.now c.args.book.now t opened)) items
    (c.resume_list.ensures (memory_held c.in_ok-vault.vault) read))
