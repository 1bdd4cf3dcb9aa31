use Rattle.std.proofs.Common.{◌+◌, List, length, inl, inr, ap, subst, ◌∙◌}
use Rattle.ann_types.specs.declared.entry.Entry.{Entry}
use Rattle.ann_base.proofs.Results.{err_is}
use Rattle.ann_base.specs.Causes.{counts_of}
use Rattle.ann_state.specs.List.{IsListState, IsListRefused}
use Rattle.ann_recover.specs.Inspected.{IsSumRefused}
use Rattle.ann_recover.proofs.Counting.{list_counted}
use Rattle.ann_recover.proofs.Loading.{list_refused, merge_refused}
use Rattle.ann_recover.proofs.Moved.{merged_at}
use Rattle.ann_recover.proofs.Summing.{live_many, eye_counted}
use Rattle.ann_recover.proofs.looking.sum_up.Goals as goal

pub returns-in_err-list-clause-refused : goal.returns-in_err-list-clause-refused
returns-in_err-list-clause-refused g c =
    err_is c.from_residual.result (IsSumRefused g.V.Seal.Sealed.tells g.V.Seal.Sealed.bytes (g.V.Vault.held c.args.vault.now) c.args.found.now.params c.args.found.now.book c.args.found.now.base c.args.found.now.entries) _ c.from_residual.ensures.1
    (inl (list_refused g.V.Seal.Sealed.tells g.V.Seal.Sealed.bytes (g.V.Vault.held c.args.vault.now) c.args.found.now.params c.args.found.now.base c.args.found.now.entries _
    (subst (λ (t : List Entry). IsListRefused g.V.Seal.Sealed.tells g.V.Seal.Sealed.bytes (g.V.Vault.held c.args.vault.now) c.args.found.now.params c.args.found.now.base t c.in_err-list.field-0.0) c.items-entries.ensures c.in_err-list.ensures.refused)))

pub returns-in_err-merged-clause-refused : goal.returns-in_err-merged-clause-refused
returns-in_err-merged-clause-refused g c =
    let read = subst (λ (t : List Entry). IsListState g.V.Seal.Sealed.tells g.V.Seal.Sealed.bytes (g.V.Vault.held c.args.vault.now) c.args.found.now.params c.args.found.now.base t c.in_ok-list.list) c.items-entries.ensures c.in_ok-list.ensures.read in
    err_is c.from_residual-in_err-merged.result (IsSumRefused g.V.Seal.Sealed.tells g.V.Seal.Sealed.bytes (g.V.Vault.held c.args.vault.now) c.args.found.now.params c.args.found.now.book c.args.found.now.base c.args.found.now.entries) _ c.from_residual-in_err-merged.ensures.1
    (inl (merge_refused g.V.Seal.Sealed.tells g.V.Seal.Sealed.bytes (g.V.Vault.held c.args.vault.now) c.args.found.now.params c.args.found.now.base c.args.found.now.entries c.in_ok-list.list read (g.V.Vault.held c.read_list.new.vault) c.in_ok-list.ensures.same _ c.in_err-merged.ensures.refused))

pub returns-in_err-merged-clause-cause : goal.returns-in_err-merged-clause-cause
returns-in_err-merged-clause-cause g c =
    list_counted c.in_err-merged.field-0.0 c.from_residual-in_err-merged.result _ _ _ c.from_residual-in_err-merged.ensures.1 c.in_ok-list.ensures.cause.calm c.in_err-merged.ensures.cause.failed c.in_err-merged.ensures.cause.refused

pub returns-in_err-verify-clause-refused : goal.returns-in_err-verify-clause-refused
returns-in_err-verify-clause-refused g c =
    let read = subst (λ (t : List Entry). IsListState g.V.Seal.Sealed.tells g.V.Seal.Sealed.bytes (g.V.Vault.held c.args.vault.now) c.args.found.now.params c.args.found.now.base t c.in_ok-list.list) c.items-entries.ensures c.in_ok-list.ensures.read in
    let opened = merged_at g.V.Seal.Sealed.tells g.V.Seal.Sealed.bytes (g.V.Vault.held c.args.vault.now) (g.V.Vault.held c.read_list.new.vault) c.in_ok-list.ensures.same c.args.found.now.params c.in_ok-list.list.judged.merge c.in_ok-merged.merged c.in_ok-merged.ensures.opened in
    err_is c.from_residual-in_err-verify.result (IsSumRefused g.V.Seal.Sealed.tells g.V.Seal.Sealed.bytes (g.V.Vault.held c.args.vault.now) c.args.found.now.params c.args.found.now.book c.args.found.now.base c.args.found.now.entries) _ c.from_residual-in_err-verify.ensures.1
    (inr (record { list = c.in_ok-list.list; merged = c.in_ok-merged.merged; are = record { read = read; opened = opened }; wrong = inl c.in_err-verify.ensures.wrong }))

pub returns-in_err-verify-clause-cause : goal.returns-in_err-verify-clause-cause
returns-in_err-verify-clause-cause g c =
    eye_counted c.in_err-verify.field-0.0 c.from_residual-in_err-verify.result _ _ _ _ c.from_residual-in_err-verify.ensures.1
    (c.in_ok-merged.ensures.cause.calm ∙ c.in_ok-list.ensures.cause.calm) c.in_err-verify.ensures.cause.failed c.in_err-verify.ensures.cause.refused

pub returns-in_err-verify-2-clause-refused : goal.returns-in_err-verify-2-clause-refused
returns-in_err-verify-2-clause-refused g c =
    let read = subst (λ (t : List Entry). IsListState g.V.Seal.Sealed.tells g.V.Seal.Sealed.bytes (g.V.Vault.held c.args.vault.now) c.args.found.now.params c.args.found.now.base t c.in_ok-list.list) c.items-entries.ensures c.in_ok-list.ensures.read in
    let opened = merged_at g.V.Seal.Sealed.tells g.V.Seal.Sealed.bytes (g.V.Vault.held c.args.vault.now) (g.V.Vault.held c.read_list.new.vault) c.in_ok-list.ensures.same c.args.found.now.params c.in_ok-list.list.judged.merge c.in_ok-merged.merged c.in_ok-merged.ensures.opened in
    err_is c.from_residual-in_err-verify-2.result (IsSumRefused g.V.Seal.Sealed.tells g.V.Seal.Sealed.bytes (g.V.Vault.held c.args.vault.now) c.args.found.now.params c.args.found.now.book c.args.found.now.base c.args.found.now.entries) _ c.from_residual-in_err-verify-2.ensures.1
    (inr (record { list = c.in_ok-list.list; merged = c.in_ok-merged.merged; are = record { read = read; opened = opened }; wrong = inr (c.in_ok-verify.ensures.right, c.in_err-verify-2.ensures.wrong) }))

pub returns-in_err-verify-2-clause-cause : goal.returns-in_err-verify-2-clause-cause
returns-in_err-verify-2-clause-cause g c =
    eye_counted c.in_err-verify-2.field-0.0 c.from_residual-in_err-verify-2.result _ _ _ _ c.from_residual-in_err-verify-2.ensures.1
    (ap (counts_of (g.V.Vault.faults c.open_merged.new.vault)) c.in_ok-verify.ensures.cause.calm ∙ c.in_ok-merged.ensures.cause.calm ∙ c.in_ok-list.ensures.cause.calm) c.in_err-verify-2.ensures.cause.failed c.in_err-verify-2.ensures.cause.refused

pub returns-clause-summed : goal.returns-clause-summed
returns-clause-summed g c =
    let read = subst (λ (t : List Entry). IsListState g.V.Seal.Sealed.tells g.V.Seal.Sealed.bytes (g.V.Vault.held c.args.vault.now) c.args.found.now.params c.args.found.now.base t c.in_ok-list.list) c.items-entries.ensures c.in_ok-list.ensures.read in
    let opened = merged_at g.V.Seal.Sealed.tells g.V.Seal.Sealed.bytes (g.V.Vault.held c.args.vault.now) (g.V.Vault.held c.read_list.new.vault) c.in_ok-list.ensures.same c.args.found.now.params c.in_ok-list.list.judged.merge c.in_ok-merged.merged c.in_ok-merged.ensures.opened in
    record {
      list = c.in_ok-list.list;
      merged = c.in_ok-merged.merged;
      are = record { read = read; opened = opened };
      base_right = c.in_ok-verify.ensures.right;
      merge_right = c.in_ok-verify-2.ensures.right;
      entries_are = ap (λ (t : List Entry). c.args.found.now.base.position + length t) c.items-entries.ensures;
      live_are = c.count.ensures ∙ live_many g.V.Seal.Sealed.tells g.V.Seal.Sealed.bytes (g.V.Vault.held c.args.vault.now) c.args.found.now.params c.args.found.now.base c.args.found.now.entries c.in_ok-list.list read;
      segment_is = c.segment_named.ensures;
    }
