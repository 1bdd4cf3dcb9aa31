-- What looking into an index finds: its list, and the node blocks of its segments.
use Rattle.std.proofs.Common.{◌≡◌, ◌<◌, ◌+◌, ℕ, Bool, true, false, ◌==◌, eqb-true, List, [], length, Result, Ok, Err, inl, inr, refl, sym, ap, ap₂, subst, ◌∙◌, arith}
use Rattle.std.specs.Prelude.{Some, IsErrAnd}
use Rattle.std.specs.FinMap.{len}
use Rattle.std.proofs.lemmas.Bool.{eqb-false}
use Rattle.ann_types.specs.Lists.{live_of}
use Rattle.ann_types.specs.declared.entry.Entry.{Entry}
use Rattle.ann_types.specs.declared.params.Params.{Params}
use Rattle.ann_types.proofs.Tagged.{tags_differ}
use Rattle.ann_fault.specs.Counts.{next_count}
use Rattle.ann_base.specs.Causes as pair
use Rattle.ann_disk.specs.declared.file.LogFile.{Ghosts}
use Rattle.ann_log.specs.Text.{Held, StandsFor}
use Rattle.ann_log.specs.declared.files.Files.{Files}
use Rattle.ann_pq.specs.Codebook.{CodebookView}
use Rattle.ann_preamble.specs.declared.base.Base.{Base}
use Rattle.ann_segment.specs.Segment.{SegmentView, IsNodeIn, IsVerdict, node_block, sealed_block}
use Rattle.ann_segment.specs.declared.refused.VerifyRefused.{VerifyRefused}
use Rattle.ann_segment.specs.declared.refused.VerifyRefused.TheVariants as verify
use Rattle.ann_tags.proofs.Maps.{count_is}
use Rattle.ann_vault.specs.Counted.{CountsFault}
use Rattle.ann_vault.specs.Held.{Holding}
use Rattle.ann_state.specs.List.{list_on, IsListState}
use Rattle.ann_state.specs.State.{index_with}
use Rattle.ann_state.specs.declared.list.ListState.{ListState}
use Rattle.ann_recover.specs.Causes.{Faults, AreCounted}
use Rattle.ann_recover.specs.Inspected.{IsSumRefused, IsNotInspected}
use Rattle.ann_recover.specs.Refusal.{of_verify}
use Rattle.ann_recover.specs.Verified.{IsRight, AreRight, IsWrong}
use Rattle.ann_recover.specs.declared.refused.RecoverWhy.{RecoverWhy}
use Rattle.ann_recover.specs.declared.refused.RecoverWhy.TheVariants.{NoIndex, BadLog, BadSegment, Disk, Memory}

-- ---- the live tags

pub live_many : {S : Type 0} (tells : Type 0) (bytes : S → List ℕ) (held : Holding) (params : Params) (base : Base) (entries : List Entry) (list : ListState S) → (is : IsListState tells bytes held params base entries list) → len list.judged.tags.pids ≡ length (live_of (list_on base is.graph entries))
live_many tells bytes held params base entries list is =
    ap len (is.judged (index_with params []) refl).tags
    ∙ count_is (live_of (list_on base is.graph entries)) (tags_differ params (list_on base is.graph entries) is.ground.based)

-- ---- faults

disk_verified : (why : VerifyRefused) → of_verify why ≡ Disk → why ≡ verify.Disk
disk_verified verify.Disk e = refl
disk_verified (verify.BadSegment block) e = cc

module _ {T : Type 0} where
  -- of an eye behind calls that went well
  pub eye_counted : (why : RecoverWhy) (result : Result T RecoverWhy) (old : pair.Counts) (vault eye eye' : ℕ) → IsErrAnd result (λ e. e ≡ why) → pair.counts_of vault eye ≡ old → (why ≡ Disk → eye' ≡ next_count eye) → ((why ≡ Disk → ⊥) → eye' ≡ eye) → pair.AreCounted Disk result old (pair.counts_of vault eye')
  eye_counted why (Ok x) old vault eye eye' is calm failed refused = absurd is
  eye_counted why (Err e) old vault eye eye' is calm failed refused = record {
    calm = tt;
    failed = λ disk. subst (λ (c : pair.Counts). pair.HasOneFault c (pair.counts_of vault eye')) calm (inr (ap (pair.counts_of vault) (failed (sym is ∙ disk))));
    refused = λ other. ap (pair.counts_of vault) (refused (λ disk. other (is ∙ disk))) ∙ calm;
  }

  -- of the vault and the eye behind calls of the files that went well
  pub files_counted : (result : Result T RecoverWhy) (first second first' second' vault eye vault' eye' : ℕ) → first' ≡ first → second' ≡ second → pair.AreCounted Disk result (pair.counts_of vault eye) (pair.counts_of vault' eye') → AreCounted Disk result (record { first = first; second = second; vault = vault; eye = eye }) (record { first = first'; second = second'; vault = vault'; eye = eye' })
  files_counted (Ok x) first second first' second' vault eye vault' eye' one two w = record { calm = all one two w.calm; caused = tt }
    where
      all : first' ≡ first → second' ≡ second → pair.counts_of vault' eye' ≡ pair.counts_of vault eye → let f : Faults = record { first = first'; second = second'; vault = vault'; eye = eye' } in let g : Faults = record { first = first; second = second; vault = vault; eye = eye } in f ≡ g
      all one two same =
          ap₂ (λ (n m : ℕ). let f : Faults = record { first = n; second = m; vault = vault'; eye = eye' } in f) one two
          ∙ ap (λ (c : pair.Counts). let f : Faults = record { first = first; second = second; vault = c.vault; eye = c.eye } in f) same
  files_counted (Err e) first second first' second' vault eye vault' eye' one two w = record {
    calm = tt;
    caused = record {
      failed = λ disk. elim (w.failed disk) [
        | inl is ↦ inr (inr (inl (all (next_count vault) eye is)))
        | inr is ↦ inr (inr (inr (all vault (next_count eye) is)))
      ];
      calm = λ other. all vault eye (w.refused other);
    };
  }
    where
      all : (v y : ℕ) → pair.counts_of vault' eye' ≡ pair.counts_of v y → let f : Faults = record { first = first'; second = second'; vault = vault'; eye = eye' } in let g : Faults = record { first = first; second = second; vault = v; eye = y } in f ≡ g
      all v y same =
          ap₂ (λ (n m : ℕ). let f : Faults = record { first = n; second = m; vault = vault'; eye = eye' } in f) one two
          ∙ ap (λ (c : pair.Counts). let f : Faults = record { first = first; second = second; vault = c.vault; eye = c.eye } in f) same

  -- of reading a node block
  pub verify_counted : (why : VerifyRefused) (result : Result T RecoverWhy) (old mid new : ℕ) → IsErrAnd result (λ e. e ≡ of_verify why) → mid ≡ old → (why ≡ verify.Disk → new ≡ next_count mid) → ((why ≡ verify.Disk → ⊥) → new ≡ mid) → CountsFault (λ (e : RecoverWhy). e ≡ Disk) result old new
  verify_counted why (Ok x) old mid new is calm failed refused = absurd is
  verify_counted why (Err e) old mid new is calm failed refused = record {
    calm = tt;
    failed = λ disk. failed (disk_verified why (sym is ∙ disk)) ∙ ap next_count calm;
    refused = λ other. refused (λ disk. other (is ∙ ap of_verify disk)) ∙ calm;
  }

-- ---- refusals

pub not_inspected : {F S : Type 0} (D : Ghosts F) (tells : Type 0) (bytes : S → List ℕ) (held : Holding) (files : Files F) (was : Held) → (D.tells → StandsFor was (D.seen files.first) (D.seen files.second)) → (why : RecoverWhy) → IsSumRefused tells bytes held was.params was.book was.base was.entries why → IsNotInspected D tells bytes held files why
not_inspected D tells bytes held files was stood NoIndex (inl is) = absurd is
not_inspected D tells bytes held files was stood NoIndex (inr is) = elim is.wrong [ inl w ↦ absurd w | inr w ↦ absurd w.1 ]
not_inspected D tells bytes held files was stood (BadLog entry) is = inr (record { was = was; stood = stood; refused = is })
not_inspected D tells bytes held files was stood (BadSegment block) is = record { was = was; stood = stood; refused = is }
not_inspected D tells bytes held files was stood Disk is = tt
not_inspected D tells bytes held files was stood Memory is = tt

-- ---- node blocks

-- one row more
pub right_more : {S : Type 0} (segment : SegmentView S) (book : CodebookView) (params : Params) (bytes : List ℕ) (n : ℕ) → AreRight segment book params bytes n → IsRight segment book params bytes n → AreRight segment book params bytes (n + 1)
right_more segment book params bytes n before here row l = by_same (row == n) refl
  where
    by_same : (b : Bool) → (row == n) ≡ b → IsRight segment book params bytes row
    by_same true e = subst (IsRight segment book params bytes) (sym (eqb-true row n e)) here
    by_same false e = before row (let other = eqb-false row n e in omega (arith, l, other))

-- a row that isn't right, behind those that are
pub wrong_is : {S : Type 0} (tells : Type 0) (bytes : S → List ℕ) (segment : SegmentView S) (book : CodebookView) (params : Params) (n : ℕ) (page : List ℕ) (why : VerifyRefused) → n < length segment.items → (tells → AreRight segment book params (bytes segment.seal) n) → (tells → (why ≡ verify.Disk → ⊥) → page ≡ sealed_block (bytes segment.seal) (node_block segment n)) → IsVerdict {T = Unit {0}} segment n book params page (Err why) → IsWrong tells bytes (Some segment) book params (of_verify why)
wrong_is tells bytes segment book params n page verify.Disk within before same verdict = tt
wrong_is tells bytes segment book params n page (verify.BadSegment block) within before same verdict = λ told. record {
  row = n;
  within = within;
  place = verdict.0;
  before = before told;
  wrong = λ right. verdict.1 (subst (λ (p : List ℕ). IsNodeIn segment n book params p) (sym (same told (λ e. cc))) right);
}
