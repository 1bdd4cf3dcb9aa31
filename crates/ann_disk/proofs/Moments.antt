-- How a run of calls goes on.
use Rattle.std.proofs.Common.{◌≡◌, ℕ, List, [], ◌∷◌, ◌++◌, sym, ◌∙◌, ap, arith, append_assoc, subst, Result, Ok, Err, OnOk, OnErr}
use Rattle.std.proofs.lemmas.List.{append-nil}
use Rattle.std.proofs.lemmas.List.Elements.{All-append, All-push}
use Rattle.std.specs.List.{All}
use Rattle.ann_disk.specs.Image.{Unsynced, IsImage, EachImage, clean}
use Rattle.ann_fault.specs.declared.faults.Failed.{Failed}
use Rattle.ann_disk.proofs.Images.{clean_only}
use Rattle.ann_disk.specs.File.{LeavesOnly, IsUntouched}

none : (P : Unsynced → Type 0) → All P []
none P k d below = absurd (omega (arith, below))

module _ {F : Type 0} (past : F → List Unsynced) (unsynced : F → Unsynced) where
  -- no sync yet: what may be left now has P
  pub started : (old new : F) (P : List ℕ → Type 0) → past new ≡ past old → EachImage P (unsynced new) → LeavesOnly past unsynced old new P
  started old new P same now = record { ended = []; history = same ∙ sym (append-nil (past old)); each = none (EachImage P); now = now }

  -- one sync
  pub synced : (old mid new : F) (P : List ℕ → Type 0) → LeavesOnly past unsynced old mid P → past new ≡ past mid ++ unsynced mid ∷ [] → EachImage P (unsynced new) → LeavesOnly past unsynced old new P
  synced old mid new P sofar history now = record {
    ended = sofar.ended ++ unsynced mid ∷ [];
    history = history ∙ ap (λ (l : List Unsynced). l ++ unsynced mid ∷ []) sofar.history ∙ append_assoc (past old) sofar.ended (unsynced mid ∷ []);
    each = All-push (EachImage P) sofar.ended (unsynced mid) sofar.each sofar.now;
    now = now;
  }

  -- the same file
  pub unchanged : (old mid new : F) (P : List ℕ → Type 0) → LeavesOnly past unsynced old mid P → unsynced new ≡ unsynced mid → past new ≡ past mid → LeavesOnly past unsynced old new P
  unchanged old mid new P sofar same history = record {
    ended = sofar.ended;
    history = history ∙ sofar.history;
    each = sofar.each;
    now = subst (λ u. EachImage P u) (sym same) sofar.now;
  }

  -- a call of `sync`, whatever it answers
  pub after_sync : (seen : F → List ℕ) (old mid new : F) (P : List ℕ → Type 0) (bytes : List ℕ) (r : Result (Unit {0}) Failed) → LeavesOnly past unsynced old mid P → OnOk r (unsynced new ≡ clean bytes) → OnOk r (past new ≡ past mid ++ unsynced mid ∷ []) → OnErr r (IsUntouched seen unsynced past mid new) → P bytes → LeavesOnly past unsynced old new P
  after_sync seen old mid new P bytes (Ok x) sofar images history failed here =
      synced old mid new P sofar history (λ image is. subst P (sym (clean_only bytes image (subst (λ u. IsImage u image) images is))) here)
  after_sync seen old mid new P bytes (Err e) sofar images history failed here = unchanged old mid new P sofar failed.leaves failed.clock

  -- one run of calls behind another
  pub joined : (old mid new : F) (P : List ℕ → Type 0) → LeavesOnly past unsynced old mid P → LeavesOnly past unsynced mid new P → LeavesOnly past unsynced old new P
  joined old mid new P first second = record {
    ended = first.ended ++ second.ended;
    history = second.history ∙ ap (λ (l : List Unsynced). l ++ second.ended) first.history ∙ append_assoc (past old) first.ended second.ended;
    each = All-append (EachImage P) first.ended second.ended first.each second.each;
    now = second.now;
  }

  -- less is said
  pub weaker : (old new : F) (P Q : List ℕ → Type 0) → ((c : List ℕ) → P c → Q c) → LeavesOnly past unsynced old new P → LeavesOnly past unsynced old new Q
  weaker old new P Q less run = record {
    ended = run.ended;
    history = run.history;
    each = λ k d below image is. less image (run.each k d below image is);
    now = λ image is. less image (run.now image is);
  }
