-- How making a log begins: the files are read, and nothing is done to them.
use Rattle.std.proofs.Common.{◌≡◌, inl, refl, ℕ, List, subst}
use Rattle.ann_disk.specs.Image.{Unsynced, IsImage}
use Rattle.ann_log.specs.Making.{HoldsNothing, IsNothingOr, IsUnmadeBy}
use Rattle.ann_log.specs.Pairs.{EachPair, LeavePairs, AreUntouched}
use Rattle.ann_log.specs.Text.{Held, IsNoIndex}
use Rattle.ann_log.specs.declared.files.Files.{Files}
use Rattle.ann_log.specs.declared.refused.MakeWhy.{MakeWhy}
use Rattle.ann_log.specs.declared.refused.MakeWhy.TheVariants.{IndexThere, Disk, Memory}
use Rattle.ann_log.proofs.Nothing.{left_before}
use Rattle.ann_log.proofs.Pairs.{idle, at_once, joined_pairs, still}

module _ {F : Type 0} (past : F → List Unsynced) (unsynced : F → Unsynced) (seen : F → List ℕ) (old mid : Files F) (same : AreUntouched seen unsynced past old mid) (held : Held) (nothing : EachPair unsynced HoldsNothing old) where
  abbrev P : List ℕ → List ℕ → Type 0
  P = IsNothingOr (unsynced old.first) (unsynced old.second) held

  -- while they are read
  pub while_read : LeavePairs past unsynced old mid P
  while_read =
      still past unsynced seen old mid P same old
      (at_once past unsynced old old (IsImage (unsynced old.first)) (IsImage (unsynced old.second)) P
      (λ a b one two. left_before (unsynced old.first) (unsynced old.second) held a b one two (nothing a one b two))
      (idle past unsynced old.first (IsImage (unsynced old.first)) (λ image is. is))
      (idle past unsynced old.second (IsImage (unsynced old.second)) (λ image is. is)))

  nothing_then : EachPair unsynced HoldsNothing mid
  nothing_then a one b two = nothing a (subst (λ u. IsImage u a) same.0.leaves one) b (subst (λ u. IsImage u b) same.1.leaves two)

  -- and behind that
  pub after_read : (new : Files F) (other : Held) → other ≡ held → (EachPair unsynced HoldsNothing mid → LeavePairs past unsynced mid new (IsNothingOr (unsynced mid.first) (unsynced mid.second) other)) → LeavePairs past unsynced old new P
  after_read new other is run =
      joined_pairs past unsynced old mid new P while_read
      (subst (λ h. LeavePairs past unsynced mid new (IsNothingOr (unsynced old.first) (unsynced old.second) h)) is
      (subst (λ u. LeavePairs past unsynced mid new (IsNothingOr u (unsynced old.second) other)) same.0.leaves
      (subst (λ v. LeavePairs past unsynced mid new (IsNothingOr (unsynced mid.first) v other)) same.1.leaves (run nothing_then))))

-- what a refusal leaves that comes while they are read
pub unmade_read : {F : Type 0} (seen : F → List ℕ) (unsynced : F → Unsynced) (past : F → List Unsynced) (old new : Files F) (held : Held) (why : MakeWhy) → AreUntouched seen unsynced past old new → (why ≡ IndexThere → IsNoIndex (seen old.first) (seen old.second) → ⊥) → IsUnmadeBy seen unsynced past held old new why
unmade_read seen unsynced past old new held IndexThere same there = (there refl, same)
unmade_read seen unsynced past old new held Disk same there = inl same
unmade_read seen unsynced past old new held Memory same there = same
