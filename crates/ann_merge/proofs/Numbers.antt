-- A number that is taken away, and those that stay.
use Rattle.std.proofs.Common.{◌≡◌, ℕ, cond, List, ◌⊎◌, inl, inr, refl, ap, ◌∙◌, eq-eqb}
use Rattle.std.specs.Prelude.{None, Some, Result, Ok, Err, OnErr}
use Rattle.std.specs.Cmp.{nat_cmp_total, unsigned_tied}
use Rattle.std.specs.FinMap.{get, insert, remove, get-insert, get-remove}
use Rattle.std.proofs.lemmas.Bool.{ne_eqb}
use Rattle.ann_vault.specs.Held.{Holding, MayBeRemoved}
use Rattle.ann_mdelete.specs.declared.refused.WorkRefused.{WorkRefused}
use Rattle.ann_mdelete.specs.declared.refused.WorkRefused.TheVariants.{Disk, BadSegment, Memory}
use Rattle.ann_mseal.specs.Ends.{LeavesSealed}
use Rattle.ann_merge.specs.Job.{KeepsNumbers}

pub removed : (held : Holding) (k : ℕ) → get (remove held k) k ≡ None
removed held k = get-remove nat_cmp_total held k k ∙ ap (λ b. cond b None (get held k)) (unsigned_tied k k ∙ eq-eqb k k refl)

pub others_stay : (held : Holding) (k : ℕ) → KeepsNumbers k held (remove held k)
others_stay held k other n = get-remove nat_cmp_total held k other ∙ ap (λ b. cond b None (get held other)) (unsigned_tied other k ∙ ne_eqb other k n)

pub others_may : (k : ℕ) (old new : Holding) → MayBeRemoved k old new → KeepsNumbers k old new
others_may k old new (inl is) other n = ap (λ h. get h other) is
others_may k old new (inr is) other n = ap (λ h. get h other) is ∙ others_stay old k other n

pub others_then : (k : ℕ) (first second third : Holding) → KeepsNumbers k first second → KeepsNumbers k second third → KeepsNumbers k first third
others_then k first second third f s other n = s other n ∙ f other n

-- what is so after each refusal
pub on_err : {T E : Type 0} (P : Type 0) (result : Result T E) → P → OnErr result P
on_err P (Ok x) p = tt
on_err P (Err e) p = p

-- what a removal that was refused leaves of it
pub left_may : (k : ℕ) (old new : Holding) → MayBeRemoved k old new → (get new k ≡ get old k) ⊎ (get new k ≡ None)
left_may k old new (inl is) = inl (ap (λ h. get h k) is)
left_may k old new (inr is) = inr (ap (λ h. get h k) is ∙ removed old k)

-- ---- a number that is sealed

pub inserted : (held : Holding) (k : ℕ) (text : List ℕ) → get (insert held k text) k ≡ Some text
inserted held k text = get-insert nat_cmp_total held k text k ∙ ap (λ b. cond b (Some text) (get held k)) (unsigned_tied k k ∙ eq-eqb k k refl)

pub others_inserted : (held : Holding) (k : ℕ) (text : List ℕ) → KeepsNumbers k held (insert held k text)
others_inserted held k text other n = get-insert nat_cmp_total held k text other ∙ ap (λ b. cond b (Some text) (get held other)) (unsigned_tied other k ∙ ne_eqb other k n)

pub others_left : (is_text : List ℕ → Type 0) (k : ℕ) (old new : Holding) (why : WorkRefused) → LeavesSealed is_text k old new why → KeepsNumbers k old new
others_left is_text k old new Disk (inl is) other n = ap (λ h. get h other) is
others_left is_text k old new Disk (inr (text, _, is)) other n = ap (λ h. get h other) is ∙ others_inserted old k text other n
others_left is_text k old new (BadSegment block) is other n = ap (λ h. get h other) is
others_left is_text k old new Memory is other n = ap (λ h. get h other) is
