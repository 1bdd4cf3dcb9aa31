-- Merged rows are added one after the other.
use Rattle.std.proofs.Common.{◌≡◌, ℕ, zero, suc, ◌+◌, ◌-◌, ◌≤◌, ◌<◌, List, [], ◌∷◌, ◌++◌, refl, sym, ap, subst, ◌∙◌, arith, length, get_or, take, drop, inl, inr, append_assoc, append-nil}
use Rattle.std.specs.Prelude.{IfErr, OnOk, Result, Ok, Err}
use Rattle.std.proofs.lemmas.Result.{IfErr-weaker, on_ok_weaker}
use Rattle.std.specs.List.{AllByRecursion, concat}
use Rattle.std.specs.Result.{IsErrAnd}
use Rattle.std.proofs.Math.Seq.{take-add}
use Rattle.std.proofs.lemmas.Bool.{cases_lt}
use Rattle.std.proofs.lemmas.List.{drop-drop, drop_all, drop_more, get_or_append_left, get_or-append_right, get_or-drop, get_or-take, length-append, length-drop, length-take}
use Rattle.std.proofs.lemmas.List.Elements.{All-from_get_or, recursion_from_All}
use Rattle.std.proofs.lemmas.List.Folds.{concat-append}
use Rattle.ann_types.proofs.Sets.{all_append}
use Rattle.ann_fault.specs.Counts.{next_count}
use Rattle.ann_vault.specs.Reads.{more_reads}
use Rattle.ann_mdelete.specs.declared.refused.WorkRefused.{WorkRefused}
use Rattle.ann_mdelete.specs.declared.refused.WorkRefused.TheVariants.{Disk, BadSegment, Memory}
use Rattle.ann_mpatch.specs.Source.{Source, IsSound, IsBlock}
use Rattle.ann_mpatch.specs.Plan.{merged_list, new_at, source_for, survivor_at, survivors_in}
use Rattle.ann_mpatch.specs.Patched.{Standing, IsBlockOf, IsOldBlock, HasPatched, HasAdded, IsRefusedFor, IsPatched, block_of}
use Rattle.ann_mpatch.specs.declared.plan.PatchPlan.{PatchPlan}

-- ---- counts

reads_more : (n m count : ℕ) → more_reads n (more_reads m count) ≡ more_reads (m + n) count
reads_more zero m count = ap (λ (k : ℕ). more_reads k count) (let e : m ≡ m + 0 = omega arith in e)
reads_more (suc n) m count = ap next_count (reads_more n m count) ∙ ap (λ (k : ℕ). more_reads k count) (let e : suc (m + n) ≡ m + suc n = omega arith in e)

-- ---- which rows are read

take_none : (n : ℕ) → take {A = ℕ} n [] ≡ []
take_none zero = refl
take_none (suc n) = refl

take_some : (n first : ℕ) (xs : List ℕ) → length xs ≤ first → take n (drop first xs) ≡ []
take_some n first xs past = ap (take n) (drop_all first xs past) ∙ take_none n

take_one : (row : ℕ) (xs : List ℕ) → row < length xs → take 1 (drop row xs) ≡ get_or xs row 0 ∷ []
take_one row xs below = ap (take 1) (drop_more xs row 0 below)

take_both : (first i n : ℕ) (xs : List ℕ) → take (i + n) (drop first xs) ≡ take i (drop first xs) ++ take n (drop (first + i) xs)
take_both first i n xs = take-add i n (drop first xs) ∙ ap (λ (t : List ℕ). take i (drop first xs) ++ take n t) (drop-drop i first xs)

module _ {S : Type 0} (tells : Type 0) (bytes : S → List ℕ) (plan : PatchPlan S) where
  abbrev survivors : List ℕ
  survivors = plan.survivors.items

  abbrev source : Source
  source = source_for bytes plan

  -- ---- one row

  pub patched_old : (row : ℕ) (old new : Standing) → row < length plan.survivors.items → HasAdded tells (source_for bytes plan) plan.params (survivor_at plan row) (merged_list plan row) old new → HasPatched tells bytes plan row 1 old new
  patched_old row old new below a = record {
    blocks = a.block ∷ [];
    count = refl;
    each = λ i l.
        let none : i ≡ 0 = omega arith in
        subst (λ (n : ℕ). IsBlockOf tells bytes plan (row + n) (get_or (a.block ∷ []) n [])) (sym none)
        (subst (λ (n : ℕ). IsBlockOf tells bytes plan n a.block) (let same : row ≡ row + 0 = omega arith in same)
        (record { old = λ _. a.is; new = λ past. absurd (omega arith) }));
    added = a.added ∙ ap (λ (t : List ℕ). old.blocks ++ t) (sym (append-nil a.block));
    long = let long = a.long in omega arith;
    reads = a.reads ∙ ap (λ (t : List ℕ). more_reads (length t) old.reads) (sym (take_one row survivors below));
    calm = a.calm;
  }

  pub patched_new : (row : ℕ) (old new : Standing) → length plan.survivors.items ≤ row → new.blocks ≡ old.blocks ++ block_of (new_at plan row) (merged_list plan row) → length new.blocks ≡ length old.blocks + 4096 → new.reads ≡ old.reads → new.faults ≡ old.faults → HasPatched tells bytes plan row 1 old new
  patched_new row old new past added long reads calm =
      let block : List ℕ = block_of (new_at plan row) (merged_list plan row) in
      record {
        blocks = block ∷ [];
        count = refl;
        each = λ i l.
            let none : i ≡ 0 = omega arith in
            subst (λ (n : ℕ). IsBlockOf tells bytes plan (row + n) (get_or (block ∷ []) n [])) (sym none)
            (subst (λ (n : ℕ). IsBlockOf tells bytes plan n block) (let same : row ≡ row + 0 = omega arith in same)
            (record { old = λ below. absurd (omega arith); new = λ _. refl }));
        added = added ∙ ap (λ (t : List ℕ). old.blocks ++ t) (sym (append-nil block));
        long = omega arith;
        reads = reads ∙ ap (λ (t : List ℕ). more_reads (length t) old.reads) (sym (take_some 1 row survivors past));
        calm = calm;
      }

  -- ---- more rows

  pub patched_none : (first : ℕ) (now : Standing) → HasPatched tells bytes plan first 0 now now
  patched_none first now = record {
    blocks = [];
    count = refl;
    each = λ i l. absurd (omega arith);
    added = sym (append-nil now.blocks);
    long = omega arith;
    reads = refl;
    calm = refl;
  }

  pub patched_then : (first i : ℕ) (old now new : Standing) → HasPatched tells bytes plan first i old now → HasPatched tells bytes plan (first + i) 1 now new → HasPatched tells bytes plan first (i + 1) old new
  patched_then first i old now new a b = record {
    blocks = a.blocks ++ b.blocks;
    count = length-append a.blocks b.blocks ∙ (let m = a.count in let n = b.count in omega arith);
    each = λ k l. elim (cases_lt k i) [
      | inl before ↦
          subst (λ (t : List ℕ). IsBlockOf tells bytes plan (first + k) t)
          (sym (get_or_append_left a.blocks b.blocks [] k (let m = a.count in omega arith)))
          (a.each k before)
      | inr here ↦ (
          let none : k - i ≡ 0 = omega arith in
          let same : first + i + 0 ≡ first + k = omega arith in
          subst (λ (t : List ℕ). IsBlockOf tells bytes plan (first + k) t)
          (sym (get_or-append_right a.blocks b.blocks i k [] a.count here ∙ ap (λ (n : ℕ). get_or b.blocks n []) none))
          (subst (λ (n : ℕ). IsBlockOf tells bytes plan n (get_or b.blocks 0 [])) same (b.each 0 (omega arith))))
    ];
    added =
        b.added
        ∙ ap (λ (t : List ℕ). t ++ concat b.blocks) a.added
        ∙ append_assoc old.blocks (concat a.blocks) (concat b.blocks)
        ∙ ap (λ (t : List ℕ). old.blocks ++ t) (sym (concat-append a.blocks b.blocks));
    long = let one = a.long in let two = b.long in omega arith;
    reads =
        b.reads
        ∙ ap (more_reads (length (survivors_in plan (first + i) 1))) a.reads
        ∙ reads_more (length (survivors_in plan (first + i) 1)) (length (survivors_in plan first i)) old.reads
        ∙ ap (λ (n : ℕ). more_reads n old.reads) (sym (ap length (take_both first i 1 survivors) ∙ length-append (survivors_in plan first i) (survivors_in plan (first + i) 1)));
    calm = b.calm ∙ a.calm;
  }

  -- told, the blocks of the survivors that were read are in the format
  patched_sound : (first i : ℕ) (old new : Standing) → HasPatched tells bytes plan first i old new → tells → AllByRecursion (IsSound source plan.params) (survivors_in plan first i)
  patched_sound first i old new a told =
      recursion_from_All (IsSound source plan.params) (survivors_in plan first i)
      (All-from_get_or (IsSound source plan.params) (survivors_in plan first i) 0 (λ k l.
      let size = length-take i (drop first survivors) in
      let rest = length-drop first survivors in
      let read : IsOldBlock tells source plan.params (survivor_at plan (first + k)) (merged_list plan (first + k)) (get_or a.blocks k []) = (a.each k (omega arith)).old (omega arith) in
      let at : get_or (survivors_in plan first i) k 0 ≡ survivor_at plan (first + k) = get_or-take i (drop first survivors) k 0 (omega arith) ∙ get_or-drop first survivors k 0 in
      subst (IsSound source plan.params) (sym at)
      (subst (IsBlock source plan.params (survivor_at plan (first + k))) (read.read.told told) read.read.block)))

  -- ---- refusals

  -- behind rows that were read, and before others
  refused_behind : (front part rest rows : List ℕ) (old now new : Standing) (why : WorkRefused) → rows ≡ front ++ (part ++ rest) → (tells → AllByRecursion (IsSound source plan.params) front) → now.reads ≡ more_reads (length front) old.reads → now.faults ≡ old.faults → IsRefusedFor tells source plan.params part now new why → IsRefusedFor tells source plan.params rows old new why
  refused_behind front part rest rows old now new Disk are sound reads calm r = record {
    before = front ++ r.before;
    row = r.row;
    after = r.after ++ rest;
    rows_are = are ∙ ap (λ (t : List ℕ). front ++ (t ++ rest)) r.rows_are ∙ ap (λ (t : List ℕ). front ++ t) (append_assoc r.before (r.row ∷ r.after) rest) ∙ sym (append_assoc front r.before (r.row ∷ r.after ++ rest));
    sound = λ told. all_append (IsSound source plan.params) front r.before (sound told) (r.sound told);
    reads = r.reads ∙ ap (more_reads (length r.before)) reads ∙ reads_more (length r.before) (length front) old.reads ∙ ap (λ (n : ℕ). more_reads n old.reads) (sym (length-append front r.before));
    faulty = r.faulty ∙ ap next_count calm;
  }
  refused_behind front part rest rows old now new (BadSegment block) are sound reads calm r = record {
    before = front ++ r.before;
    row = r.row;
    after = r.after ++ rest;
    rows_are = are ∙ ap (λ (t : List ℕ). front ++ (t ++ rest)) r.rows_are ∙ ap (λ (t : List ℕ). front ++ t) (append_assoc r.before (r.row ∷ r.after) rest) ∙ sym (append_assoc front r.before (r.row ∷ r.after ++ rest));
    place = r.place;
    bad = r.bad;
    sound = λ told. all_append (IsSound source plan.params) front r.before (sound told) (r.sound told);
    reads = r.reads ∙ ap (λ (n : ℕ). next_count (more_reads (length r.before) n)) reads ∙ ap next_count (reads_more (length r.before) (length front) old.reads ∙ ap (λ (n : ℕ). more_reads n old.reads) (sym (length-append front r.before)));
    calm = r.calm ∙ calm;
  }
  refused_behind front part rest rows old now new Memory are sound reads calm r = record {
    before = front ++ r.before;
    after = r.after ++ rest;
    rows_are = are ∙ ap (λ (t : List ℕ). front ++ (t ++ rest)) r.rows_are ∙ ap (λ (t : List ℕ). front ++ t) (append_assoc r.before r.after rest) ∙ sym (append_assoc front r.before (r.after ++ rest));
    sound = λ told. all_append (IsSound source plan.params) front r.before (sound told) (r.sound told);
    reads = r.reads ∙ ap (more_reads (length r.before)) reads ∙ reads_more (length r.before) (length front) old.reads ∙ ap (λ (n : ℕ). more_reads n old.reads) (sym (length-append front r.before));
    calm = r.calm ∙ calm;
  }

  -- at a row of a piece
  pub refused_then : (first i size : ℕ) (old now new : Standing) (why : WorkRefused) → i < size → HasPatched tells bytes plan first i old now → IsRefusedFor tells (source_for bytes plan) plan.params (survivors_in plan (first + i) 1) now new why → IsRefusedFor tells (source_for bytes plan) plan.params (survivors_in plan first size) old new why
  refused_then first i size old now new why within a r =
      refused_behind (survivors_in plan first i) (survivors_in plan (first + i) 1) (survivors_in plan (first + i + 1) (size - i - 1)) (survivors_in plan first size) old now new why
      ((let all : size ≡ i + (1 + (size - i - 1)) = omega arith in ap (λ (n : ℕ). take n (drop first survivors)) all)
      ∙ take_both first i (1 + (size - i - 1)) survivors
      ∙ ap (λ (t : List ℕ). survivors_in plan first i ++ t) (take_both (first + i) 1 (size - i - 1) survivors))
      (patched_sound first i old now a) a.reads a.calm r

  -- before anything was read
  pub stopped_at_once : (rows : List ℕ) (old new : Standing) → new.reads ≡ old.reads → new.faults ≡ old.faults → IsRefusedFor tells (source_for bytes plan) plan.params rows old new Memory
  stopped_at_once rows old new reads calm = record { before = []; after = rows; rows_are = refl; sound = λ told. tt; reads = reads; calm = calm }

  -- a refusal that is handed on
  pub patched_as : {T : Type 0} (first size : ℕ) (old new : Standing) (result : Result T WorkRefused) (why : WorkRefused) → IsErrAnd result (λ e. e ≡ why) → IsRefusedFor tells (source_for bytes plan) plan.params (survivors_in plan first size) old new why → IsPatched tells bytes plan first size old new result
  patched_as first size old new (Ok x) why is r = absurd is
  patched_as first size old new (Err e) why is r = record { patched = tt; refused = subst (IsRefusedFor tells (source_for bytes plan) plan.params (survivors_in plan first size) old new) (sym is) r }

  -- a survivor, whose row, source and list are known by other names
  pub patched_survivor : {T : Type 0} (row old_row : ℕ) (from : Source) (list : List ℕ) (old new : Standing) (result : Result T WorkRefused) → row < length plan.survivors.items → from ≡ source_for bytes plan → old_row ≡ survivor_at plan row → list ≡ merged_list plan row → OnOk result (HasAdded tells from plan.params old_row list old new) → IfErr result (IsRefusedFor tells from plan.params (old_row ∷ []) old new) → IsPatched tells bytes plan row 1 old new result
  patched_survivor row old_row from list old new result below first second third added refused = record {
    patched = on_ok_weaker result (λ a. patched_old row old new below
        (subst (λ (s : Source). HasAdded tells s plan.params (survivor_at plan row) (merged_list plan row) old new) first
        (subst (λ (r : ℕ). HasAdded tells from plan.params r (merged_list plan row) old new) second
        (subst (λ (t : List ℕ). HasAdded tells from plan.params old_row t old new) third a)))) added;
    refused = IfErr-weaker result _ _ (λ why r.
        subst (λ (s : Source). IsRefusedFor tells s plan.params (survivors_in plan row 1) old new why) first
        (subst (λ (rows : List ℕ). IsRefusedFor tells from plan.params rows old new why) (ap (λ (r : ℕ). r ∷ []) second ∙ sym (take_one row survivors below)) r)) refused;
  }

-- a refusal that is handed on
pub refused_as : {T E : Type 0} (P : E → Type 0) (result : Result T E) (why : E) → IsErrAnd result (λ e. e ≡ why) → P why → IfErr result P
refused_as P (Ok x) why is r = tt
refused_as P (Err e) why is r = subst P (sym is) r
