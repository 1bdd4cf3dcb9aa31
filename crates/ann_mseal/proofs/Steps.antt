-- What is appended to a draft, step by step.
use Rattle.std.proofs.Common.{◌≡◌, ℕ, ◌+◌, ◌*◌, ◌/◌, ◌≤◌, ◌<◌, List, [], ◌∷◌, ◌++◌, sym, ap, ◌∙◌, arith, length, get_or, take, drop, ◌-◌, append_assoc, append-nil}
use Rattle.std.specs.List.{concat, slice_range}
use Rattle.std.proofs.Math.Seq.{take-add}
use Rattle.std.proofs.lemmas.List.{length-append, length-drop, length-take, take-append-drop, take_more}
use Rattle.std.proofs.lemmas.List.Folds.{concat-append}
use Rattle.ann_vault.specs.Held.{Holding}
use Rattle.ann_segment.specs.Writer.{KeepsRest, WriterView}
use Rattle.ann_mseal.specs.Written.{HasAppended, HasRows, IsSameSegment}

module _ {V D : Type 0} (is_current : V → D → Type 0) (number_of : D → ℕ) (bytes_of : D → List ℕ) where
  -- bytes behind others
  pub appended_then : (xs ys zs : List ℕ) (before after : V) (old now new : D) → zs ≡ xs ++ ys → HasAppended is_current number_of bytes_of xs before old now → HasAppended is_current number_of bytes_of ys after now new → HasAppended is_current number_of bytes_of zs after old new
  appended_then xs ys zs before after old now new all first second = record {
    number = second.number ∙ first.number;
    blocks = second.blocks ∙ ap (λ (t : List ℕ). t ++ ys) first.blocks ∙ append_assoc (bytes_of old) xs ys ∙ ap (λ (t : List ℕ). bytes_of old ++ t) (sym all);
    current = second.current;
  }

module _ {V D : Type 0} (is_current : V → D → Type 0) (number_of : D → ℕ) (held : V → Holding) where
  pub rest_then : (number also : ℕ) (old now new : V) → also ≡ number → KeepsRest is_current number_of held number old now → KeepsRest is_current number_of held also now new → KeepsRest is_current number_of held number old new
  rest_then number also old now new same first second = record {
    same = second.same ∙ first.same;
    others = λ draft other current. second.others draft (λ e. other (e ∙ same)) (first.others draft other current);
  }

module _ {D : Type 0} where
  pub same_then : (old now new : WriterView D) → IsSameSegment old now → IsSameSegment now new → IsSameSegment old new
  same_then old now new first second = record { header = second.header ∙ first.header; items = second.items ∙ first.items }

  pub rows_then : (xs ys zs : List ℕ) (old now new : WriterView D) → zs ≡ xs ++ ys → HasRows xs old now → HasRows ys now new → HasRows zs old new
  rows_then xs ys zs old now new all first second =
      let size = ap length all ∙ length-append xs ys in
      omega arith

-- ---- bytes so far

-- one block more
pub block_more : (i : ℕ) (blocks : List ℕ) → take (4096 * (i + 1)) blocks ≡ take (4096 * i) blocks ++ slice_range blocks (4096 * i) (4096 * i + 4096)
block_more i blocks =
    ap (λ (n : ℕ). take n blocks) (let e : 4096 * (i + 1) ≡ 4096 * i + 4096 = omega arith in e)
    ∙ take-add (4096 * i) 4096 blocks
    ∙ ap (λ (n : ℕ). take (4096 * i) blocks ++ take n (drop (4096 * i) blocks)) (let e : 4096 ≡ (4096 * i + 4096) - 4096 * i = omega arith in e)

-- one piece more
pub piece_more : (i : ℕ) (pieces : List (List ℕ)) (piece d : List ℕ) → i < length pieces → piece ≡ get_or pieces i d → concat (take (i + 1) pieces) ≡ concat (take i pieces) ++ piece
piece_more i pieces piece d below is =
    ap concat (take_more pieces i d below)
    ∙ concat-append (take i pieces) (get_or pieces i d ∷ [])
    ∙ ap (λ (t : List ℕ). concat (take i pieces) ++ t) (append-nil (get_or pieces i d) ∙ sym is)

-- the pieces so far are no longer than all of them
pub part_long : (i : ℕ) (pieces : List (List ℕ)) → length (concat (take i pieces)) ≤ length (concat pieces)
part_long i pieces =
    let all = ap length (sym (concat-append (take i pieces) (drop i pieces)) ∙ ap concat (take-append-drop i pieces)) in
    let both = length-append (concat (take i pieces)) (concat (drop i pieces)) in
    omega arith

-- a whole block
pub block_long : (i : ℕ) (blocks : List ℕ) → i < length blocks / 4096 → length (slice_range blocks (4096 * i) (4096 * i + 4096)) ≡ 4096
block_long i blocks below =
    let size = length-take ((4096 * i + 4096) - 4096 * i) (drop (4096 * i) blocks) in
    let rest = length-drop (4096 * i) blocks in
    omega arith
