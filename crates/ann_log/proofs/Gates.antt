-- The two writes of a frame.
use Rattle.std.proofs.Common.{◌≡◌, inl, inr, ℕ, ◌+◌, List, [], ◌∷◌, ◌++◌, length, get_or, take, drop, sym, ◌∙◌, ap, arith, append_assoc, length-append, take-append-drop}
use Rattle.std.proofs.lemmas.List.{take_all, drop_at, drop_all, drop_more, append-nil, take-append-le}
use Rattle.ann_disk.specs.File.{Torn, overwritten}
use Rattle.ann_log.specs.Appended.{MayHold}

module _ (gate : ℕ) (old frame : List ℕ) (ends : gate + 1 ≡ length old) where
  -- the first write stands behind the old bytes
  pub behind : overwritten old (gate + 1) frame ≡ old ++ frame
  behind =
      ap (λ (l : List ℕ). l ++ frame ++ drop (gate + 1 + length frame) old) (take_all (gate + 1) old (omega (arith, ends)))
      ∙ ap (λ (l : List ℕ). old ++ frame ++ l) (drop_all (gate + 1 + length frame) old (omega (arith, ends)))
      ∙ append-nil (old ++ frame)

  pub torn_behind : (n : ℕ) (image : List ℕ) → Torn (gate + 1) n old image → MayHold gate old frame image
  torn_behind n image torn = inl (
    drop (gate + 1) image,
    sym (take-append-drop (gate + 1) image) ∙ ap (λ (l : List ℕ). l ++ drop (gate + 1) image) (torn.before ∙ take_all (gate + 1) old (omega (arith, ends))),
  )

  front : take gate (old ++ frame) ≡ take gate old
  front = take-append-le gate old frame (omega (arith, ends))

  pub opened : overwritten (old ++ frame) gate (1 ∷ []) ≡ take gate old ++ 1 ∷ frame
  opened =
      ap (λ (l : List ℕ). l ++ (1 ∷ []) ++ drop (gate + 1) (old ++ frame)) front
      ∙ ap (λ (l : List ℕ). take gate old ++ (1 ∷ []) ++ l) (drop_at old frame (gate + 1) (sym ends))
      ∙ append_assoc (take gate old) (1 ∷ []) frame

  pub torn_gate : (image : List ℕ) → Torn gate 1 (old ++ frame) image → MayHold gate old frame image
  torn_gate image torn =
      let shown = get_or image gate 0 in
      let rest : drop gate image ≡ shown ∷ frame =
      drop_more image gate 0 (omega (arith, torn.no_shorter, length-append old frame, ends))
      ∙ ap (λ (l : List ℕ). shown ∷ l) (torn.after ∙ drop_at old frame (gate + 1) (sym ends)) in
      inr (
        shown,
        sym (take-append-drop gate image) ∙ ap (λ (l : List ℕ). l ++ drop gate image) (torn.before ∙ front) ∙ ap (λ (l : List ℕ). take gate old ++ l) rest,
      )
