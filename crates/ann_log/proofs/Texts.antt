-- What a file holds that was written anew.
use Rattle.std.proofs.Common.{◌≡◌, inl, inr, ℕ, ◌+◌, ◌-◌, ◌*◌, ◌≤◌, Bool, if◌then◌else◌, List, [], ◌∷◌, ◌++◌, Some, None, length, take, drop, refl, sym, ap, ◌∙◌, arith, append_assoc, length-append}
use Rattle.std.specs.List.{concat}
use Rattle.std.proofs.lemmas.List.{append-nil, take_at, take_all, drop_all}
use Rattle.ann_types.specs.declared.entry.Entry.{Entry}
use Rattle.ann_types.specs.Codes.{Book}
use Rattle.ann_types.specs.declared.params.Params.{Params}
use Rattle.ann_bytes.specs.LittleEndian.{bytes_of}
use Rattle.ann_pq.specs.Codebook.{CodebookView}
use Rattle.ann_pq.specs.Format.{fault, codebook, IsCodebook}
use Rattle.ann_preamble.specs.Preamble.{Said, magic_two, preamble_of, book_place}
use Rattle.ann_preamble.specs.Written.{params_fields, base_fields, preamble_bytes, IsReadAgain}
use Rattle.ann_preamble.specs.declared.base.Base.{Base}
use Rattle.ann_preamble.proofs.Again.{not_same, length-book}
use Rattle.ann_log.specs.Anew.{HoldsTail, IsHead, opened, IsUnmadeOrWhole, IsFrontOrWhole, IsText, HoldsText, IsUnmadeOrText, IsFrontOrText, IsWritten, held_in}
use Rattle.ann_log.specs.LogView.{IsSaid}
use Rattle.ann_log.specs.Text.{said_in, first_gate}
use Rattle.ann_log.proofs.Sizes.{frames_few}
use Rattle.ann_log.proofs.Tails.{are_frames}
use Rattle.ann_disk.specs.Image.{Unsynced}

-- a codebook that was read is the one of its bytes
pub book_again : (p : Params) (book : CodebookView) → IsCodebook book → (book.d ≡ p.d) × (book.m ≡ p.m) → codebook p.d p.m book.bytes ≡ book
book_again p book is (d_same, m_same) =
    ap (λ (d : ℕ). codebook d p.m book.bytes) (sym d_same)
    ∙ ap (λ (m : ℕ). codebook book.d m book.bytes) (sym m_same)
    ∙ ap (λ (b : Book). record { d = book.d; m = book.m; bytes = book.bytes; book = b }) (sym is.centroids)

-- what was written over the whole of a buffer
pub over_all : (len n : ℕ) (items old out new : List ℕ) → len ≡ n → length items ≡ n → old ≡ items → length new ≡ n → out ≡ new ++ drop n old → take len (out ++ drop (length out) items) ≡ new
over_all len n items old out new len_is long same new_long is =
    let all : out ≡ new = is ∙ ap (λ (l : List ℕ). new ++ l) (drop_all n old (let old_long = ap length same in omega (arith, old_long, long))) ∙ append-nil new in
    let none : drop (length out) items ≡ [] = drop_all (length out) items (let out_long = ap length all in omega (arith, out_long, new_long, long)) in
    ap (λ (l : List ℕ). take len (out ++ l)) none
    ∙ ap (take len) (append-nil out ∙ all)
    ∙ take_all len new (omega (arith, len_is, new_long))

-- ---- a preamble and what is behind it

module _ (p : Params) (generation : ℕ) (base : Base) (book : List ℕ) where
  -- a preamble without its gate
  abbrev upto_gate : ℕ → List ℕ
  upto_gate made = concat ((made ∷ []) ∷ magic_two ∷ (params_fields p ++ (bytes_of 8 generation ∷ base_fields base))) ++ book

  with_gate : (made gate : ℕ) → preamble_bytes made p generation base book gate ≡ upto_gate made ++ gate ∷ []
  unfolding preamble_bytes
  with_gate made gate = refl

  pub preamble_long : (d m made gate : ℕ) → fault d m book ≡ None → length (preamble_bytes made p generation base book gate) ≡ 74 + 256 * d
  preamble_long d m made gate sound =
      let long = ap length (with_gate made gate) in
      omega (arith, long, length-append book (gate ∷ []), length-book d m book sound)

  -- a preamble written over a buffer of its size
  pub written_over : (len : ℕ) (items old out new lent : List ℕ) (d m : ℕ) → fault d m book ≡ None → length items ≡ 74 + 256 * d → old ≡ items → length old ≡ len → lent ≡ book → out ≡ preamble_bytes 0 p generation base lent 0 ++ drop (74 + 256 * d) old → new ≡ take len (out ++ drop (length out) items) → new ≡ preamble_bytes 0 p generation base book 0
  written_over len items old out new lent d m sound long same len_is lent_is is new_is =
      new_is
      ∙ over_all len (74 + 256 * d) items old out (preamble_bytes 0 p generation base book 0) (sym len_is ∙ ap length same ∙ long) long same (preamble_long d m 0 0 sound)
      (is ∙ ap (λ (b : List ℕ). preamble_bytes 0 p generation base b 0 ++ drop (74 + 256 * d) old) lent_is)

  -- with a closed made byte it is a head
  pub is_head : (head : List ℕ) → head ≡ preamble_bytes 0 p generation base book 0 → IsHead head
  is_head head is = (drop 1 (upto_gate 0), is ∙ with_gate 0 0)

  pub opened_front : (head : List ℕ) → head ≡ preamble_bytes 0 p generation base book 0 → take (length head - 1) (opened head) ≡ upto_gate 1
  opened_front head is =
      ap (λ (l : List ℕ). take (length l - 1) (opened l)) (is ∙ with_gate 0 0)
      ∙ take_at (upto_gate 1) (0 ∷ []) (length (upto_gate 0 ++ 0 ∷ []) - 1) (omega (arith, length-append book (0 ∷ [])))

  pub front_long : (head : List ℕ) → head ≡ preamble_bytes 0 p generation base book 0 → length head - 1 ≡ 61 + length book
  front_long head is = let long = ap length (is ∙ with_gate 0 0) in omega (arith, long, length-append book (0 ∷ []))

module _ (p : Params) (generation : ℕ) (base : Base) (book : CodebookView) (said : IsSaid (said_in p book base generation)) (some : 1 ≤ generation) (again : IsReadAgain p generation base book.bytes) (same : codebook p.d p.m book.bytes ≡ book) where
  abbrev s : Said
  s = said_in p book base generation

  abbrev front : List ℕ
  front = upto_gate p generation base book.bytes 1

  says_with : (gate : ℕ) (rest : List ℕ) → preamble_of ((front ++ gate ∷ []) ++ rest) ≡ Some s
  says_with gate rest =
      ap (λ (l : List ℕ). preamble_of (l ++ rest)) (sym (with_gate p generation base book.bytes 1 gate))
      ∙ again gate rest
      ∙ ap (λ (b : CodebookView). Some (record { fields = s.fields; book = b })) same

  says : (frames : List ℕ) → preamble_of (front ++ frames ++ 0 ∷ []) ≡ Some s
  says [] =
      ap preamble_of (ap (λ (l : List ℕ). l ++ 0 ∷ []) (append-nil front) ∙ sym (append-nil (front ++ 0 ∷ [])))
      ∙ says_with 0 []
  says (gate ∷ frames) =
      ap preamble_of (append_assoc front (gate ∷ frames) (0 ∷ []) ∙ sym (append_assoc front (gate ∷ []) (frames ++ 0 ∷ [])))
      ∙ says_with gate (frames ++ 0 ∷ [])

  place : length front ≡ first_gate s
  place =
      let later = not_same generation 0 (λ (none : generation ≡ 0). absurd (omega (arith, none, some))) in
      let at : book_place generation ≡ 61 = ap (λ (b : Bool). if b then 29 else 61) later in
      omega (arith, at, length-book p.d p.m book.bytes said.book)

  module _ (head : List ℕ) (is : head ≡ preamble_bytes 0 p generation base book.bytes 0) (tells : Type 0) (entries : List Entry) (gate : ℕ) (seen : List ℕ) (holds : HoldsTail tells p.d (length head - 1) (opened head) entries gate seen) where
    seen_is : tells → seen ≡ front ++ holds.frames ++ 0 ∷ []
    seen_is told = holds.file told ∙ ap (λ (l : List ℕ). l ++ holds.frames ++ 0 ∷ []) (opened_front p generation base book.bytes head is)

    text : tells → IsText s entries seen
    text told = record {
      head = front;
      front = holds.frames;
      shown = 0;
      spelled = seen_is told ∙ append_assoc front holds.frames (0 ∷ []);
      place = place;
      frames = are_frames holds.are;
      shut = λ (one : 0 ≡ 1). absurd (omega (arith, one));
      says = ap preamble_of (seen_is told) ∙ says holds.frames;
    }

    pub text_held : HoldsText tells s entries gate seen
    text_held = record {
      text = text;
      last = λ told.
          let long = ap length (seen_is told) in
          let head_long = front_long p generation base book.bytes head is in
          let at = holds.place in
          omega (arith, long, head_long, at, length-append (front ++ holds.frames) (0 ∷ []), length-append front holds.frames);
      end = holds.end;
      few = let some = frames_few p.d holds.frames entries (are_frames holds.are) in let at = holds.place in omega (arith, some, at);
    }

    -- its bytes
    gates : (frames : List ℕ) → (first : ℕ) × (rest : List ℕ) × (frames ++ 0 ∷ [] ≡ first ∷ rest)
    gates [] = (0, [], refl)
    gates (gate ∷ frames) = (gate, frames ++ 0 ∷ [], refl)

    pub is_written : tells → IsWritten (held_in p book base entries) generation seen
    is_written told =
        let end = gates holds.frames in
        record {
          frames = holds.frames;
          are = holds.are;
          first = end.0;
          rest = end.1;
          gates = end.2;
          spelled =
              seen_is told
              ∙ append_assoc front holds.frames (0 ∷ [])
              ∙ ap (λ (l : List ℕ). front ++ l) end.2
              ∙ sym (append_assoc front (end.0 ∷ []) end.1)
              ∙ ap (λ (l : List ℕ). l ++ end.1) (sym (with_gate p generation base book.bytes 1 end.0));
        }

  -- what a crash leaves
  pub whole_text : (head : List ℕ) → head ≡ preamble_bytes 0 p generation base book.bytes 0 → (entries : List Entry) (image : List ℕ) → IsUnmadeOrWhole p.d head entries image → IsUnmadeOrText s entries image
  whole_text head is entries image (inl unmade) = inl unmade
  whole_text head is entries image (inr (gate, holds)) = inr (text head is (Unit {0}) entries gate image holds tt)

  pub front_text : (head : List ℕ) → head ≡ preamble_bytes 0 p generation base book.bytes 0 → (entries : List Entry) (before : Unsynced) (image : List ℕ) → IsFrontOrWhole before p.d head entries image → IsFrontOrText before s entries image
  front_text head is entries before image (inl begins) = inl begins
  front_text head is entries before image (inr rest) = inr (whole_text head is entries image rest)
