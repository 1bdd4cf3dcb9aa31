-- What the writes of one file leave.
use Rattle.std.proofs.Common.{◌≡◌, ◌≢◌, inl, inr, ⊎_elim, ℕ, zero, suc, ◌+◌, ◌-◌, ◌≤◌, List, [], ◌∷◌, ◌++◌, length, get_or, take, drop, refl, sym, ◌∙◌, ap, subst, arith, append_assoc, length-append, length-drop, Bool}
use Rattle.std.proofs.lemmas.Bool.{cases_eq}
use Rattle.std.proofs.lemmas.List.{take_all, take_at, drop_at, drop_all, append-nil, take-append-le}
use Rattle.ann_disk.specs.Image.{Unsynced, EachImage, IsFree, after_write, clean, marked}
use Rattle.ann_disk.specs.File.{Torn, Cut, overwritten}
use Rattle.ann_preamble.specs.Preamble.{preamble_of}
use Rattle.ann_preamble.proofs.Agreed.{shut, fronts}
use Rattle.ann_bytes.specs.LittleEndian.{with_field}
use Rattle.ann_log.specs.Anew.{IsUnmade, StaysShut, IsHead, opened, IsUnmadeOr}

-- ---- no preamble

pub unmade_first : (bytes : List ℕ) → get_or bytes 0 0 ≢ 1 → IsUnmade bytes
unmade_first bytes isnt = shut bytes isnt

-- bytes of one byte or none
pub short_unmade : (bytes : List ℕ) → length bytes ≤ 1 → IsUnmade bytes
unfolding preamble_of
short_unmade [] short = refl
short_unmade (a ∷ []) short = refl
short_unmade (a ∷ b ∷ bytes) short = absurd (omega (arith, short))

pub torn_first : (image : List ℕ) → Torn 0 1 [] image → IsUnmade image
torn_first image torn = short_unmade image (omega (arith, torn.no_longer))

-- a cut to nothing keeps it
pub cut_unmade : (old new : List ℕ) → Cut 0 old new → IsUnmade old → IsUnmade new
cut_unmade old new cut unmade = ⊎_elim
    (λ none. ap preamble_of (sym cut.front) ∙ none)
    (λ same. ap preamble_of (sym cut.front) ∙ same ∙ unmade)
    (fronts old (length new))

-- ---- the made byte

pub shut_clean : (rest : List ℕ) → StaysShut (clean (0 ∷ rest))
shut_clean rest = record { there = omega arith; shut = refl; free = refl }

marked_behind : (at n : ℕ) (marks : List Bool) → 1 ≤ at → IsFree marks 0 → IsFree (marked at n marks) 0
marked_behind zero n marks some free = absurd (omega (arith, some))
marked_behind (suc at) n [] some free = absurd (cc)
marked_behind (suc at) n (mark ∷ marks) some free = free

pub shut_written : (at n : ℕ) (u : Unsynced) → 1 ≤ at → StaysShut u → StaysShut (after_write at n u)
shut_written at n u behind is = record { there = is.there; shut = is.shut; free = marked_behind at n u.covered behind is.free }

pub shut_by : (at n : ℕ) (u v : Unsynced) → v ≡ after_write at n u → 1 ≤ at → StaysShut u → StaysShut v
shut_by at n u v is behind before = subst StaysShut (sym is) (shut_written at n u behind before)

-- what may be left then has no preamble
pub shut_unmade : (u : Unsynced) → StaysShut u → EachImage IsUnmade u
shut_unmade u shuts [] is = short_unmade [] (omega arith)
shut_unmade u shuts (a ∷ image) is =
    let same = is.stays 0 (omega arith) shuts.there shuts.free in
    unmade_first (a ∷ image) (λ one. absurd (omega (arith, same, shuts.shut, one)))

-- opening it
pub torn_made : (old image : List ℕ) → 1 ≤ length old → Torn 0 1 old image → IsUnmadeOr (opened old) image
torn_made old [] there torn = absurd (omega (arith, torn.no_shorter, there))
torn_made old (a ∷ image) there torn = ⊎_elim
    (λ one. inr (ap (λ (n : ℕ). n ∷ image) one ∙ ap (λ (l : List ℕ). 1 ∷ l) torn.after))
    (λ isnt. inl (unmade_first (a ∷ image) isnt))
    (cases_eq a 1)

-- ---- bytes in a buffer

-- what was written at the front
pub at_front : (old new bytes : List ℕ) (n : ℕ) → new ≡ with_field old 0 bytes → n ≡ length bytes → take n new ≡ bytes
at_front old new bytes n is long = ap (take n) is ∙ take_at bytes (drop (0 + length bytes) old) n (sym long)

-- ---- a frame behind the last byte, which is a gate

module _ (gate : ℕ) (old frame : List ℕ) (ends : length old ≡ gate + 1) where
  behind : overwritten old (gate + 1) frame ≡ old ++ frame
  behind =
      ap (λ (l : List ℕ). l ++ frame ++ drop (gate + 1 + length frame) old) (take_all (gate + 1) old (omega (arith, ends)))
      ∙ ap (λ (l : List ℕ). old ++ frame ++ l) (drop_all (gate + 1 + length frame) old (omega (arith, ends)))
      ∙ append-nil (old ++ frame)

  at_gate : overwritten (old ++ frame) gate (1 ∷ []) ≡ take gate old ++ 1 ∷ frame
  at_gate =
      ap (λ (l : List ℕ). l ++ (1 ∷ []) ++ drop (gate + 1) (old ++ frame)) (take-append-le gate old frame (omega (arith, ends)))
      ∙ ap (λ (l : List ℕ). take gate old ++ (1 ∷ []) ++ l) (drop_at old frame (gate + 1) ends)
      ∙ append_assoc (take gate old) (1 ∷ []) frame

  -- the two writes of it
  pub frame_put : (mid new : List ℕ) → mid ≡ overwritten old (gate + 1) frame → new ≡ overwritten mid gate (1 ∷ []) → new ≡ take gate old ++ 1 ∷ frame
  frame_put mid new first second = second ∙ ap (λ (l : List ℕ). overwritten l gate (1 ∷ [])) (first ∙ behind) ∙ at_gate

-- ---- a head behind a made byte

pub first_shut : (n : ℕ) (u v : Unsynced) (old : List ℕ) → v ≡ after_write 1 n u → u ≡ clean old → old ≡ 0 ∷ [] → StaysShut v
first_shut n u v old is rest cleared =
    shut_by 1 n (clean (0 ∷ [])) v (is ∙ ap (after_write 1 n) (rest ∙ ap clean cleared)) (omega arith) (shut_clean [])

pub head_last : (head : List ℕ) → IsHead head → head ≡ take (length head - 1) head ++ 0 ∷ []
head_last head (fields, is) =
    is
    ∙ ap (λ (l : List ℕ). l ++ 0 ∷ []) (sym (take_at (0 ∷ fields) (0 ∷ []) (length head - 1) (let long = ap length is in omega (arith, long, length-append (0 ∷ fields) (0 ∷ []))))
    ∙ ap (take (length head - 1)) (sym is))

pub head_put : (head old mid : List ℕ) → IsHead head → old ≡ 0 ∷ [] → mid ≡ overwritten old 1 (take (length head - 1) (drop 1 head)) → mid ≡ head
head_put head old mid (fields, is) cleared put =
    let rest : take (length head - 1) (drop 1 head) ≡ fields ++ 0 ∷ [] = take_all (length head - 1) (drop 1 head) (omega (arith, length-drop 1 head)) ∙ ap (drop 1) is in
    put
    ∙ ap (λ (l : List ℕ). overwritten l 1 (take (length head - 1) (drop 1 head))) cleared
    ∙ ap (λ (l : List ℕ). overwritten (0 ∷ []) 1 l) rest
    ∙ ap (λ (l : List ℕ). 0 ∷ fields ++ 0 ∷ [] ++ l) (drop_all (1 + length (fields ++ 0 ∷ [])) (0 ∷ []) (omega arith))
    ∙ append-nil (0 ∷ fields ++ 0 ∷ [])
    ∙ sym is
