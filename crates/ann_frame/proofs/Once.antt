-- No bytes stand for two things.
use Rattle.std.proofs.Common.{◌≡◌, ◌≢◌, ◌⊎◌, inl, inr, ⊎_elim, ℕ, ◌≤◌, List, [], ◌∷◌, ◌++◌, length, get_or, take, drop, refl, sym, ap, subst, ◌∙◌, arith, append_assoc, length-append}
use Rattle.std.specs.List.{AllByRecursion}
use Rattle.std.proofs.lemmas.Bool.{cases_lt}
use Rattle.std.proofs.lemmas.List.{append-nil, take_at, drop_at}
use Rattle.ann_bytes.specs.LittleEndian.{number_of, field}
use Rattle.ann_bytes.proofs.Numbers.{number_of-bytes_of}
use Rattle.ann_types.specs.declared.entry.Entry.{Entry}
use Rattle.ann_entry.specs.EntryBytes.{entries_bytes}
use Rattle.ann_entry.proofs.Entries.{first_stands}
use Rattle.ann_entry.proofs.Fronts.{entries_front, one_list, length_entries}
use Rattle.ann_frame.specs.Frames.{AreEntries, IsFrame, AreFrames, frame_bytes, frames_bytes, entries_of}
use Rattle.ann_frame.specs.Text.{StandFor, NoEntry, size_of, IsBroken, IsBadAt}
use Rattle.ann_frame.specs.Found.{AreRefused}
use Rattle.ann_frame.specs.declared.frames_refused.FramesRefused.{FramesRefused}
use Rattle.ann_frame.specs.declared.frames_refused.FramesRefused.TheVariants.{Bad, Memory}
use Rattle.ann_frame.proofs.Steps.{none_short}

module _ (d : ℕ) where
  -- ---- entries

  -- where no entry stands behind the entries at a front, there are no more than these
  no_more : (xs ys : List Entry) (x y : List ℕ) → AreEntries d xs → AreEntries d ys → NoEntry d x → length xs ≤ length ys → entries_bytes xs ++ x ≡ entries_bytes ys ++ y → xs ≡ ys
  no_more xs ys x y xs_fit ys_fit none few same =
      let front = entries_front d xs ys x y xs_fit ys_fit few same in
      sym (append-nil xs) ∙ ap (λ t. xs ++ t) (sym (none_left front.0 front.1 front.2)) ∙ sym front.1
    where
      tail_fits : (zs ws : List Entry) → AreEntries d (zs ++ ws) → AreEntries d ws
      tail_fits [] ws fit = fit
      tail_fits (z ∷ zs) ws fit = tail_fits zs ws fit.1

      none_left : (more : List Entry) → ys ≡ xs ++ more → x ≡ entries_bytes more ++ y → more ≡ []
      none_left [] is begins = refl
      none_left (m ∷ more) is begins =
          let fits : AreEntries d (m ∷ more) = tail_fits xs (m ∷ more) (subst (λ t. AreEntries d t) is ys_fit) in
          absurd (none m (first_stands d x 0 m more y fits.0 begins))

  -- the entries that stand wholly at a front are one list
  pub one_front : (xs ys : List Entry) (x y : List ℕ) → AreEntries d xs → AreEntries d ys → NoEntry d x → NoEntry d y → entries_bytes xs ++ x ≡ entries_bytes ys ++ y → xs ≡ ys
  one_front xs ys x y xs_fit ys_fit x_none y_none same =
      ⊎_elim
      (λ few. no_more xs ys x y xs_fit ys_fit x_none (omega (arith, few)) same)
      (λ many. sym (no_more ys xs y x ys_fit xs_fit y_none many (sym same)))
      (cases_lt (length xs) (length ys))

  -- ---- a frame

  module _ (xs ys : List Entry) (x y : List ℕ) (xs_frame : IsFrame d xs) (ys_frame : IsFrame d ys) (same : frame_bytes xs ++ x ≡ frame_bytes ys ++ y) where
    sizes : length (entries_bytes xs) ≡ length (entries_bytes ys)
    sizes =
        sym (number_of-bytes_of 4 (length (entries_bytes xs)) (omega (arith, xs_frame.short)))
        ∙ ap (λ (t : List ℕ). number_of (take 4 t)) same
        ∙ number_of-bytes_of 4 (length (entries_bytes ys)) (omega (arith, ys_frame.short))

    behind : entries_bytes xs ++ x ≡ entries_bytes ys ++ y
    behind = ap (drop 4) same

    bodies : entries_bytes xs ≡ entries_bytes ys
    bodies =
        sym (take_at (entries_bytes xs) x (length (entries_bytes xs)) refl)
        ∙ ap (take (length (entries_bytes xs))) behind
        ∙ take_at (entries_bytes ys) y (length (entries_bytes xs)) (sym sizes)

    -- two frames whose bytes begin one list of bytes are one frame
    pub one_frame : xs ≡ ys
    one_frame = one_list d xs ys xs_frame.each ys_frame.each bodies

    pub one_behind : x ≡ y
    one_behind =
        sym (drop_at (entries_bytes xs) x (length (entries_bytes xs)) refl)
        ∙ ap (drop (length (entries_bytes xs))) behind
        ∙ drop_at (entries_bytes ys) y (length (entries_bytes xs)) (sym sizes)

  -- ---- frames

  -- no whole frame stands at the front with its gates
  abbrev pub NoFrame : List ℕ → Type 0
  NoFrame bytes = (entries : List Entry) (gate : ℕ) (rest : List ℕ) → IsFrame d entries → bytes ≡ 1 ∷ (frame_bytes entries ++ gate ∷ rest) → ⊥

  never_frame : (g : List Entry) (gs : List (List Entry)) (p q : ℕ) (x y : List ℕ) → IsFrame d g → NoFrame (p ∷ x) → p ∷ x ≡ frames_bytes (g ∷ gs) ++ q ∷ y → ⊥
  never_frame g [] p q x y fits none same = none g q y fits (same ∙ append_assoc (1 ∷ frame_bytes g) [] (q ∷ y))
  never_frame g (h ∷ hs) p q x y fits none same = none g 1 (frame_bytes h ++ frames_bytes hs ++ q ∷ y) fits (same ∙ append_assoc (1 ∷ frame_bytes g) (frames_bytes (h ∷ hs)) (q ∷ y))

  -- the whole frames at a front are one list, and so is what stands behind them
  pub one_text : (fs gs : List (List Entry)) (p q : ℕ) (x y : List ℕ) → AllByRecursion (IsFrame d) fs → AllByRecursion (IsFrame d) gs → NoFrame (p ∷ x) → NoFrame (q ∷ y) → frames_bytes fs ++ p ∷ x ≡ frames_bytes gs ++ q ∷ y → (fs ≡ gs) × (p ∷ x ≡ q ∷ y)
  one_text [] [] p q x y fs_fit gs_fit x_none y_none same = (refl, same)
  one_text [] (g ∷ gs) p q x y fs_fit gs_fit x_none y_none same = absurd (never_frame g gs p q x y gs_fit.0 x_none same)
  one_text (f ∷ fs) [] p q x y fs_fit gs_fit x_none y_none same = absurd (never_frame f fs q p y x fs_fit.0 y_none (sym same))
  one_text (f ∷ fs) (g ∷ gs) p q x y fs_fit gs_fit x_none y_none same =
      let whole : frame_bytes f ++ (frames_bytes fs ++ p ∷ x) ≡ frame_bytes g ++ (frames_bytes gs ++ q ∷ y) =
      sym (append_assoc (frame_bytes f) (frames_bytes fs) (p ∷ x)) ∙ ap (drop 1) same ∙ append_assoc (frame_bytes g) (frames_bytes gs) (q ∷ y) in
      let first = one_frame f g (frames_bytes fs ++ p ∷ x) (frames_bytes gs ++ q ∷ y) fs_fit.0 gs_fit.0 whole in
      let rest = one_text fs gs p q x y fs_fit.1 gs_fit.1 x_none y_none (one_behind f g (frames_bytes fs ++ p ∷ x) (frames_bytes gs ++ q ∷ y) fs_fit.0 gs_fit.0 whole) in
      (ap (λ t. t ∷ fs) first ∙ ap (λ t. g ∷ t) rest.0, rest.1)

  -- ---- what bytes stand for

  shut_none : (shown : ℕ) (rest : List ℕ) → shown ≢ 1 → NoFrame (shown ∷ rest)
  shut_none shown rest shut entries gate more fits same = shut (ap (λ (t : List ℕ). get_or t 0 0) same)

  module _ (tail : List ℕ) (n : ℕ) (broken : IsBroken d tail n) (entries : List Entry) (gate : ℕ) (rest : List ℕ) (fits : IsFrame d entries) (same : tail ≡ frame_bytes entries ++ gate ∷ rest) where
    the_size : size_of tail ≡ length (entries_bytes entries)
    the_size = ap (λ (t : List ℕ). number_of (take 4 t)) same ∙ number_of-bytes_of 4 (length (entries_bytes entries)) (omega (arith, fits.short))

    the_part : field tail 4 (size_of tail) ≡ entries_bytes entries
    the_part =
        ap (λ (k : ℕ). take k (drop 4 tail)) the_size
        ∙ ap (λ (t : List ℕ). take (length (entries_bytes entries)) (drop 4 t)) same
        ∙ take_at (entries_bytes entries) (gate ∷ rest) (length (entries_bytes entries)) refl

    cut : entries_bytes broken.entries ++ broken.rest ≡ entries_bytes entries ++ []
    cut = sym broken.begins ∙ the_part ∙ sym (append-nil (entries_bytes entries))

    the_entries : broken.entries ≡ entries
    the_entries = one_front broken.entries entries broken.rest [] broken.each fits.each broken.ends (none_short d [] (omega arith)) cut

    filled : length broken.rest ≡ 0
    filled =
        let whole = ap length cut in
        let left = length-append (entries_bytes broken.entries) broken.rest in
        let right = length-append (entries_bytes entries) [] in
        let bodies = ap (λ t. length (entries_bytes t)) the_entries in
        omega (arith, whole, left, right, bodies)

    -- a whole frame isn't broken
    not_broken : ⊥
    not_broken =
        let long = ap length same in
        let whole = length-append (entries_bytes entries) (gate ∷ rest) in
        let some = fits.some in
        let five = length_entries entries in
        ⊎_elim
        (λ short. absurd (omega (arith, long, whole, the_size, short)))
        (λ more. ⊎_elim
        (λ nothing. absurd (omega (arith, the_size, some, five, nothing)))
        (λ left. absurd (omega (arith, filled, left)))
        more)
        broken.why

  broken_none : (tail : List ℕ) (n : ℕ) → IsBroken d tail n → NoFrame (1 ∷ tail)
  broken_none tail n broken entries gate rest fits same = not_broken tail n broken entries gate rest fits (ap (drop 1) same)

  broken_once : (tail : List ℕ) (m n : ℕ) → IsBroken d tail m → IsBroken d tail n → m ≡ n
  broken_once tail m n a b =
      a.counted
      ∙ ap length (one_front a.entries b.entries a.rest b.rest a.each b.each a.ends b.ends (sym a.begins ∙ b.begins))
      ∙ sym b.counted

  -- two ends of whole frames
  module _ (bytes xfront yfront : List ℕ) (xs ys : List Entry) (xs_frames : AreFrames d xfront xs) (ys_frames : AreFrames d yfront ys) (p q : ℕ) (x y : List ℕ) (x_cut : bytes ≡ xfront ++ p ∷ x) (y_cut : bytes ≡ yfront ++ q ∷ y) (x_none : NoFrame (p ∷ x)) (y_none : NoFrame (q ∷ y)) where
    both : (xs_frames.frames ≡ ys_frames.frames) × (p ∷ x ≡ q ∷ y)
    both =
        one_text xs_frames.frames ys_frames.frames p q x y xs_frames.each ys_frames.each x_none y_none
        (ap (λ t. t ++ p ∷ x) (sym xs_frames.spelled) ∙ sym x_cut ∙ y_cut ∙ ap (λ t. t ++ q ∷ y) ys_frames.spelled)

    same_entries : xs ≡ ys
    same_entries = xs_frames.joined ∙ ap entries_of both.0 ∙ sym ys_frames.joined

    same_front : xfront ≡ yfront
    same_front = xs_frames.spelled ∙ ap frames_bytes both.0 ∙ sym ys_frames.spelled

    same_gate : p ≡ q
    same_gate = ap (λ (t : List ℕ). get_or t 0 0) both.1

    same_tail : x ≡ y
    same_tail = ap (drop 1) both.1

  module _ (bytes : List ℕ) where
    pub stand_once : (xs ys : List Entry) (m n : ℕ) → StandFor d bytes xs m → StandFor d bytes ys n → (xs ≡ ys) × (m ≡ n)
    stand_once xs ys m n a b =
        let a_none = shut_none a.shown a.rest a.shut in
        let b_none = shut_none b.shown b.rest b.shut in (
          same_entries bytes a.front b.front xs ys a.frames b.frames a.shown b.shown a.rest b.rest a.cut b.cut a_none b_none,
          a.place ∙ ap length (same_front bytes a.front b.front xs ys a.frames b.frames a.shown b.shown a.rest b.rest a.cut b.cut a_none b_none) ∙ sym b.place,
        )

    pub bad_once : (m n : ℕ) → IsBadAt d bytes m → IsBadAt d bytes n → m ≡ n
    bad_once m n a b =
        let a_none = broken_none a.tail a.within a.broken in
        let b_none = broken_none b.tail b.within b.broken in
        let entries = same_entries bytes a.front b.front a.entries b.entries a.frames b.frames 1 1 a.tail b.tail a.cut b.cut a_none b_none in
        let tails = same_tail bytes a.front b.front a.entries b.entries a.frames b.frames 1 1 a.tail b.tail a.cut b.cut a_none b_none in
        let within = broken_once b.tail a.within b.within (subst (λ t. IsBroken d t a.within) tails a.broken) b.broken in
        let counts = ap length entries in
        omega (arith, a.place, b.place, within, counts)

    pub stand_not_bad : (xs : List Entry) (m n : ℕ) → StandFor d bytes xs m → IsBadAt d bytes n → ⊥
    stand_not_bad xs m n a b =
        a.shut (same_gate bytes a.front b.front xs b.entries a.frames b.frames a.shown 1 a.rest b.tail a.cut b.cut (shut_none a.shown a.rest a.shut) (broken_none b.tail b.within b.broken))

    -- ---- a refusal

    pub refused_standing : (why : FramesRefused) (xs : List Entry) (m : ℕ) → AreRefused d bytes why → StandFor d bytes xs m → why ≡ Memory
    refused_standing (Bad entry) xs m refused stands = absurd (stand_not_bad xs m entry stands refused)
    refused_standing Memory xs m refused stands = refl

    pub refused_bad : (why : FramesRefused) (n : ℕ) → AreRefused d bytes why → IsBadAt d bytes n → (why ≡ Bad n) ⊎ (why ≡ Memory)
    refused_bad (Bad entry) n refused bad = inl (ap Bad (bad_once entry n refused bad))
    refused_bad Memory n refused bad = inr refl
