-- An empty index in two files is a sound place, whatever a vault holds.
use Rattle.std.proofs.Common.{◌≡◌, ℕ, ◌+◌, List, [], ◌∷◌, ◌++◌, Option, refl, ap, arith, length}
use Rattle.std.specs.Prelude.{Result, Ok, Err, OnOk}
use Rattle.std.proofs.lemmas.List.{length-append}
use Rattle.ann_types.specs.Graph.{empty_graph}
use Rattle.ann_types.specs.Lists.{BasedList, empty_list}
use Rattle.ann_types.specs.declared.params.Params.{Params}
use Rattle.ann_types.specs.declared.entry.Entry.TheVariants.{Begin, End}
use Rattle.ann_laws.specs.Replays.{LastMerge}
use Rattle.ann_disk.specs.declared.file.LogFile.{Ghosts}
use Rattle.ann_preamble.specs.Preamble.{no_base}
use Rattle.ann_log.specs.Making.{base_alone}
use Rattle.ann_log.specs.declared.files.Files.{Files}
use Rattle.ann_vault.specs.Held.{Holding}
use Rattle.ann_once.proofs.Sessions.{session_base}
use Rattle.ann_recover.specs.Places.{IsKeptList, StandKept, IsSoundPlace}
use Rattle.ann_init.specs.Ends.{HasMade, IsMadeOf}
use Rattle.ann_commands.specs.Status.{IsSoundlyMade}

-- a list without entries has no merge
no_merge : (h : BasedList) → h.entries ≡ [] → LastMerge h → ⊥
no_merge h none m =
    let size = length-append (m.before ++ Begin m.merge.begin_by ∷ m.inside) (End m.merge.end_by m.segment ∷ m.behind) in
    let same = ap length m.merge.entries in
    let empty = ap length none in
    absurd (omega (arith, size, same, empty))

-- the empty list names no segment, so every vault holds what it names
kept_empty : (held : Holding) (p : Params) (bytes : List ℕ) → IsKeptList held (base_alone p bytes no_base)
kept_empty held p bytes = record {
  graph = empty_graph;
  legal = record { base = session_base p empty_list refl; entries = refl };
  kept = record { base = λ some. absurd (some refl); merged = λ m. absurd (no_merge _ refl m) };
}

made_sound : {F : Type 0} (D : Ghosts F) (p : Params) (bytes : List ℕ) (old new : Files F) → IsMadeOf D p bytes old new → D.tells → (held : Holding) → IsSoundPlace D new held p (base_alone p bytes no_base).book
made_sound D p bytes old new made tells held = record {
  read = record { was = base_alone p bytes no_base; stands = made.stands tells; index = (refl, refl); list = kept_empty held p bytes };
  images = λ a is_a b is_b. record { was = base_alone p bytes no_base; stands = made.after tells a is_a b is_b; index = (refl, refl); list = kept_empty held p bytes };
}

-- What `init` has made is a sound place.
pub soundly : {F E : Type 0} (D : Ghosts F) (p : Params) (left left' : Option (List ℕ)) (old new : Files F) (ended : Result (Unit {0}) E) → OnOk ended (HasMade D p left left' old new) → OnOk ended (IsSoundlyMade D p left left' new)
soundly D p left left' old new (Ok done) made = record { bytes = made.bytes; book = made.book; sound = made_sound D p made.bytes old new made.made }
soundly D p left left' old new (Err why) made = tt
