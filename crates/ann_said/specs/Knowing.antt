-- What a client of a running index knows of the list that the run will leave, and what its lines are worth.
use Rattle.std.specs.Prelude.{◌≡◌, ℕ, ◌+◌, ◌≤◌, ◌⊎◌, max, List, [], ◌∷◌, ◌++◌, take, drop, length}
use Rattle.ann_types.specs.Index.{Index}
use Rattle.ann_types.specs.Lists.{BasedList, BeginsWith, upto, length_of}
use Rattle.ann_types.specs.Legal.{IsLegal}
use Rattle.ann_transcript.specs.declared.reply.UpdateWord.{UpdateWord}
use Rattle.ann_transcript.specs.declared.reply.UpdateWord.TheVariants as update
use Rattle.ann_transcript.specs.declared.reply.MergeWord.{MergeWord}
use Rattle.ann_transcript.specs.declared.reply.MergeWord.TheVariants as merge
use Rattle.ann_said.specs.Owned.{Placed, own}
use Rattle.ann_said.specs.Said.{Line, Spot, start, behind_lines, AllStand}

-- whose knowledge it is; the list that its searches have seen; the list that its updates were told; how many entries it
-- has past the run's beginning; and one past the list's length where the log has stopped, or 0
pub record Known : Type 0 where
  pub client : ℕ
  pub seen : BasedList
  pub told : BasedList
  pub entries : ℕ
  pub stop : ℕ

-- before its first command it knows the list with which the run began
abbrev pub known_first : ℕ → BasedList → Known
known_first client h0 = record { client = client; seen = h0; told = h0; entries = 0; stop = 0 }

-- it has so many entries more
abbrev pub with_more : Known → ℕ → Known
with_more k count = record k { entries = k.entries + count }

-- it knows more than before: longer lists, and maybe that the log has stopped; its entries are as many
pub record Learns (old new : Known) : Type 0 where
  pub client : new.client ≡ old.client
  pub entries : new.entries ≡ old.entries
  pub seen : BeginsWith new.seen old.seen
  pub told : BeginsWith new.told old.told
  pub stop : (old.stop ≡ 0) ⊎ (new.stop ≡ old.stop)

-- t[at] begins with h0, and past it has so many entries of a client
pub record HasOwn (h0 t : BasedList) (client count at : ℕ) : Type 0 where
  pub after : length_of h0 ≤ at
  pub long : at ≤ length_of t
  pub begins : BeginsWith (upto t at) h0
  pub own : length (own h0 (upto t at) client) ≡ count

-- in a list, behind lines whose commands have as many entries as a client has
abbrev pub spot : BasedList → BasedList → Known → ℕ → Spot
spot h0 h k covers = record {
  client = k.client;
  earlier = take k.entries (own h0 h k.client);
  coming = drop k.entries (own h0 h k.client);
  seen = covers;
}

-- an update was refused, or a merge ended, by a cause of its own, which says nothing of the list
abbrev pub HasOwnCause : UpdateWord → Type 0
HasOwnCause (update.Dimension place got want at) = ⊥
HasOwnCause (update.Full place at) = ⊥
HasOwnCause (update.Present place tag at) = ⊥
HasOwnCause (update.Absent place tag at) = ⊥
HasOwnCause update.LogFault = Unit {0}
HasOwnCause (update.Stopped at) = ⊥
HasOwnCause update.Memory = Unit {0}
HasOwnCause (update.MemoryLogged at) = ⊥

abbrev pub MergeHasOwnCause : MergeWord → Type 0
MergeHasOwnCause (merge.Merged segment at) = ⊥
MergeHasOwnCause (merge.Nothing at) = ⊥
MergeHasOwnCause (merge.Running at since) = ⊥
MergeHasOwnCause merge.Shut = Unit {0}
MergeHasOwnCause merge.Disk = Unit {0}
MergeHasOwnCause (merge.BadSegment block) = Unit {0}
MergeHasOwnCause merge.LogFault = Unit {0}
MergeHasOwnCause (merge.Stopped at) = ⊥
MergeHasOwnCause merge.Memory = Unit {0}
MergeHasOwnCause (merge.MemoryLogged at) = ⊥

module _ (index : Index) (h0 : BasedList) where
  -- a list that the run may leave, by what a client knows
  pub record MayLeave (k : Known) (h : BasedList) : Type 0 where
    pub legal : IsLegal index h
    pub begins : BeginsWith h h0
    pub seen : BeginsWith h k.seen
    pub told : BeginsWith h k.told
    pub entries : k.entries ≤ length (own h0 h k.client)
    pub stop : (k.stop ≡ 0) ⊎ (k.stop ≡ length_of h + 1)

  -- A client's lines are right of a list, and their commands have its first entries there. No later search has to cover
  -- more than the client knows.
  pub record SaidUpTo (h : BasedList) (k : Known) (lines : List Line) : Type 0 where
    pub stand : AllStand index h0 h (start h0 h k.client) lines
    pub covers : ℕ
    pub behind : behind_lines (start h0 h k.client) lines ≡ spot h0 h k covers
    pub most : covers ≤ max (length_of k.seen) (length_of k.told)

  -- they are right of every list that the run may leave: what a loop over a client's commands keeps
  abbrev pub IsSaidSoFar : Known → List Line → Type 0
  IsSaidSoFar k lines = (h : BasedList) → MayLeave k h → SaidUpTo h k lines

  -- a line that a client may say next, behind which it knows `new`
  abbrev pub SaysNext : Known → Known → Line → Type 0
  SaysNext old new l = (lines : List Line) → IsSaidSoFar old lines → IsSaidSoFar new (lines ++ l ∷ [])

  -- a command that is under way has made so many entries, which are right of every list that the run may leave
  abbrev pub MakesSoFar : Known → ℕ → (List Placed → Type 0) → Type 0
  MakesSoFar k count AreRight =
      (h : BasedList) → MayLeave (with_more k count) h → AreRight (take count (drop k.entries (own h0 h k.client)))
