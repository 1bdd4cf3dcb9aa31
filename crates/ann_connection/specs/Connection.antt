-- What a client knows behind a call, and what it may say.
use Rattle.std.specs.Prelude.{◌≡◌, ℕ, ◌+◌, List, Some, Result, Ok, Err, length, map}
use Rattle.ann_types.specs.Lists.{BasedList, upto, with_entries}
use Rattle.ann_types.specs.Judge.{Refusal, entry_of, judge_all}
use Rattle.ann_types.specs.Judge as judge
use Rattle.ann_types.specs.declared.change.Change.{Change}
use Rattle.ann_types.specs.declared.hit.Hit.{Hit}
use Rattle.ann_script.specs.Order.{Order}
use Rattle.ann_transcript.specs.declared.reply.UpdateWord.{UpdateWord}
use Rattle.ann_transcript.specs.declared.reply.UpdateWord.TheVariants.{Dimension, Full, Present, Absent, LogFault, Stopped, Memory, MemoryLogged}
use Rattle.ann_transcript.specs.declared.reply.SearchWord.{SearchWord}
use Rattle.ann_transcript.specs.declared.reply.Reply.{Reply}
use Rattle.ann_transcript.specs.declared.reply.Reply.TheVariants.{Found, Search}
use Rattle.ann_said.specs.Said.{line}
use Rattle.ann_said.specs.Knowing.{Known, with_more, Learns, HasOwn, SaysNext}
use Rattle.ann_connection.specs.Opening.{Opening}

-- the reply to a search that ended so and left these points
abbrev pub search_reply : Result ℕ SearchWord → List Hit → Reply
search_reply (Ok at) hits = Found at hits
search_reply (Err word) hits = Search word

-- `old` is what the client knew before the call, and `Knows` says what it knows behind it
module _ (run : Opening) (old : Known) (Knows : Known → Type 0) where
  -- ---- updates

  module _ (changes : List Change) where
    -- the changes are the last entries of this prefix of the list that the client was told
    pub record AreAccepted (at : ℕ) : Type 0 where
      pub known : Known
      pub learns : Learns old known
      pub own : HasOwn run.list known.told known.client (known.entries + length changes) at
      pub before : BasedList
      pub last : upto known.told at ≡ with_entries before (map (entry_of known.client) changes)
      pub knows : Knows (with_more known (length changes))

    -- this prefix of it refuses the changes, and first the one at this place
    pub record AreJudged (place : ℕ) (why : Refusal) (at : ℕ) : Type 0 where
      pub known : Known
      pub learns : Learns old known
      pub own : HasOwn run.list known.told known.client known.entries at
      pub judged : judge_all run.index.params (upto known.told at) known.client changes ≡ Some (place, why)
      pub knows : Knows known

    -- the log has stopped, at this length of the list
    pub record IsStopped (at : ℕ) : Type 0 where
      pub known : Known
      pub learns : Learns old known
      pub stop : known.stop ≡ at + 1
      pub knows : Knows known

    -- nothing was logged
    pub record IsUnlogged : Type 0 where
      pub known : Known
      pub learns : Learns old known
      pub knows : Knows known

    -- the changes were logged, and the client wasn't told of them
    pub record AreUntold : Type 0 where
      pub known : Known
      pub learns : Learns old known
      pub knows : Knows (with_more known (length changes))

    -- by the answer
    abbrev pub IsUpdated : Result ℕ UpdateWord → Type 0
    IsUpdated (Ok at) = AreAccepted at
    IsUpdated (Err (Dimension place got want at)) = AreJudged place (judge.Dimension got want) at
    IsUpdated (Err (Full place at)) = AreJudged place judge.Full at
    IsUpdated (Err (Present place tag at)) = AreJudged place (judge.Present tag) at
    IsUpdated (Err (Absent place tag at)) = AreJudged place (judge.Absent tag) at
    IsUpdated (Err LogFault) = IsUnlogged
    IsUpdated (Err (Stopped at)) = IsStopped at
    IsUpdated (Err Memory) = IsUnlogged
    IsUpdated (Err (MemoryLogged at)) = AreUntold

  -- ---- searches and merges

  -- the command and its reply are a line that the client may say next
  pub record MaySay (order : Order) (reply : Reply) : Type 0 where
    pub known : Known
    pub client : known.client ≡ old.client
    pub size : ℕ
    pub says : SaysNext run.index run.list old known (line order reply size)
    pub knows : Knows known
