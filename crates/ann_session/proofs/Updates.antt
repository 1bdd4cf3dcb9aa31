-- What an update by itself comes to: the line that its client may say next.
use Rattle.std.proofs.Common.{ℕ, Bool, List, [], ◌∷◌, refl, length}
use Rattle.std.specs.Prelude.{Result, Ok, Err}
use Rattle.ann_types.specs.Judge.{Refusal}
use Rattle.ann_types.specs.Judge as judge
use Rattle.ann_types.specs.declared.change.Change.{Change}
use Rattle.ann_script.specs.Order.{Apply}
use Rattle.ann_transcript.specs.declared.reply.UpdateWord.{UpdateWord}
use Rattle.ann_transcript.specs.declared.reply.UpdateWord.TheVariants.{Dimension, Full, Present, Absent, LogFault, Stopped, Memory, MemoryLogged}
use Rattle.ann_transcript.specs.declared.reply.Reply.TheVariants.{Update}
use Rattle.ann_reply.specs.Reply.{accepted, word_of}
use Rattle.ann_said.specs.Knowing.{Known, with_more, HasOwnCause}
use Rattle.ann_said.proofs.Adding.{said_learned}
use Rattle.ann_said.proofs.Replying.{said_accepted, said_judged, said_caused, said_stopped, said_logged}
use Rattle.ann_connection.specs.Causes.{IsUpdateCaused, ReplyCause}
use Rattle.ann_connection.specs.Connection.{AreAccepted, AreJudged, IsUnlogged, IsUpdated, MaySay}
use Rattle.ann_connection.specs.Opening.{Counts, Opening}
use Rattle.ann_session.specs.Served.{IsAnswered}

-- ---- what may be said

accepted_said : (run : Opening) (old : Known) (Knows : Known → Type 0) (changes : List Change) (batch : Bool) (at : ℕ) → AreAccepted run old Knows changes at → MaySay run old Knows (Apply changes batch) (accepted changes batch at)
accepted_said run old Knows changes batch at a = record {
  known = with_more a.known (length changes);
  client = a.learns.client;
  size = length changes;
  says = λ lines so. said_accepted run.index run.list a.before a.known lines changes batch at a.own a.last (said_learned run.index run.list old a.known lines a.learns so);
  knows = a.knows;
}

judged_said : (run : Opening) (old : Known) (Knows : Known → Type 0) (changes : List Change) (batch : Bool) (place : ℕ) (why : Refusal) (at : ℕ) → AreJudged run old Knows changes place why at → MaySay run old Knows (Apply changes batch) (Update (word_of place why at) batch)
judged_said run old Knows changes batch place why at a = record {
  known = a.known;
  client = a.learns.client;
  size = 0;
  says = λ lines so. said_judged run.index run.list a.known lines changes batch place why at a.own a.judged (said_learned run.index run.list old a.known lines a.learns so);
  knows = a.knows;
}

caused_said : (run : Opening) (old : Known) (Knows : Known → Type 0) (changes : List Change) (batch : Bool) (why : UpdateWord) → HasOwnCause why → IsUnlogged run old Knows changes → MaySay run old Knows (Apply changes batch) (Update why batch)
caused_said run old Knows changes batch why cause a = record {
  known = a.known;
  client = a.learns.client;
  size = 0;
  says = λ lines so. said_caused run.index run.list a.known lines changes batch why cause (said_learned run.index run.list old a.known lines a.learns so);
  knows = a.knows;
}

refused_said : (run : Opening) (old : Known) (Knows : Known → Type 0) (changes : List Change) (batch : Bool) (why : UpdateWord) → IsUpdated run old Knows changes (Err why) → MaySay run old Knows (Apply changes batch) (Update why batch)
refused_said run old Knows changes batch (Dimension place got want at) a = judged_said run old Knows changes batch place (judge.Dimension got want) at a
refused_said run old Knows changes batch (Full place at) a = judged_said run old Knows changes batch place judge.Full at a
refused_said run old Knows changes batch (Present place tag at) a = judged_said run old Knows changes batch place (judge.Present tag) at a
refused_said run old Knows changes batch (Absent place tag at) a = judged_said run old Knows changes batch place (judge.Absent tag) at a
refused_said run old Knows changes batch LogFault a = caused_said run old Knows changes batch LogFault tt a
refused_said run old Knows changes batch (Stopped at) a = record {
  known = a.known;
  client = a.learns.client;
  size = 0;
  says = λ lines so. said_stopped run.index run.list a.known lines changes batch at a.stop (said_learned run.index run.list old a.known lines a.learns so);
  knows = a.knows;
}
refused_said run old Knows changes batch Memory a = caused_said run old Knows changes batch Memory tt a
refused_said run old Knows changes batch (MemoryLogged at) a = record {
  known = with_more a.known (length changes);
  client = a.learns.client;
  size = length changes;
  says = λ lines so. said_logged run.index run.list a.known lines changes batch at (said_learned run.index run.list old a.known lines a.learns so);
  knows = a.knows;
}

-- ---- the reply

no_cause : (alone : Type 0) (first before now : Counts) (changes : List Change) (batch : Bool) (at : ℕ) → ReplyCause alone first before now (accepted changes batch at)
no_cause alone first before now [] batch at = tt
no_cause alone first before now (c ∷ cs) batch at = tt

pub answered_accepted : (run : Opening) (old : Known) (Knows : Known → Type 0) (alone : Type 0) (before now : Counts) (changes : List Change) (batch : Bool) (at : ℕ) → IsUpdated run old Knows changes (Ok at) → IsUpdateCaused alone run.counts before now (Ok at) → IsAnswered run old Knows alone before now (Apply changes batch) (accepted changes batch at)
answered_accepted run old Knows alone before now changes batch at a caused = record {
  said = accepted_said run old Knows changes batch at a;
  cause = record { on = caused.on; cause = no_cause alone run.counts before now changes batch at };
}

pub answered_refused : (run : Opening) (old : Known) (Knows : Known → Type 0) (alone : Type 0) (before now : Counts) (changes : List Change) (batch : Bool) (why : UpdateWord) → IsUpdated run old Knows changes (Err why) → IsUpdateCaused alone run.counts before now (let refused : Result ℕ UpdateWord = Err why in refused) → IsAnswered run old Knows alone before now (Apply changes batch) (Update why batch)
answered_refused run old Knows alone before now changes batch why a caused = record {
  said = refused_said run old Knows changes batch why a;
  cause = record { on = caused.on; cause = caused.cause why refl };
}
