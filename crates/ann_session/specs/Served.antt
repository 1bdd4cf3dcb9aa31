-- What a client's connection knows and may say, when its commands were served.
use Rattle.std.specs.Prelude.{◌≡◌, ℕ, List, ◌++◌, Result, Ok, Err, map}
use Rattle.ann_script.specs.Order.{Order}
use Rattle.ann_transcript.specs.declared.reply.Reply.{Reply}
use Rattle.ann_said.specs.Said.{Line, lines_text}
use Rattle.ann_said.specs.Knowing.{Known, IsSaidSoFar}
use Rattle.ann_connection.specs.Causes.{IsReplyCaused, AreCaused}
use Rattle.ann_connection.specs.Connection.{MaySay}
use Rattle.ann_connection.specs.Opening.{Counts, Opening, GoOn}

-- The client knew `old` of this run, and `Knows` says what it knows now; `alone` says that the run has one client. The
-- devices of its connection had and have these counts.
module _ (run : Opening) (old : Known) (Knows : Known → Type 0) (alone : Type 0) (before now : Counts) where
  -- the client may say this reply to the command next, and it has its cause
  pub record IsAnswered (order : Order) (reply : Reply) : Type 0 where
    pub said : MaySay run old Knows order reply
    pub cause : IsReplyCaused alone run.counts before now reply

  -- there was no memory to go on, and the client still knows of the run
  pub record IsBrokenOff : Type 0 where
    pub known : Known
    pub client : known.client ≡ old.client
    pub knows : Knows known
    pub on : GoOn before now

  -- by the result of a command
  abbrev pub IsReplied : {E : Type 0} → Order → Result Reply E → Type 0
  IsReplied order (Ok reply) = IsAnswered order reply
  IsReplied order (Err e) = IsBrokenOff

  -- The client of this name gave these commands, and its lines went behind a text. They are right of every list that the
  -- run may leave, by what the client knows now.
  pub record HasServed (name : List ℕ) (orders : List Order) (front whole : List ℕ) : Type 0 where
    pub lines : List Line
    pub commands : map (λ (l : Line). l.order) lines ≡ orders
    pub text : whole ≡ front ++ lines_text name 1 lines
    pub known : Known
    pub client : known.client ≡ old.client
    pub said : IsSaidSoFar run.index run.list known lines
    pub knows : Knows known
    pub caused : AreCaused alone run.counts before lines now

  -- by the result of them all
  abbrev pub IsServed : {E : Type 0} → List ℕ → List Order → List ℕ → List ℕ → Result (Unit {0}) E → Type 0
  IsServed name orders front whole (Ok done) = HasServed name orders front whole
  IsServed name orders front whole (Err e) = IsBrokenOff
