-- What is seen of a segment that is being written, and what its steps leave.
use Rattle.std.specs.Prelude.{◌≡◌, ℕ, ◌+◌, ◌*◌, ◌++◌, List, length, All, Result, OnOk, MatchResult}
use Rattle.std.specs.List.{flat_map}
use Rattle.std.specs.FinMap.{insert}
use Rattle.ann_types.specs.Graph.{Graph}
use Rattle.ann_types.specs.Codes.{Book}
use Rattle.ann_types.specs.declared.params.Params.{Params}
use Rattle.ann_block.specs.Header.{IsHeader}
use Rattle.ann_block.specs.declared.header.Header.{Header}
use Rattle.ann_vault.specs.Drafts.{KeepsOthers}
use Rattle.ann_vault.specs.Held.{Holding}
use Rattle.ann_segment.specs.Directory.{Item, AreRising, directory_blocks}
use Rattle.ann_segment.specs.Segment.{SegmentView}
use Rattle.ann_segment.specs.Text.{front_bytes, header_for, items_for, node_for, segment_text}

-- its header, the Pid and the code in each row, how many node blocks were written, and its draft
pub record WriterView (D : Type 0) : Type 0 where
  pub header : Header
  pub items : List Item
  pub written : ℕ
  pub draft : D

-- what a header and a directory must be to begin a segment
pub record AreFront (header : Header) (items : List Item) : Type 0 where
  pub sound : IsHeader header
  pub count : length items ≡ header.count
  pub rising : AreRising items
  pub codes : All (λ item. length item.1 ≡ header.m) items

-- a writer that has begun: no node block is written
pub record HasBegun {D : Type 0} (head : Header) (rows : List Item) (writer : WriterView D) : Type 0 where
  pub header : writer.header ≡ head
  pub items : writer.items ≡ rows
  pub none : writer.written ≡ 0

-- one row more was written, or none
pub record HasRow {D T E : Type 0} (result : Result T E) (old new : WriterView D) : Type 0 where
  pub header : new.header ≡ old.header
  pub items : new.items ≡ old.items
  pub written : MatchResult result (λ _. new.written ≡ old.written + 1) (λ _. new.written ≡ old.written)

-- the segment of a writer
pub record IsWritten {D S : Type 0} (writer : WriterView D) (segment : SegmentView S) : Type 0 where
  pub number : segment.number ≡ writer.header.number
  pub code_bytes : segment.m ≡ writer.header.m
  pub entry : segment.entry ≡ writer.header.start_row
  pub items : segment.items ≡ writer.items

-- the bytes so many node blocks behind the front have
abbrev pub length_after : Header → ℕ → ℕ
length_after header written = 4096 * (1 + directory_blocks header.count header.m + written)

-- where the draft has the blocks of a graph, the sealed bytes are its text
abbrev pub SealsText : {D : Type 0} → WriterView D → List ℕ → List ℕ → Type 0
SealsText writer drafted sealed =
    (params : Params) (book : Book) (graph : Graph)
    → writer.header ≡ header_for params graph writer.header.number
    → writer.items ≡ items_for book graph
    → drafted ≡ front_bytes writer.header writer.items ++ flat_map (node_for graph.points) graph.points
    → sealed ≡ segment_text params book graph writer.header.number

-- the bytes are sealed under the number, and the seal tells it
pub record IsSealedFrom {S : Type 0} (number_of : S → ℕ) (bytes_of : S → List ℕ) (wanted : ℕ) (text : List ℕ) (seal : S) (old new : Holding) : Type 0 where
  pub number : number_of seal ≡ wanted
  pub bytes : bytes_of seal ≡ text
  pub held : new ≡ insert old wanted text

-- what a vault tells of its drafts
module _ {V D : Type 0} (is_current : V → D → Type 0) (number_of : D → ℕ) (bytes_of : D → List ℕ) where
  -- the draft has the front of a segment
  pub record HasFront (header : Header) (items : List Item) (vault : V) (draft : D) : Type 0 where
    pub number : number_of draft ≡ header.number
    pub blocks : bytes_of draft ≡ front_bytes header items
    pub long : length (bytes_of draft) ≡ length_after header 0
    pub current : is_current vault draft

  -- the draft has these bytes more
  pub record HasMore {T E : Type 0} (bytes : List ℕ) (result : Result T E) (vault : V) (old new : D) : Type 0 where
    pub number : number_of new ≡ number_of old
    pub blocks : OnOk result (bytes_of new ≡ bytes_of old ++ bytes)
    pub current : OnOk result (is_current vault new)

  -- the draft is that of the writer's number, and has the blocks that were written
  pub record IsDraftOf (writer : WriterView D) (vault : V) : Type 0 where
    pub number : number_of writer.draft ≡ writer.header.number
    pub long : length (bytes_of writer.draft) ≡ length_after writer.header writer.written
    pub current : is_current vault writer.draft

-- nothing is sealed or removed, and drafts of other numbers stay current
pub record KeepsRest {V D : Type 0} (is_current : V → D → Type 0) (number_of : D → ℕ) (held : V → Holding) (number : ℕ) (old new : V) : Type 0 where
  pub same : held new ≡ held old
  pub others : KeepsOthers is_current old new number_of number
