-- The text of a graph is opened as this graph.
use Rattle.std.proofs.Common.{◌≡◌, ◌≢◌, ℕ, zero, suc, ◌+◌, ◌-◌, ◌*◌, ◌^◌, ◌≤◌, ◌<◌, List, [], ◌++◌, Option, None, Some, length, take, drop, inl, inr, refl, sym, ap, ap₂, subst, ◌∙◌, arith, length-append}
use Rattle.std.specs.Prelude.{Any, All, MatchOption}
use Rattle.std.specs.List.{flat_map}
use Rattle.std.specs.Option.{option_map}
use Rattle.std.proofs.lemmas.List.Elements.{All-replicate}
use Rattle.std.proofs.lemmas.List.{append_assoc, get_or-map, length-map, take_at, drop_at}
use Rattle.ann_types.specs.Graph.{Point, Graph, pids_of}
use Rattle.ann_types.specs.Codes.{Book, code}
use Rattle.ann_types.specs.declared.params.Params.{Params}
use Rattle.ann_types.proofs.Sets.{Rises}
use Rattle.ann_types.specs.Rows.{pid_at as pid_in_row}
use Rattle.ann_types.proofs.Rowed.{pid_of_at, pids_rise_at}
use Rattle.ann_types.proofs.Graphs.{IsEntry, entry_from_graph, linked_from_graph}
use Rattle.ann_block.specs.Block.{zeros}
use Rattle.ann_block.specs.Header.{IsHeader, entry_field, header_bytes, header_of, judge_header}
use Rattle.ann_block.specs.declared.header.Header.{Header}
use Rattle.ann_block.proofs.Headers.{header_accepted, header_read_back}
use Rattle.ann_segment.specs.Directory.{Item, item_of, directory_blocks, directory_bytes, filled, items_in, pid_at, blocks_of, RiseBefore}
use Rattle.ann_segment.specs.Holds.{Fits, Holds}
use Rattle.ann_segment.specs.Opening.{MayRead, IsHeaderFor, BeginsWell, IsFront, IsDirectory, IsBadBlock, IsOpenedFrom, IsOpened, directory_in, header_in, segment_length}
use Rattle.ann_segment.specs.Segment.{SegmentView}
use Rattle.ann_segment.specs.declared.refused.SegmentRefused.TheVariants.{BadSegment}
use Rattle.ann_segment.specs.Text.{front_bytes, header_for, items_for, node_for, row_of, segment_text}
use Rattle.ann_segment.proofs.Holding.{all_long, blocks_long, has_row, items_coded, no_point}
use Rattle.ann_segment.proofs.Refusals.{none_refused}
use Rattle.ann_segment.proofs.Rows.{header_long, items_again, length-directory, pid_is, front_long, segment_all}

-- zeros alone have no other byte
no_other : (n : ℕ) → Any (λ byte. byte ≢ 0) (zeros n) → ⊥
unfolding zeros
no_other n (k, x, within, at, other) = other (sym at ∙ All-replicate (λ (byte : ℕ). byte ≡ 0) n 0 refl k x within)

-- where a directory block is refused, the header and the directory were read
pub may_read_two : (block : ℕ) → 1 ≤ block → MayRead (BadSegment block) 2
may_read_two zero some = absurd (omega (arith, some))
may_read_two (suc block) some = refl

entry_inside : (points : List Point) (e : Option ℕ) → Rises (pids_of points) → IsEntry points e → MatchOption (option_map (row_of points) e) (length points ≡ 0) (λ row. row < length points)
entry_inside points None rises none = ap length none
entry_inside points (Some e) rises there = (has_row points e rises there).below

entry_small : (count : ℕ) (e : Option ℕ) → count < 2 ^ 32 → MatchOption e (count ≡ 0) (λ row. row < count) → entry_field e < 2 ^ 32
entry_small count None few is = omega arith
entry_small count (Some row) few is = omega (arith, few, is)

module _ (number : ℕ) (params : Params) (book : Book) (graph : Graph) (bytes : List ℕ) (fits : Fits params book graph) (number_fits : number < 2 ^ 64) (text : bytes ≡ segment_text params book graph number) where
  abbrev header : Header
  header = header_for params graph number

  abbrev items : List Item
  items = items_for book graph

  abbrev nodes : List ℕ
  nodes = flat_map (node_for graph.points) graph.points

  abbrev blocks : ℕ
  blocks = directory_blocks header.count header.m

  -- how many zeros are behind the rows of the directory
  abbrev pad : ℕ
  pad = 4096 * blocks_of (length (directory_bytes items)) - length (directory_bytes items)

  -- a segment that holds the graph
  abbrev segment : SegmentView ℕ
  segment = record { number = number; m = params.m; entry = option_map (row_of graph.points) graph.entry; items = items; seal = 0 }

  holds : Holds params book bytes segment graph
  holds = record { sound = fits.sound; numbers = fits.numbers; text = text; items = refl; entry = refl; code_bytes = refl }

  rises : Rises (pids_of graph.points)
  rises = (linked_from_graph graph fits.sound.sound).rises

  many : length items ≡ length graph.points
  many = length-map graph.points (λ (x : Point). (x.pid, code book x.vector))

  coded : All (λ item. length item.1 ≡ params.m) items
  coded = items_coded params book graph fits.belongs.parts

  small : All (λ item. item.0 < 2 ^ 32) items
  small k d within =
      let below : k < length graph.points = omega (arith, within, many) in
      subst (λ (item : Item). item.0 < 2 ^ 32) (sym (get_or-map (λ (x : Point). (x.pid, code book x.vector)) graph.points k no_point d below)) (fits.numbers k no_point below).0

  -- ---- the header

  is_header : IsHeader header
  is_header = record {
    code_bytes = params.in_limits.code_bytes;
    components = params.in_limits.components;
    parts = params.in_limits.parts;
    neighbours = params.in_limits.neighbours;
    entry = entry_inside graph.points graph.entry rises (entry_from_graph graph fits.sound.sound);
  }

  bytes_are : bytes ≡ header_bytes header ++ (filled (directory_bytes items) ++ nodes)
  unfolding segment_text front_bytes
  bytes_are = text ∙ append_assoc (header_bytes header) (filled (directory_bytes items)) nodes

  first_block : take 4096 bytes ≡ header_bytes header
  first_block = ap (take 4096) bytes_are ∙ take_at (header_bytes header) (filled (directory_bytes items) ++ nodes) 4096 (header_long header)

  entry_fits : entry_field header.start_row < 2 ^ 32
  entry_fits = entry_small header.count header.start_row fits.rows is_header.entry

  header_is : header_in bytes ≡ header
  header_is = ap header_of first_block ∙ header_read_back header is_header number_fits fits.rows entry_fits

  front_size : length (front_bytes header items) ≡ 4096 * (1 + blocks)
  front_size = front_long header items many coded

  long : length bytes ≡ segment_length header.count header.m
  unfolding segment_text
  long =
      let nodes_long = blocks_long (node_for graph.points) graph.points (all_long params book bytes segment graph holds) in
      ap length text
      ∙ length-append (front_bytes header items) nodes
      ∙ (let e : length (front_bytes header items) + length nodes ≡ 4096 * (1 + blocks + header.count) = omega (arith, front_size, nodes_long) in e)
      ∙ segment_all header.count header.m

  begins : BeginsWell number params bytes
  begins = record {
    sound = ap judge_header first_block ∙ header_accepted header is_header number_fits fits.rows entry_fits;
    expected = subst (IsHeaderFor number params) (sym header_is) (record { number = refl; components = refl; neighbours = refl; code_bytes = refl });
    long = long ∙ ap (λ (h : Header). segment_length h.count h.m) (sym header_is);
  }

  -- ---- the directory

  filled_size : length (filled (directory_bytes items)) ≡ 4096 * blocks
  unfolding front_bytes
  filled_size = omega (arith, front_size, header_long header, length-append (header_bytes header) (filled (directory_bytes items)))

  directory : directory_in header bytes ≡ filled (directory_bytes items)
  directory =
      let size : (4096 + 4096 * blocks) - 4096 ≡ 4096 * blocks = omega arith in
      ap₂ (λ (n : ℕ) (xs : List ℕ). take n (drop 4096 xs)) size bytes_are
      ∙ ap (take (4096 * blocks)) (drop_at (header_bytes header) (filled (directory_bytes items) ++ nodes) 4096 (header_long header))
      ∙ take_at (filled (directory_bytes items)) nodes (4096 * blocks) filled_size

  directory_is : directory_in header bytes ≡ directory_bytes items ++ zeros pad
  unfolding filled
  directory_is = directory

  items_read : items_in header.m header.count (directory_in header bytes) ≡ items
  items_read =
      ap₂ (items_in params.m) (sym many) directory_is
      ∙ items_again params.m items (zeros pad) coded small

  pid_read : (row : ℕ) → row < length graph.points → pid_at header.m (directory_in header bytes) row ≡ pid_in_row graph.points row
  pid_read row below =
      pid_is header.m header.count row (directory_in header bytes) below
      ∙ ap (λ (l : List Item). (item_of l row).0) items_read
      ∙ ap (λ (item : Item). item.0) (get_or-map (λ (x : Point). (x.pid, code book x.vector)) graph.points row no_point (0, []) below)
      ∙ sym (pid_of_at graph.points row no_point below)

  rise : RiseBefore header.m (directory_in header bytes) header.count
  rise row some below =
      let before : row - 1 < length graph.points = omega (arith, some, below) in
      let less : row - 1 < row = omega (arith, some) in
      let up = pids_rise_at graph.points rises (row - 1) row less below in
      omega (arith, up, pid_read (row - 1) before, pid_read row below)

  behind : drop (header.count * (4 + header.m)) (directory_in header bytes) ≡ zeros pad
  behind =
      ap (drop (header.count * (4 + header.m))) directory_is
      ∙ drop_at (directory_bytes items) (zeros pad) (header.count * (4 + header.m)) (length-directory params.m items coded ∙ ap (λ (n : ℕ). n * (4 + params.m)) many)

  is_directory : IsDirectory header.m header.count (directory_in header bytes)
  is_directory = none_refused header.m header.count (directory_in header bytes) rise (λ other. no_other pad (subst (Any (λ byte. byte ≢ 0)) behind other))

  front : IsFront number params bytes
  front = record {
    header = begins;
    directory = subst (λ (h : Header). IsDirectory h.m h.count (directory_in h bytes)) (sym header_is) is_directory;
  }

  -- ---- what is opened

  -- no block is refused
  pub none_bad : (block : ℕ) → IsBadBlock number params bytes block → ⊥
  none_bad block (inl (is, other)) = other begins
  none_bad block (inr (is, first)) = front.directory block first.refused

  -- a segment that is opened from the text holds the graph
  pub opened_holds : {S : Type 0} (seal : S) (opened : SegmentView S) → IsOpened number params seal opened → IsOpenedFrom number params bytes opened → Holds params book bytes opened graph
  opened_holds seal opened is from = record {
    sound = fits.sound;
    numbers = fits.numbers;
    text = text ∙ ap (segment_text params book graph) (sym is.number);
    items = from.items ∙ ap (λ (h : Header). items_in params.m h.count (directory_in h bytes)) header_is ∙ items_read;
    entry = from.entry ∙ ap (λ (h : Header). h.start_row) header_is;
    code_bytes = is.code_bytes;
  }
