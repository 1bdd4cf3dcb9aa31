-- What is kept of the entries that were read, and how it goes on.
use Rattle.std.specs.Prelude.{◌≡◌, ◌<◌, ◌+◌, ◌^◌, ℕ, List, [], ◌∷◌, ◌++◌, Option, Some, None, if◌then◌else◌}
use Rattle.std.specs.Option.{option_map}
use Rattle.std.specs.FinMap.{get, insert, remove}
use Rattle.ann_types.specs.Legal.{pid_end}
use Rattle.ann_types.specs.Lists.{makes_point}
use Rattle.ann_types.specs.declared.params.Params.{Params}
use Rattle.ann_types.specs.declared.entry.Entry.{Entry}
use Rattle.ann_types.specs.declared.entry.Entry.TheVariants.{Insert, Delete, Begin, End, Replace}
use Rattle.ann_laws.specs.Outlines.{Opening, Outline, outline_start, outline_step}
use Rattle.ann_tags.specs.Tags.{Pids}
use Rattle.ann_reopen.specs.Shape.{drawn}
use Rattle.ann_reopen.specs.Gone.{gone_by}
use Rattle.ann_reopen.specs.declared.basis.Basis.{Basis}
use Rattle.ann_reopen.specs.declared.judged.Merge.{Merge}
use Rattle.ann_reopen.specs.declared.judged.Judged.{Judged}
use Rattle.ann_reopen.specs.declared.reading.Reading.{Reading}

-- the position of the next entry, the outline, the next Pid before the open Begin, the live tags, the next Pid, the Pids that
-- the entries delete, and the last merge that ended
pub record ReadingView : Type 0 where
  pub params : Params
  pub position : ℕ
  pub outline : Outline
  pub before : ℕ
  pub pids : Pids
  pub next : ℕ
  pub gone : List (Option ℕ)
  pub merge : Option Merge

abbrev pub reading_of : Reading → ReadingView
reading_of r = record {
  params = r.params;
  position = r.position;
  outline = drawn r.shape;
  before = r.before;
  pids = r.tags.pids;
  next = r.next;
  gone = r.gone.items;
  merge = r.merge;
}

-- nothing was read
abbrev pub start_of : Params → Basis → ReadingView
start_of params basis = record {
  params = params;
  position = basis.position;
  outline = outline_start;
  before = 0;
  pids = basis.tags.pids;
  next = basis.next;
  gone = [];
  merge = None;
}

-- ---- one entry more

abbrev pub before_after : ReadingView → Entry → ℕ
before_after r (Insert by tag vector) = r.before
before_after r (Delete by tag) = r.before
before_after r (Begin by) = r.next
before_after r (End by segment) = r.before
before_after r (Replace by tag vector) = r.before

abbrev pub pids_after : Pids → ℕ → Entry → Pids
pids_after pids next (Insert by tag vector) = insert pids tag next
pids_after pids next (Delete by tag) = remove pids tag
pids_after pids next (Begin by) = pids
pids_after pids next (End by segment) = pids
pids_after pids next (Replace by tag vector) = insert pids tag next

-- the merge that an End at a position ends, where one is open
abbrev pub merge_at : ReadingView → ℕ → Option Opening → Option Merge
merge_at r segment None = r.merge
merge_at r segment (Some o) = Some (record { position = o.position; end = r.position; next = r.before; segment = segment })

abbrev pub merge_after : ReadingView → Entry → Option Merge
merge_after r (Insert by tag vector) = r.merge
merge_after r (Delete by tag) = r.merge
merge_after r (Begin by) = r.merge
merge_after r (End by segment) = merge_at r segment r.outline.begun
merge_after r (Replace by tag vector) = r.merge

abbrev pub after : ReadingView → Entry → ReadingView
after r e = record {
  params = r.params;
  position = r.position + 1;
  outline = outline_step r.params r.position r.outline e;
  before = before_after r e;
  pids = pids_after r.pids r.next e;
  next = r.next + (if makes_point e then 1 else 0);
  gone = r.gone ++ gone_by r.pids e ∷ [];
  merge = merge_after r e;
}

-- ---- when an entry may be read

-- its numbers can be counted on
pub record HasRoom (r : Reading) : Type 0 where
  pub position : r.position < 2 ^ 63
  pub points : r.shape.rw < 2 ^ 63
  pub graphs : r.shape.ros < 2 ^ 63

-- there is a Pid for its point, and the tag of an Insert isn't live
abbrev pub MayTake : ReadingView → Entry → Type 0
MayTake r (Insert by tag vector) = (r.next < pid_end) × (get r.pids tag ≡ None)
MayTake r (Delete by tag) = Unit {0}
MayTake r (Begin by) = Unit {0}
MayTake r (End by segment) = Unit {0}
MayTake r (Replace by tag vector) = r.next < pid_end

-- what was read
pub record IsReadBy (r : ReadingView) (judged : Judged) : Type 0 where
  pub tags : judged.tags.pids ≡ r.pids
  pub next : judged.next ≡ r.next
  pub begun : judged.begun ≡ option_map (λ (o : Opening). o.position) r.outline.begun
  pub merge : judged.merge ≡ r.merge
  pub gone : judged.gone.items ≡ r.gone
