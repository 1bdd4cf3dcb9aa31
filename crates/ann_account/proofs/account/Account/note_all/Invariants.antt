use Rattle.std.proofs.Common.{◌≡◌, ◌<◌, ◌+◌, ◌^◌, ◌++◌, List, length, not, true}
use Rattle.std.specs.List.{list_all}
use Rattle.ann_types.specs.Index.{Index}
use Rattle.ann_types.specs.Lists.{BasedList}
use Rattle.ann_types.specs.declared.entry.Entry.{Entry}
use Rattle.ann_laws.specs.Replays.{is_end}
use Rattle.ann_account.specs.Account.{HasRoom}
use Rattle.ann_account.specs.Steps.{CanNote, IsNoted, StillLead}
use Rattle.ann_account.proofs.account.Account.note_all.Given as goal

-- the first entries are noted, and there is room for the others
abbrev pub invariant-loop-entries : goal.invariant-loop-entries
invariant-loop-entries g l = record {
  room : HasRoom (length l.entries.items) l.self;
  ends : list_all (λ e. not (is_end e)) l.entries.items ≡ true;
  long : l.self.at + length l.entries.items < 2 ^ 64;
  front : List Entry;
  whole : front ++ l.entries.items ≡ l.fn.entries.items;
  noted : (index : Index) (h : BasedList) → CanNote index h l.fn.entries.items l.fn.self → IsNoted index h front l.fn.self l.self;
  brings : (index : Index) (h : BasedList) → CanNote index h l.fn.entries.items l.fn.self → StillLead g.S.Sealed.bytes index h front l.fn.self l.self;
}

abbrev pub decreases-loop-entries : goal.decreases-loop-entries
decreases-loop-entries g l = goal.left-loop-entries g l
