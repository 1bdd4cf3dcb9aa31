use Rattle.std.proofs.Common.{Bool, length}
use Rattle.ann_types.specs.Lists.{BasedList}
use Rattle.ann_showing.specs.Showing.{Follows, HasShown}
use Rattle.ann_showing.proofs.show.show_all.Given as goal

-- the view follows, and nothing but what waits has changed
abbrev pub invariant-loop-journal : goal.invariant-loop-journal
invariant-loop-journal g l = record {
  some : HasShown l.fn.journal l.journal;
  follows : (sound : Bool) (h shown : BasedList) → Follows g.F.LogFile g.S.Sealed.bytes sound h shown l.fn.journal l.fn.view → (later : BasedList) × Follows g.F.LogFile g.S.Sealed.bytes sound h later l.journal l.view;
}

-- fewer wait at each turn
abbrev pub decreases-loop-journal : goal.decreases-loop-journal
decreases-loop-journal g l = length l.journal.account.waiting
