use Rattle.std.proofs.Common.{◌≡◌, ◌+◌, take}
use Rattle.ann_types.specs.Lists.{BasedList, with_entries}
use Rattle.ann_view.specs.Holding.{HoldsGraph}
use Rattle.ann_view.specs.Stands.{StandsFor, lti_of}
use Rattle.ann_resume.specs.Applied.{AreNext, IsSameIndex}
use Rattle.ann_resume.proofs.apply.apply_all.Given as goal

-- the view stands for the list with the entries so far
abbrev pub invariant-loop-index : goal.invariant-loop-index
invariant-loop-index g l = record {
  same : IsSameIndex l.fn.view l.view;
  at : l.view.at ≡ l.fn.view.at + l.index;
  stands : (h : BasedList) → AreNext l.fn.view h l.entries l.gone → StandsFor l.view (with_entries h (take l.index l.entries));
  holds : (h : BasedList) → AreNext l.fn.view h l.entries l.gone → HoldsGraph g.S.Sealed.bytes l.fn.view (lti_of l.fn.view h) → HoldsGraph g.S.Sealed.bytes l.view (lti_of l.view (with_entries h (take l.index l.entries)));
}
