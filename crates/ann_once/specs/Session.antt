-- What a session keeps of a list of entries.
use Rattle.std.specs.Prelude.{◌≡◌, true, false, None, List, Result, IfOk, OnOk}
use Rattle.ann_types.specs.Fold.{fold_of}
use Rattle.ann_types.specs.Graph.{empty_graph}
use Rattle.ann_types.specs.Legal.{is_legal}
use Rattle.ann_types.specs.Lists.{BasedList, empty_base, with_entry, live_of}
use Rattle.ann_tags.specs.Tags.{map_of}
use Rattle.ann_view.specs.Stands.{StandsFor}
use Rattle.ann_once.specs.Book.{zeros}
use Rattle.ann_types.specs.Judge.{entry_of, judge, judge_all}
use Rattle.ann_types.specs.declared.change.Change.{Change}
use Rattle.ann_judge.specs.Standing.{behind}
use Rattle.ann_script.specs.Order.{Order}
use Rattle.ann_transcript.specs.declared.reply.Reply.{Reply}
use Rattle.ann_once.specs.Once.{once_index, reply_to, list_after}
use Rattle.ann_once.specs.declared.session.Session.{Session}

-- a legal list on the empty base, whose points are all in memory: the view stands for it, and the tags are its live tags
pub record Keeps (h : BasedList) (session : Session) : Type 0 where
  pub base : h.base ≡ empty_base
  pub legal : is_legal (once_index session.params) h ≡ true
  pub lti : (fold_of (once_index session.params) h).lti ≡ empty_graph
  pub stands : StandsFor session.view h
  pub params : session.view.params ≡ session.params
  pub book : session.view.book.book ≡ zeros session.params.d
  pub segment : session.view.segment ≡ None
  pub going : session.view.closed ≡ false
  pub tags : session.tags.pids ≡ map_of (live_of h)

-- the change is accepted behind a list that the session keeps, and so are these changes
abbrev pub Accepts : Session → Change → Type 0
Accepts session c = (h : BasedList) × Keeps h session × (judge session.params h c ≡ None)

abbrev pub AcceptsAll : Session → List Change → Type 0
AcceptsAll session changes = (h : BasedList) × Keeps h session × (judge_all session.params h 0 changes ≡ None)

-- the session then keeps the list with the entry of the change, and with those of these changes
abbrev pub Makes : {E : Type 0} → Session → Session → Change → Result (Unit {0}) E → Type 0
Makes old new c result = (h : BasedList) → Keeps h old → judge old.params h c ≡ None → OnOk result (Keeps (with_entry h (entry_of 0 c)) new)

abbrev pub MakesAll : {E : Type 0} → Session → Session → List Change → Result (Unit {0}) E → Type 0
MakesAll old new changes result = (h : BasedList) → Keeps h old → judge_all old.params h 0 changes ≡ None → OnOk result (Keeps (behind h changes) new)

-- the reply to a command, behind the list that the session keeps
abbrev pub Replies : {E : Type 0} → Session → Order → Result Reply E → Type 0
Replies old order result = (h : BasedList) → Keeps h old → IfOk result (λ reply. reply ≡ reply_to (once_index old.params) h order)

-- the session then keeps the list behind the command
abbrev pub Follows : {E : Type 0} → Session → Session → Order → Result Reply E → Type 0
Follows old new order result = (h : BasedList) → Keeps h old → OnOk result (Keeps (list_after (once_index old.params) h order) new)
