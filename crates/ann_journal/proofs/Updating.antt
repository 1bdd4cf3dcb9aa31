-- An update that is accepted, and its refusals.
use Rattle.std.proofs.Common.{◌≡◌, ◌<◌, ◌≤◌, ℕ, true, false, not, List, [], ◌∷◌, refl, sym, ap, subst, ◌∙◌, arith, length}
use Rattle.std.specs.Prelude.{None, Err}
use Rattle.std.specs.List.{list_all}
use Rattle.std.proofs.lemmas.List.{length-map}
use Rattle.ann_types.specs.Judge.{entry_of, judge_all}
use Rattle.ann_types.specs.Legal.{pid_end}
use Rattle.ann_types.specs.Lists.{BasedList}
use Rattle.ann_types.specs.declared.change.Change.{Change}
use Rattle.ann_types.specs.declared.change.Change.TheVariants.{Insert, Delete, Replace}
use Rattle.ann_types.specs.declared.entry.Entry.{Entry}
use Rattle.ann_types.specs.declared.params.Params.{Params}
use Rattle.ann_types.proofs.Judged.{accepted_is_legal}
use Rattle.ann_laws.specs.Replays.{is_end}
use Rattle.ann_disk.specs.declared.file.LogFile.{Ghosts}
use Rattle.ann_judge.specs.Standing.{refused_at}
use Rattle.ann_judge.proofs.Living.{refused_at_none}
use Rattle.ann_journal.specs.Journal.{JournalView, IsJournalOf, index_in}
use Rattle.ann_journal.specs.Logged.{CanLogAll, HasLogged, HasNotLogged, IsLogOutcome, IsUntouched}
use Rattle.ann_journal.specs.declared.refused.Unlogged.{Unlogged}
use Rattle.ann_journal.specs.declared.refused.Unlogged.TheVariants.{Memory, Fault}
use Rattle.ann_journal.specs.Updated.{entries_by, IsAccepted, HasUpdated}

pub no_end : (by : ℕ) (changes : List Change) → list_all (λ e. not (is_end e)) (entries_by by changes) ≡ true
no_end by [] = refl
no_end by (Insert tag vector ∷ changes) = no_end by changes
no_end by (Delete tag ∷ changes) = no_end by changes
no_end by (Replace tag vector ∷ changes) = no_end by changes

module _ {F S : Type 0} (D : Ghosts F) (h : BasedList) (by : ℕ) (changes : List Change) (j : JournalView F S) (is : IsJournalOf D h j) where
  -- the next Pid of the base is one
  base_small : j.account.next ≤ pid_end → h.base.next ≤ pid_end
  base_small small = let next = is.account_is.next in omega (arith, small, next)

  -- The entries of an update that is accepted can be logged.
  pub can_update : j.log.is_closed ≡ false → 0 < length changes → length changes < 65 → j.account.next ≤ pid_end → judge_all j.log.params h by changes ≡ None → CanLogAll D h (entries_by by changes) j
  can_update going some few small none = record {
    frame = record {
      journal_is = is;
      legal = record {
        base = is.legal.base;
        entries = accepted_is_legal (index_in j.log) h by changes (base_small small) is.legal.entries none;
      };
      open_now = going;
      some = (let same = length-map changes (entry_of by) in omega (arith, some, same));
      few = (let same = length-map changes (entry_of by) in omega (arith, few, same));
    };
    no_end = no_end by changes;
  }

  pub accepted_by : j.log.is_closed ≡ false → judge_all j.log.params h by changes ≡ None → (new : JournalView F S) → IsAccepted D h by changes j new
  accepted_by going none new = record { open_now = going; judged = none }

  pub has_updated : (new : JournalView F S) (at : ℕ) → IsAccepted D h by changes j new → HasLogged D h (entries_by by changes) j new → at ≡ new.account.at → HasUpdated D h by changes j new (record { at = at })
  has_updated new at ok logged place = record { accepted = ok; logged = logged; place = place ∙ logged.journal_is.account_is.at }

-- The entries of an accepted update can be logged, as the code has found it.
pub can_here : {F S : Type 0} (D : Ghosts F) (h : BasedList) (by : ℕ) (changes : List Change) (entries : List Entry) (params : Params) (j now : JournalView F S) → j ≡ now → IsJournalOf D h now → j.log.is_closed ≡ false → 0 < length changes → length changes < 65 → j.account.next ≤ pid_end → params ≡ j.log.params → (IsJournalOf D h j → None ≡ refused_at (judge_all params h by changes)) → entries ≡ entries_by by changes → CanLogAll D h entries now
can_here D h by changes entries params j now same is going some few small of_log none made =
    let here : IsJournalOf D h j = subst (IsJournalOf D h) (sym same) is in
    subst (λ (x : JournalView _ _). CanLogAll D h entries x) same
    (subst (λ (es : List Entry). CanLogAll D h es j) (sym made)
    (can_update D h by changes j here going some few small (ap (λ (p : Params). judge_all p h by changes) (sym of_log) ∙ refused_at_none _ (none here))))

pub accepted_here : {F S : Type 0} (D : Ghosts F) (h : BasedList) (by : ℕ) (changes : List Change) (params : Params) (j now new : JournalView F S) → j ≡ now → IsJournalOf D h now → j.log.is_closed ≡ false → params ≡ j.log.params → (IsJournalOf D h j → None ≡ refused_at (judge_all params h by changes)) → IsAccepted D h by changes now new
accepted_here D h by changes params j now new same is going of_log none =
    subst (λ (x : JournalView _ _). IsAccepted D h by changes x new) same
    (record { open_now = going; judged = ap (λ (p : Params). judge_all p h by changes) (sym of_log) ∙ refused_at_none _ (none (subst (IsJournalOf D h) (sym same) is)) })

-- what a refusal of the log leaves
pub untouched_by : {F S : Type 0} (T : Type 0) (D : Ghosts F) (h : BasedList) (es : List Entry) (old new : JournalView F S) (why : Unlogged) → why ≡ Memory → IsLogOutcome D h {T = T} es old new (Err why) → IsUntouched D h old new
untouched_by T D h es old new why is outcome = subst (λ (u : Unlogged). IsLogOutcome D h {T = T} es old new (Err u)) is outcome

pub unlogged_by : {F S : Type 0} (T : Type 0) (D : Ghosts F) (h : BasedList) (es : List Entry) (old new : JournalView F S) (why : Unlogged) → why ≡ Fault → IsLogOutcome D h {T = T} es old new (Err why) → HasNotLogged D h old new
unlogged_by T D h es old new why is outcome = subst (λ (u : Unlogged). IsLogOutcome D h {T = T} es old new (Err u)) is outcome
