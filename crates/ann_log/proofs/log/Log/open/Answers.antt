use Rattle.std.proofs.Common.{◌≡◌, ◌∙◌, ℕ, List, ap, ap₂, subst, sym}
use Rattle.ann_types.specs.declared.entry.Entry.{Entry}
use Rattle.ann_disk.specs.Image.{Unsynced}
use Rattle.ann_frame.specs.Frames.{HaveComponents}
use Rattle.ann_preamble.specs.Preamble.{Said, said_by}
use Rattle.ann_preamble.specs.declared.choice.Side.{Side}
use Rattle.ann_preamble.specs.declared.choice.Side.TheVariants.{First, Second}
use Rattle.ann_log.specs.LogView.{held_of, files_in, on_side, off_side, IsAtRest}
use Rattle.ann_log.specs.declared.files.Files.{Files}
use Rattle.ann_log.specs.Causes.{AreCalm}
use Rattle.ann_log.specs.Opened.{seen_on, seen_off}
use Rattle.ann_log.specs.Pairs.{LeavePairs, ReadAsBefore}
use Rattle.ann_log.specs.Text.{Held, StandsAt, said_of, upto_gate}
use Rattle.ann_log.proofs.Opening.{found_text, parted_seen}
use Rattle.ann_log.proofs.log.Log.open.Goals as goal

-- two files at rest are so by their parts, the log and the other one
parted_rest : {F : Type 0} (seen : F → List ℕ) (unsynced : F → Unsynced) (side : Side) (s : Said) (log other : F) (files : Files F) (gate : ℕ) (list : List Entry)
    → files_in side log other ≡ files
    → IsAtRest side s (on_side side (seen files.first) (seen files.second)) (off_side side (seen files.first) (seen files.second)) (on_side side (unsynced files.first) (unsynced files.second)) (off_side side (unsynced files.first) (unsynced files.second)) gate list
    → IsAtRest side s (seen log) (seen other) (unsynced log) (unsynced other) gate list
parted_rest seen unsynced First s log other files gate list is rest = subst (λ f. IsAtRest First s (seen f.first) (seen f.second) (unsynced f.first) (unsynced f.second) gate list) (sym is) rest
parted_rest seen unsynced Second s log other files gate list is rest = subst (λ f. IsAtRest Second s (seen f.second) (seen f.first) (unsynced f.second) (unsynced f.first) gate list) (sym is) rest

pub started-requires : goal.started-requires
started-requires g c =
    let D = g.F.LogFile in
    let found = c.in-Ok.found in
    let is = c.in-Ok.ensures.prepared in
    record {
      usable = is.usable;
      room = is.room;
      rest = λ told. parted_rest D.seen D.unsynced found.side (said_by found.preamble) c.parted-log.result.0 c.parted-log.result.1 c.prepare.new.files found.frames.gate found.frames.entries c.parted-log.ensures (is.rest told);
    }

pub returns-in-Ok-clause-opened : goal.returns-in-Ok-clause-opened
returns-in-Ok-clause-opened g c =
    let D = g.F.LogFile in
    let old = c.args.files in
    let new = c.prepare.new.files in
    let found = c.in-Ok.found in
    let side = found.side in
    let s = said_by found.preamble in
    let is = c.in-Ok.ensures.prepared in
    let log = c.started.result.0 in
    let now = c.started.ensures in
    let files = now.files ∙ c.parted-log.ensures in
    let seen = parted_seen D side c.parted-log.result.0 c.parted-log.result.1 new c.parted-log.ensures in
    let said = λ (told : D.tells). ap₂ said_of (now.held told) now.generation in
    record {
      held = λ told.
          let at = is.found told in
          subst (λ (n : ℕ). StandsAt n (held_of log) (D.seen old.first) (D.seen old.second)) (sym now.generation)
          (subst (λ held. StandsAt found.preamble.generation held (D.seen old.first) (D.seen old.second)) (sym (now.held told))
          (found_text side s found.frames found.end (D.seen old.first) (D.seen old.second) at.is_log at.in_file));
      entries = λ told. now.entries ∙ sym (ap (λ (h : Held). h.entries) (now.held told));
      count = now.count;
      components =
          subst (λ list. HaveComponents log.params.d list) (sym now.entries)
          (subst (λ params. HaveComponents params.d found.frames.entries) (sym now.params) is.usable.components);
      is_open = now.is_open;
      cut = λ told.
          ap D.seen now.log ∙ seen.0 ∙ is.cut told
          ∙ ap (λ (t : Said). upto_gate t (seen_on D side old)) (sym (said told))
          ∙ ap (λ (d : Side). upto_gate (said_of (held_of log) log.generation) (seen_on D d old)) (sym now.side);
      other = λ told. ap D.seen now.other ∙ seen.1 ∙ is.other told ∙ ap (λ (d : Side). seen_off D d old) (sym now.side);
      during = λ told. subst (λ f. LeavePairs D.past D.unsynced old f (ReadAsBefore (D.unsynced old.first) (D.unsynced old.second))) (sym files) (c.prepare.ensures.during told);
      after = now.after;
      calm = subst (λ f. AreCalm D old f) (sym files) is.calm;
    }
