use Rattle.std.proofs.Common.{◌≡◌, ◌∙◌, ap, subst, false}
use Rattle.ann_disk.specs.File.{Cut}
use Rattle.ann_log.specs.LogView.{files_of, files_in, held_of, counted}
use Rattle.ann_log.specs.Pairs.{LeavePairs}
use Rattle.ann_log.specs.Text.{Held, StandsFor, said_in}
use Rattle.ann_log.specs.Causes.{AreCalm}
use Rattle.ann_log.proofs.Faults.{calm_beside}
use Rattle.ann_log.proofs.Pairs.{in_side, resting}
use Rattle.ann_log.proofs.Turning.{cut_rest, stands_cut, stands_at_rest, each_on_side}
use Rattle.ann_log.proofs.log.Log.cut_other.Goals as goal

pub returns-in_default-clause-during : goal.returns-in_default-clause-during
returns-in_default-clause-during g c told =
    let D = g.F.LogFile in
    let i = c.self.inside in
    let sound = c.self.invariant.0 in
    let open_now : i.closed ≡ false = ap (λ v. v.is_closed) c.self.view_is ∙ c.requires.open in
    let s = said_in i.params i.book i.base i.generation in
    let rest = sound.rest told open_now in
    let held : Held = record { params = i.params; book = i.book; base = i.base; entries = counted s i.count (D.seen i.log) } in
    let new = c.cut_synced.new.file in
    subst (λ v. LeavePairs D.past D.unsynced (files_of v) (files_in i.side i.log new) (StandsFor (held_of v))) c.self.view_is
    (in_side D.past D.unsynced i.side i.log i.log i.other new (λ image. image ≡ D.seen i.log) (Cut 0 (D.seen i.other)) (StandsFor held)
    (λ a b is cut. stands_cut i.side held i.generation (D.seen i.log) (D.seen i.other) (D.unsynced i.log) (D.unsynced i.other) i.gate rest a b is cut)
    (resting D.past D.unsynced i.log (D.seen i.log) rest.log_synced)
    (c.cut_synced.ensures.during told))

pub returns-clause-during : goal.returns-clause-during
returns-clause-during g c told =
    let D = g.F.LogFile in
    let i = c.self.inside in
    let sound = c.self.invariant.0 in
    let open_now : i.closed ≡ false = ap (λ v. v.is_closed) c.self.view_is ∙ c.requires.open in
    let s = said_in i.params i.book i.base i.generation in
    let rest = sound.rest told open_now in
    let held : Held = record { params = i.params; book = i.book; base = i.base; entries = counted s i.count (D.seen i.log) } in
    let new = c.cut_synced.new.file in
    subst (λ v. LeavePairs D.past D.unsynced (files_of v) (files_in i.side i.log new) (StandsFor (held_of v))) c.self.view_is
    (in_side D.past D.unsynced i.side i.log i.log i.other new (λ image. image ≡ D.seen i.log) (Cut 0 (D.seen i.other)) (StandsFor held)
    (λ a b is cut. stands_cut i.side held i.generation (D.seen i.log) (D.seen i.other) (D.unsynced i.log) (D.unsynced i.other) i.gate rest a b is cut)
    (resting D.past D.unsynced i.log (D.seen i.log) rest.log_synced)
    (c.cut_synced.ensures.during told))

pub invariant_of-self : goal.invariant_of-self
invariant_of-self g c =
    let D = g.F.LogFile in
    let i = c.self.inside in
    let sound = c.self.invariant.0 in
    let s = said_in i.params i.book i.base i.generation in (
      record {
        said = sound.said;
        end = sound.end;
        few = sound.few;
        whole = sound.whole;
        rest = λ told open_now. cut_rest i.side s (D.seen i.log) (D.seen i.other) (D.unsynced i.log) (D.unsynced i.other) i.gate (counted s i.count (D.seen i.log)) (sound.rest told open_now)
            (D.seen c.cut_synced.new.file) (D.unsynced c.cut_synced.new.file) (c.in-Ok.ensures.written told) (c.in-Ok.ensures.rest told);
      },
      c.self.invariant.1,
    )

pub returns-clause-cut : goal.returns-clause-cut
returns-clause-cut g c =
    let D = g.F.LogFile in
    let i = c.self.inside in
    let sound = c.self.invariant.0 in
    let open_now : i.closed ≡ false = ap (λ v. v.is_closed) c.self.view_is ∙ c.requires.open in
    let s = said_in i.params i.book i.base i.generation in
    let held : Held = record { params = i.params; book = i.book; base = i.base; entries = counted s i.count (D.seen i.log) } in
    let new = c.cut_synced.new.file in
    record {
      cut = c.in-Ok.ensures.written;
      after = λ told.
          let now = cut_rest i.side s (D.seen i.log) (D.seen i.other) (D.unsynced i.log) (D.unsynced i.other) i.gate held.entries (sound.rest told open_now) (D.seen new) (D.unsynced new) (c.in-Ok.ensures.written told) (c.in-Ok.ensures.rest told) in
          each_on_side D.unsynced (StandsFor held) i.side i.log new
          (λ a b is_a is_b. stands_at_rest i.side held i.generation (D.seen i.log) (D.seen new) (D.unsynced i.log) (D.unsynced new) i.gate now a b is_a is_b);
      calm = subst (λ v. AreCalm D (files_of v) (files_in i.side i.log new)) c.self.view_is (calm_beside D i.side i.log i.other new c.in-Ok.ensures.cause.calm);
    }
