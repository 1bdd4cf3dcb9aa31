use Rattle.std.proofs.Common.{◌≡◌, ◌+◌, ◌∙◌, refl, sym, ap, subst, arith, List, ℕ, true, false, length}
use Rattle.std.proofs.lemmas.Bool.{false≢true}
use Rattle.ann_types.specs.declared.entry.Entry.{Entry}
use Rattle.ann_log.specs.Anew.{IsFrontOrText, IsWritten, held_in}
use Rattle.ann_log.specs.LogView.{files_of, files_in, held_of, counted}
use Rattle.ann_log.specs.Pairs.{LeavePairs}
use Rattle.ann_log.specs.Renewed.{renewed, IsOldOrNew, HasTurned, HasNotTurned}
use Rattle.ann_log.specs.Text.{Held, said_in}
use Rattle.ann_log.specs.Causes.{AreCalm}
use Rattle.ann_log.proofs.Appending.{view_then}
use Rattle.ann_log.proofs.Faults.{calm_beside, fault_beside}
use Rattle.ann_log.proofs.Pairs.{in_side, resting}
use Rattle.ann_log.proofs.Turning.{stands_anew, all_counted, turned_sound, same_sound, same_files}
use Rattle.ann_log.proofs.log.Log.write_other.Goals as goal

pub returns-in_default-clause-during : goal.returns-in_default-clause-during
returns-in_default-clause-during g c told =
    let D = g.F.LogFile in
    let i = c.self.inside in
    let sound = c.self.invariant.0 in
    let open_now : i.closed ≡ false = ap (λ v. v.is_closed) c.self.view_is ∙ c.requires.open_now in
    let s = said_in i.params i.book i.base i.generation in
    let rest = sound.rest told open_now in
    let held : Held = record { params = i.params; book = i.book; base = i.base; entries = counted s i.count (D.seen i.log) } in
    let tail = c.args.tail.now in
    let next : Held = renewed held c.args.base.now tail in
    let t = said_in i.params i.book c.args.base.now (i.generation + 1) in
    let new = c.write_log-written.new.file in
    let run = in_side D.past D.unsynced i.side i.log i.log i.other new (λ image. image ≡ D.seen i.log) (IsFrontOrText (D.unsynced i.other) t c.items.result.now) (IsOldOrNew held next)
    (λ a b is text. stands_anew i.side held i.generation (D.seen i.log) (D.seen i.other) (D.unsynced i.log) (D.unsynced i.other) i.gate rest next a b is (subst (λ e. IsFrontOrText (D.unsynced i.other) t e b) c.items.ensures text))
    (resting D.past D.unsynced i.log (D.seen i.log) rest.log_synced)
    (c.write_log-written.ensures.left.during told) in
    subst (λ v. LeavePairs D.past D.unsynced (files_of v) (files_in i.side i.log new) (IsOldOrNew (held_of v) (renewed (held_of v) c.args.base.now tail))) c.self.view_is run

pub returns-clause-during : goal.returns-clause-during
returns-clause-during g c told =
    let D = g.F.LogFile in
    let i = c.self.inside in
    let sound = c.self.invariant.0 in
    let open_now : i.closed ≡ false = ap (λ v. v.is_closed) c.self.view_is ∙ c.requires.open_now in
    let s = said_in i.params i.book i.base i.generation in
    let rest = sound.rest told open_now in
    let held : Held = record { params = i.params; book = i.book; base = i.base; entries = counted s i.count (D.seen i.log) } in
    let tail = c.args.tail.now in
    let next : Held = renewed held c.args.base.now tail in
    let t = said_in i.params i.book c.args.base.now (i.generation + 1) in
    let new = c.write_log-written.new.file in
    let run = in_side D.past D.unsynced i.side i.log i.log i.other new (λ image. image ≡ D.seen i.log) (IsFrontOrText (D.unsynced i.other) t c.items.result.now) (IsOldOrNew held next)
    (λ a b is text. stands_anew i.side held i.generation (D.seen i.log) (D.seen i.other) (D.unsynced i.log) (D.unsynced i.other) i.gate rest next a b is (subst (λ e. IsFrontOrText (D.unsynced i.other) t e b) c.items.ensures text))
    (resting D.past D.unsynced i.log (D.seen i.log) rest.log_synced)
    (c.write_log-written.ensures.left.during told) in
    let files = same_files i.side c.opposite-self-inside.result new c.swap.new.x i.log c.swap.new.y c.opposite-self-inside.ensures c.swap.ensures.x_after c.swap.ensures.y_after in
    subst (λ v. LeavePairs D.past D.unsynced (files_of v) (files_in c.opposite-self-inside.result c.swap.new.x c.swap.new.y) (IsOldOrNew (held_of v) (renewed (held_of v) c.args.base.now tail))) c.self.view_is
    (subst (λ f. LeavePairs D.past D.unsynced (files_in i.side i.log i.other) f (IsOldOrNew held next)) (sym files) run)

pub invariant_of-self-2 : goal.invariant_of-self-2
invariant_of-self-2 g c =
    let D = g.F.LogFile in
    let i = c.self.inside in
    let sound = c.self.invariant.0 in
    let open_now : i.closed ≡ false = ap (λ v. v.is_closed) c.self.view_is ∙ c.requires.open_now in
    let s = said_in i.params i.book i.base i.generation in
    let t = said_in i.params i.book c.args.base.now (i.generation + 1) in
    let new = c.write_log-written.new.file in
    let counts : length c.items-2.result.now ≡ length c.items.result.now = ap length (c.items-2.ensures ∙ sym c.items.ensures) in (
      same_sound D.seen D.unsynced D.tells t c.in-Ok.gate (length c.items-2.result.now) i.closed _ c.opposite-self-inside.result new c.swap.new.x i.log c.swap.new.y c.opposite-self-inside.ensures c.swap.ensures.x_after c.swap.ensures.y_after
          (turned_sound D.tells i.side s t (D.seen i.log) (D.seen i.other) (D.unsynced i.log) (D.unsynced i.other) i.gate i.count i.closed sound c.items.result.now (D.seen new) (D.unsynced new) c.in-Ok.gate (length c.items-2.result.now)
          (record { base = c.requires.base; book = sound.said.book; sizes = sound.said.sizes }) (omega arith) open_now c.in-Ok.ensures.written.text c.in-Ok.ensures.written.rest counts),
      c.write_log-written.ensures.room,
    )

pub returns-clause-turned : goal.returns-clause-turned
returns-clause-turned g c =
    let D = g.F.LogFile in
    let i = c.self.inside in
    let t = said_in i.params i.book c.args.base.now (i.generation + 1) in
    let new = c.write_log-written.new.file in
    let counts : length c.items-2.result.now ≡ length c.items.result.now = ap length (c.items-2.ensures ∙ sym c.items.ensures) in
    let entries = λ (told : D.tells).
    ap (λ f. counted t (length c.items-2.result.now) (D.seen f)) c.swap.ensures.x_after
    ∙ ap (λ (n : ℕ). counted t n (D.seen new)) counts
    ∙ all_counted t c.items.result.now (D.seen new) (c.in-Ok.ensures.written.text.text told) in
    let files = same_files i.side c.opposite-self-inside.result new c.swap.new.x i.log c.swap.new.y c.opposite-self-inside.ensures c.swap.ensures.x_after c.swap.ensures.y_after in
    subst (λ v. HasTurned D v c.args.base.now c.args.tail.now (view_then D c.opposite-self-inside.result i.params i.book c.args.base.now (i.generation + 1) c.swap.new.x c.swap.new.y (length c.items-2.result.now) i.closed)) c.self.view_is
    (record {
      renewed = λ told. ap (λ (e : List Entry). record { params = i.params; book = i.book; base = c.args.base.now; entries = e }) (entries told ∙ c.items.ensures);
      count = ap length c.items-2.ensures;
      turned = record { side = c.opposite-self-inside.ensures; generation = refl; behind = refl };
      constant = record { params = refl; book = refl };
      written = λ told.
          subst (λ e. IsWritten (held_in i.params i.book c.args.base.now e) (i.generation + 1) (D.seen c.swap.new.x)) (sym (entries told))
          (subst (λ f. IsWritten (held_in i.params i.book c.args.base.now c.items.result.now) (i.generation + 1) (D.seen f)) (sym c.swap.ensures.x_after) (c.in-Ok.ensures.written.written told));
      calm = subst (λ f. AreCalm D (files_in i.side i.log i.other) f) (sym files) (calm_beside D i.side i.log i.other new c.in-Ok.ensures.cause.calm);
    })

pub returns-in_default-clause-kept : goal.returns-in_default-clause-kept
returns-in_default-clause-kept g c =
    let D = g.F.LogFile in
    let i = c.self.inside in
    subst (λ v. HasNotTurned D v (view_then D i.side i.params i.book i.base i.generation i.log c.write_log-written.new.file i.count true)) c.self.view_is
    (record {
      kept = λ told. (refl, refl);
      count = refl;
      constant = record { params = refl; book = refl };
      fault = fault_beside D i.side i.log i.other c.write_log-written.new.file c.in_default.ensures.cause.failed;
    })

pub invariant_of-self : goal.invariant_of-self
invariant_of-self g c =
    let sound = c.self.invariant.0 in (
      record { said = sound.said; end = sound.end; few = sound.few; whole = sound.whole; rest = λ told open_now. absurd (false≢true (sym open_now)) },
      c.write_log-written.ensures.room,
    )
