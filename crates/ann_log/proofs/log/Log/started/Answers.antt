use Rattle.std.proofs.Common.{refl, ap, sym, subst, arith, length}
use Rattle.ann_preamble.specs.Preamble.{said_by}
use Rattle.ann_log.specs.Found.{held_in}
use Rattle.ann_log.specs.LogView.{files_in}
use Rattle.ann_log.specs.Pairs.{EachPair}
use Rattle.ann_log.specs.Text.{Held, StandsFor}
use Rattle.ann_log.proofs.AtRest.{counted_here, each_stands, sound_at_rest}
use Rattle.ann_log.proofs.log.Log.started.Goals as goal

pub invariant_of-log : goal.invariant_of-log
invariant_of-log g c =
    let D = g.F.LogFile in
    let found = c.args.found in
    let usable = c.requires.usable in
    let inside = usable.inside in
    let few = usable.few in
    let long = ap length c.items.ensures in (
      sound_at_rest D.tells found.side (said_by found.preamble) (D.seen c.args.log) (D.seen c.args.other) (D.unsynced c.args.log) (D.unsynced c.args.other) found.frames.gate (length c.items.result.now) found.frames.entries
          usable.said (omega (arith, inside)) (omega (arith, few, long)) (sym long) c.requires.rest,
      c.requires.room,
    )

pub returns : goal.returns
returns g c =
    let D = g.F.LogFile in
    let found = c.args.found in
    let long = ap length c.items.ensures in
    let held = λ (told : D.tells). ap (λ list. record { params = found.preamble.params; book = found.preamble.book; base = found.preamble.base; entries = list })
    (counted_here found.side (said_by found.preamble) (D.seen c.args.log) (D.seen c.args.other) (D.unsynced c.args.log) (D.unsynced c.args.other) found.frames.gate found.frames.entries (c.requires.rest told) (length c.items.result.now) (sym long)) in
    record {
      files = refl;
      side = refl;
      log = refl;
      other = refl;
      held = held;
      params = refl;
      generation = refl;
      after = λ told.
          subst (λ (h : Held). EachPair D.unsynced (StandsFor h) (files_in found.side c.args.log c.args.other)) (sym (held told))
          (each_stands D.seen D.unsynced found.side c.args.log c.args.other (held_in found) found.preamble.generation found.frames.gate (c.requires.rest told));
      entries = refl;
      count = long;
      is_open = refl;
    }
