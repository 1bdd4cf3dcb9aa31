use Rattle.std.proofs.Common.{◌≡◌, ◌+◌, true, false, refl, ◌∙◌, ap, subst, arith, length, take, length-append, ◌++◌, ◌∷◌, []}
use Rattle.ann_log.specs.Appended.{HasAppended, HasNotAppended}
use Rattle.ann_log.specs.LogView.{IsBeforeOrAfter, held_of, files_in, files_of}
use Rattle.ann_log.specs.Pairs.{LeavePairs}
use Rattle.ann_log.proofs.Appending.{view_then, held_then, ready_in, stored_sound, stored_list, stored_after, stored_bytes, failed_sound, failed_list, while_stored}
use Rattle.ann_log.proofs.log.Log.append.Goals as goal

pub invariant_of-self : goal.invariant_of-self
invariant_of-self g c =
    let D = g.F.LogFile in
    let i = c.self.inside in
    let put = c.put_frame-length in
    let held = held_then i.params i.book i.base i.generation i.count (D.seen i.log) in
    let bytes = take put.result c.deref.result.now in
    let ready = ready_in D i.side i.params i.book i.base i.generation i.log i.other i.gate i.count i.closed c.args.self.now c.self.view_is c.self.invariant.0 c.requires.open c.args.entries.now c.requires.fits put.result bytes
    put.ensures.each put.ensures.short put.ensures.size (ap (take put.result) c.deref.ensures.value ∙ put.ensures.written) in
    let new = c.store_frame.new.file in
    (stored_sound D i.side held i.generation i.log i.other i.gate i.count i.closed c.args.entries.now put.result bytes ready new c.in-Ok.ensures.stored, put.ensures.room)

pub invariant_of-self-in-Err : goal.invariant_of-self-in-Err
invariant_of-self-in-Err g c =
    let D = g.F.LogFile in
    let i = c.self.inside in
    let put = c.put_frame-length in
    let held = held_then i.params i.book i.base i.generation i.count (D.seen i.log) in
    let bytes = take put.result c.deref.result.now in
    let ready = ready_in D i.side i.params i.book i.base i.generation i.log i.other i.gate i.count i.closed c.args.self.now c.self.view_is c.self.invariant.0 c.requires.open c.args.entries.now c.requires.fits put.result bytes
    put.ensures.each put.ensures.short put.ensures.size (ap (take put.result) c.deref.ensures.value ∙ put.ensures.written) in
    let new = c.store_frame.new.file in
    (failed_sound D i.side held i.generation i.log i.other i.gate i.count i.closed c.args.entries.now put.result bytes ready new (g.met.F.LogFile.reads_an_image new) c.store_frame.ensures.during, put.ensures.room)

pub returns-in-Ok-clause-appended : goal.returns-in-Ok-clause-appended
returns-in-Ok-clause-appended g c =
    let D = g.F.LogFile in
    let i = c.self.inside in
    let put = c.put_frame-length in
    let held = held_then i.params i.book i.base i.generation i.count (D.seen i.log) in
    let bytes = take put.result c.deref.result.now in
    let ready = ready_in D i.side i.params i.book i.base i.generation i.log i.other i.gate i.count i.closed c.args.self.now c.self.view_is c.self.invariant.0 c.requires.open c.args.entries.now c.requires.fits put.result bytes
    put.ensures.each put.ensures.short put.ensures.size (ap (take put.result) c.deref.ensures.value ∙ put.ensures.written) in
    let new = c.store_frame.new.file in
    let is = c.in-Ok.ensures.stored in
    subst (λ view. HasAppended D view c.args.entries.now (view_then D i.side i.params i.book i.base i.generation new i.other (i.count + length c.args.entries.now) i.closed)) c.self.view_is
    (record {
      appended = λ told. ap (λ list. record { params = i.params; book = i.book; base = i.base; entries = list }) (stored_list D i.side held i.generation i.log i.other i.gate i.count i.closed c.args.entries.now put.result bytes ready new is told);
      count = refl;
      stored = stored_bytes D i.side held i.generation i.log i.other i.gate i.count i.closed c.args.entries.now put.result bytes ready new is;
      after = λ told. stored_after D i.side held i.generation i.log i.other i.gate i.count i.closed c.args.entries.now put.result bytes ready new is told;
      calm = c.in-Ok.ensures.cause.calm;
    })

pub returns-in-Ok-clause-during : goal.returns-in-Ok-clause-during
returns-in-Ok-clause-during g c told =
    let D = g.F.LogFile in
    let i = c.self.inside in
    let put = c.put_frame-length in
    let held = held_then i.params i.book i.base i.generation i.count (D.seen i.log) in
    let bytes = take put.result c.deref.result.now in
    let ready = ready_in D i.side i.params i.book i.base i.generation i.log i.other i.gate i.count i.closed c.args.self.now c.self.view_is c.self.invariant.0 c.requires.open c.args.entries.now c.requires.fits put.result bytes
    put.ensures.each put.ensures.short put.ensures.size (ap (take put.result) c.deref.ensures.value ∙ put.ensures.written) in
    let new = c.store_frame.new.file in
    subst (λ view. LeavePairs D.past D.unsynced (files_of view) (files_in i.side new i.other) (IsBeforeOrAfter (held_of view) c.args.entries.now)) c.self.view_is
    (while_stored D i.side held i.generation i.log i.other i.gate i.count i.closed c.args.entries.now put.result bytes ready new c.store_frame.ensures.during told)

pub returns-in-Err-clause-kept : goal.returns-in-Err-clause-kept
returns-in-Err-clause-kept g c =
    let D = g.F.LogFile in
    let i = c.self.inside in
    let put = c.put_frame-length in
    let held = held_then i.params i.book i.base i.generation i.count (D.seen i.log) in
    let bytes = take put.result c.deref.result.now in
    let ready = ready_in D i.side i.params i.book i.base i.generation i.log i.other i.gate i.count i.closed c.args.self.now c.self.view_is c.self.invariant.0 c.requires.open c.args.entries.now c.requires.fits put.result bytes
    put.ensures.each put.ensures.short put.ensures.size (ap (take put.result) c.deref.ensures.value ∙ put.ensures.written) in
    let new = c.store_frame.new.file in
    subst (λ view. HasNotAppended D view (view_then D i.side i.params i.book i.base i.generation new i.other i.count true)) c.self.view_is
    (record {
      kept = λ told. ap (λ list. record { params = i.params; book = i.book; base = i.base; entries = list }) (failed_list D i.side held i.generation i.log i.other i.gate i.count i.closed c.args.entries.now put.result bytes ready new (g.met.F.LogFile.reads_an_image new) c.store_frame.ensures.during told);
      count = refl;
      fault = c.in-Err.ensures.cause.failed;
    })

pub returns-in-Err-clause-during : goal.returns-in-Err-clause-during
returns-in-Err-clause-during g c told =
    let D = g.F.LogFile in
    let i = c.self.inside in
    let put = c.put_frame-length in
    let held = held_then i.params i.book i.base i.generation i.count (D.seen i.log) in
    let bytes = take put.result c.deref.result.now in
    let ready = ready_in D i.side i.params i.book i.base i.generation i.log i.other i.gate i.count i.closed c.args.self.now c.self.view_is c.self.invariant.0 c.requires.open c.args.entries.now c.requires.fits put.result bytes
    put.ensures.each put.ensures.short put.ensures.size (ap (take put.result) c.deref.ensures.value ∙ put.ensures.written) in
    let new = c.store_frame.new.file in
    subst (λ view. LeavePairs D.past D.unsynced (files_of view) (files_in i.side new i.other) (IsBeforeOrAfter (held_of view) c.args.entries.now)) c.self.view_is
    (while_stored D i.side held i.generation i.log i.other i.gate i.count i.closed c.args.entries.now put.result bytes ready new c.store_frame.ensures.during told)

pub store_frame-requires : goal.store_frame-requires
store_frame-requires g c =
    let closed : c.self.inside.closed ≡ false = ap (λ v. v.is_closed) c.self.view_is ∙ c.requires.open in
    let sound = c.self.invariant.0 in
    record {
      place = λ told. let rest = sound.rest told closed in
          omega (arith, ap length {y = rest.head ++ (rest.front ++ rest.shown ∷ [])} rest.spelled, length-append rest.head (rest.front ++ rest.shown ∷ []), length-append rest.front (rest.shown ∷ []), rest.end);
      rest = λ told. (sound.rest told closed).log_synced;
      end = sound.end;
    }

pub overflow_add-self-in-Ok : goal.overflow_add-self-in-Ok
overflow_add-self-in-Ok g c =
    let sound = c.self.invariant.0 in
    record { fits = omega (arith, sound.few, sound.end, c.requires.fits.few) }
