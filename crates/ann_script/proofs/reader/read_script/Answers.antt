use Rattle.std.proofs.Common.{◌≡◌, ◌≤◌, ◌<◌, ◌+◌, ◌∙◌, arith, take, length}
use Rattle.std.proofs.lemmas.List.{length-take}
use Rattle.std.proofs.lemmas.Result.{err_from_is_err_and}
use Rattle.ann_script.specs.Script.{limit}
use Rattle.ann_outside.proofs.Told.{tells_on}
use Rattle.ann_script.proofs.Inputs.{reading-more, reading-bad, reading-ended, reading-cut, reading-long, calm-finish, calm-take}
use Rattle.ann_script.proofs.reader.read_script.Goals as goal

pub returns-in-Err-clause-reads : goal.returns-in-Err-clause-reads
returns-in-Err-clause-reads g c = reading-cut c.args.rules (g.S.Source.left c.args.input.now) (g.S.Source.left c.loop-count.input) (g.S.Source.left c.read_chunk.new.input) c.loop-count.draft c.loop-count.count c.loop-count.invariant.reading c.in-Err.ensures.bytes c.loop-count.invariant.short

pub returns-in-Ok-eq0-clause-reads : goal.returns-in-Ok-eq0-clause-reads
returns-in-Ok-eq0-clause-reads g c = reading-ended c.args.rules (g.S.Source.left c.args.input.now) (g.S.Source.left c.loop-count.input) (g.S.Source.left c.read_chunk.new.input) c.loop-count.draft c.loop-count.count c.in-Ok-eq0.field-0 c.read_chunk.new.buffer c.finish.result c.loop-count.invariant.reading c.in-Ok-eq0.field-0-test c.in-Ok-eq0.ensures.bytes c.loop-count.invariant.short c.finish.ensures

pub returns-in_err-take-in-Ok-clause-reads : goal.returns-in_err-take-in-Ok-clause-reads
returns-in_err-take-in-Ok-clause-reads g c =
    let p = err_from_is_err_and c.from_residual.result c.from_residual.ensures.1 in
    let within : c.loop-count.count + length (take c.in-Ok.taken c.read_chunk.new.buffer) ≤ limit = omega (arith, length-take c.in-Ok.taken c.read_chunk.new.buffer, c.in-Ok.ensures.bound, c.min-room.ensures, c.loop-count.invariant.short) in
    rw (p.1, p.2) (reading-bad c.args.rules (g.S.Source.left c.args.input.now) (g.S.Source.left c.loop-count.input) (g.S.Source.left c.read_chunk.new.input) c.loop-count.draft c.take.new.self c.loop-count.count (take c.in-Ok.taken c.read_chunk.new.buffer) c.in_err-take-in-Ok.field-0.0 c.loop-count.invariant.reading c.in-Ok.ensures.bytes.0 within c.in_err-take-in-Ok.ensures)

pub loop-count-preserved : goal.loop-count-preserved
loop-count-preserved g c =
    let long : length (take c.in-Ok.taken c.read_chunk.new.buffer) ≡ c.in-Ok.taken = omega (arith, length-take c.in-Ok.taken c.read_chunk.new.buffer, c.in-Ok.ensures.held) in
    record {
      reading = reading-more c.args.rules (g.S.Source.left c.args.input.now) (g.S.Source.left c.loop-count.input) (g.S.Source.left c.read_chunk.new.input) c.loop-count.draft c.take.new.self c.loop-count.count c.in-Ok.taken (take c.in-Ok.taken c.read_chunk.new.buffer) c.loop-count.invariant.reading c.in-Ok.ensures.bytes.0 c.in_ok-take-in-Ok.ensures long;
      short = omega (arith, c.in-Ok.ensures.bound, c.min-room.ensures, c.loop-count.invariant.short);
      told = tells_on _ _ _ c.loop-count.invariant.told c.read_chunk.ensures.tells;
      calm = c.in-Ok.ensures.cause.calm ∙ c.loop-count.invariant.calm;
    }

pub returns-in-Err-read_chunk-clause-reads : goal.returns-in-Err-read_chunk-clause-reads
returns-in-Err-read_chunk-clause-reads g c = reading-cut c.args.rules (g.S.Source.left c.args.input.now) (g.S.Source.left c.loop-count.input) (g.S.Source.left c.read_chunk-2.new.input) c.loop-count.draft c.loop-count.count c.loop-count.invariant.reading c.in-Err-read_chunk.ensures.bytes c.loop-count.invariant.short

pub returns-in-Ok-eq0-read_chunk-clause-reads : goal.returns-in-Ok-eq0-read_chunk-clause-reads
returns-in-Ok-eq0-read_chunk-clause-reads g c = reading-ended c.args.rules (g.S.Source.left c.args.input.now) (g.S.Source.left c.loop-count.input) (g.S.Source.left c.read_chunk-2.new.input) c.loop-count.draft c.loop-count.count c.in-Ok-eq0-read_chunk.field-0 c.read_chunk-2.new.buffer c.finish-in-Ok-eq0-read_chunk.result c.loop-count.invariant.reading c.in-Ok-eq0-read_chunk.field-0-test c.in-Ok-eq0-read_chunk.ensures.bytes c.loop-count.invariant.short c.finish-in-Ok-eq0-read_chunk.ensures

pub returns-in-Ok-read_chunk-clause-reads : goal.returns-in-Ok-read_chunk-clause-reads
returns-in-Ok-read_chunk-clause-reads g c =
    let full : c.loop-count.count ≡ limit = omega (arith, c.loop-count-test.false, c.loop-count.invariant.short) in
    let some : 0 < length (take c.in-Ok-read_chunk.field-0 c.read_chunk-2.new.buffer) = omega (arith, length-take c.in-Ok-read_chunk.field-0 c.read_chunk-2.new.buffer, c.in-Ok-read_chunk.ensures.held, c.in-Ok-read_chunk.field-0-test) in
    let one : length (take c.in-Ok-read_chunk.field-0 c.read_chunk-2.new.buffer) ≤ 1 = omega (arith, length-take c.in-Ok-read_chunk.field-0 c.read_chunk-2.new.buffer, c.in-Ok-read_chunk.ensures.bound) in
    rw c.number.ensures (reading-long c.args.rules (g.S.Source.left c.args.input.now) (g.S.Source.left c.loop-count.input) (g.S.Source.left c.read_chunk-2.new.input) c.loop-count.draft c.loop-count.count (take c.in-Ok-read_chunk.field-0 c.read_chunk-2.new.buffer) c.loop-count.invariant.reading c.in-Ok-read_chunk.ensures.bytes.0 full some one)

pub returns-in-Ok-eq0-clause-count : goal.returns-in-Ok-eq0-clause-count
returns-in-Ok-eq0-clause-count g c = calm-finish _ _ c.loop-count.draft c.finish.result (c.in-Ok-eq0.ensures.cause.calm ∙ c.loop-count.invariant.calm) c.finish.ensures

pub returns-in_err-take-in-Ok-clause-count : goal.returns-in_err-take-in-Ok-clause-count
returns-in_err-take-in-Ok-clause-count g c =
    let p = err_from_is_err_and c.from_residual.result c.from_residual.ensures.1 in
    rw (p.1, p.2) (calm-take _ _ c.loop-count.draft c.take.new.self (take c.in-Ok.taken c.read_chunk.new.buffer) c.in_err-take-in-Ok.field-0.0 (c.in-Ok.ensures.cause.calm ∙ c.loop-count.invariant.calm) c.in_err-take-in-Ok.ensures)

pub returns-in-Ok-eq0-read_chunk-clause-count : goal.returns-in-Ok-eq0-read_chunk-clause-count
returns-in-Ok-eq0-read_chunk-clause-count g c = calm-finish _ _ c.loop-count.draft c.finish-in-Ok-eq0-read_chunk.result (c.in-Ok-eq0-read_chunk.ensures.cause.calm ∙ c.loop-count.invariant.calm) c.finish-in-Ok-eq0-read_chunk.ensures
