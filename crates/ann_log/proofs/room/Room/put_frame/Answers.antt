use Rattle.std.proofs.Common.{◌≡◌, ◌++◌, ◌∷◌, [], ℕ, List, length, take, ap, ◌∙◌, arith, length-append}
use Rattle.ann_bytes.specs.LittleEndian.{with_field}
use Rattle.ann_frame.specs.Frames.{frame_bytes}
use Rattle.ann_frame.proofs.Filling.{sizes_most}
use Rattle.ann_log.proofs.Buffers.{lent, front_written}
use Rattle.ann_log.proofs.room.Room.put_frame.Goals as goal

pub write_frame-requires-clause-short : goal.write_frame-requires-clause-short
write_frame-requires-clause-short c =
    let most = sizes_most c.args.d 64 c.args.entries.now c.requires.components c.requires.few in
    let small = c.ranges.d.fits in
    omega (arith, most, small)

pub write_frame-requires-clause-room : goal.write_frame-requires-clause-room
write_frame-requires-clause-room c =
    let most = sizes_most c.args.d 64 c.args.entries.now c.requires.components c.requires.few in
    let room = c.requires.room.for_frame in
    let len = ap length c.deref_mut.ensures.value in
    omega (arith, most, room, len)

pub returns-clause-written : goal.returns-clause-written
returns-clause-written c =
    let new : List ℕ = frame_bytes c.args.entries.now ++ 0 ∷ [] in
    let old : List ℕ = c.deref_mut.result.now in
    let size = c.write_frame.ensures.size in
    let whole = length-append (frame_bytes c.args.entries.now) (0 ∷ []) in
    let long : c.write_frame.result ≡ length new = omega (arith, size, whole) in
    ap (take c.write_frame.result) (lent c.args.self.now.frame.len c.write_frame.new.out c.args.self.now.frame.items (omega arith) (omega arith) ∙ c.write_frame.ensures.written)
    ∙ ap (λ (k : ℕ). take k (with_field old 0 new)) long
    ∙ front_written old new

pub returns-clause-each : goal.returns-clause-each
returns-clause-each c = c.write_frame.ensures.each c.args.d c.requires.components
