use Rattle.std.proofs.Common.{append_assoc, length-append, ◌∷◌, ◌++◌, [], ◌+◌, length, ap, sym, ◌∙◌, arith, take}
use Rattle.ann_disk.proofs.Images.{length-overwritten}
use Rattle.ann_disk.specs.File.{overwritten}
use Rattle.ann_frame.specs.Frames.{frame_bytes}
use Rattle.ann_frame.proofs.Filling.{sizes_most}
use Rattle.ann_log.proofs.Writing.{shut_by, at_front, frame_put}
use Rattle.ann_log.proofs.write.put_frame.Goals as goal

pub write_frame-size-requires-clause-short : goal.write_frame-size-requires-clause-short
write_frame-size-requires-clause-short g c =
    let most = sizes_most c.args.d 64 c.args.entries.now c.requires.each c.requires.few in omega (arith, most, c.ranges.d.fits)

pub write_frame-size-requires-clause-room : goal.write_frame-size-requires-clause-room
write_frame-size-requires-clause-room g c =
    let most = sizes_most c.args.d 64 c.args.entries.now c.requires.each c.requires.few in omega (arith, most, c.requires.room)

pub returns-in_err-write_at-clause-each : goal.returns-in_err-write_at-clause-each
returns-in_err-write_at-clause-each g c = c.write_frame-size.ensures.each c.args.d c.requires.each

pub returns-in_err-write_at-2-clause-each : goal.returns-in_err-write_at-2-clause-each
returns-in_err-write_at-2-clause-each g c = c.write_frame-size.ensures.each c.args.d c.requires.each

pub returns-clause-each : goal.returns-clause-each
returns-clause-each g c = c.write_frame-size.ensures.each c.args.d c.requires.each

pub returns-in_err-write_at-2-clause-still : goal.returns-in_err-write_at-2-clause-still
returns-in_err-write_at-2-clause-still g c = record {
  past = λ told. c.write_at-2.ensures.past told ∙ c.write_at.ensures.past told;
  shut = λ told. shut_by _ _ _ _ (c.write_at-2.ensures.images told) c.requires.behind.0 (shut_by _ _ _ _ (c.write_at.ensures.images told) (omega arith) (c.requires.shut told));
}

pub returns-clause-still : goal.returns-clause-still
returns-clause-still g c = record {
  past = λ told. c.write_at-2.ensures.past told ∙ c.write_at.ensures.past told;
  shut = λ told. shut_by _ _ _ _ (c.write_at-2.ensures.images told) c.requires.behind.0 (shut_by _ _ _ _ (c.write_at.ensures.images told) (omega arith) (c.requires.shut told));
}

pub write_at-requires : goal.write_at-requires
write_at-requires g c told = omega (arith, c.requires.place told)

pub write_at-requires-2 : goal.write_at-requires-2
write_at-requires-2 g c told = omega (arith, c.requires.place told, ap length (c.in_ok-write_at.ensures.written told) ∙ length-overwritten (g.F.LogFile.seen c.args.file.now) (c.args.gate + 1) _ (omega (arith, c.requires.place told)))

pub overflow_add-result : goal.overflow_add-result
overflow_add-result g c =
    let frame = frame_bytes c.args.entries.now in
    let written = ap length (at_front c.args.frame.now c.write_frame-size.new.out (frame ++ 0 ∷ []) c.write_frame-size.result c.write_frame-size.ensures.written (c.write_frame-size.ensures.size ∙ sym (length-append frame (0 ∷ [])))) in
    record { fits = omega (arith, c.in_ok-write_at.ensures.end, written, length-append frame (0 ∷ []), c.write_frame-size.ensures.size) }

pub returns-clause-put : goal.returns-clause-put
returns-clause-put g c =
    let frame = frame_bytes c.args.entries.now in
    let size = c.write_frame-size.ensures.size in
    let written = ap length (at_front c.args.frame.now c.write_frame-size.new.out (frame ++ 0 ∷ []) c.write_frame-size.result c.write_frame-size.ensures.written (size ∙ sym (length-append frame (0 ∷ [])))) in
    record {
      file = λ told.
          let front = take c.args.gate (g.F.LogFile.seen c.args.file.now) in
          let frame = frame_bytes c.args.entries.now in
          frame_put c.args.gate (g.F.LogFile.seen c.args.file.now) (frame ++ 0 ∷ []) (c.requires.place told) (g.F.LogFile.seen c.write_at.new.self) (g.F.LogFile.seen c.write_at-2.new.self)
          (c.in_ok-write_at.ensures.written told
          ∙ ap (overwritten (g.F.LogFile.seen c.args.file.now) (c.args.gate + 1)) (at_front c.args.frame.now c.write_frame-size.new.out (frame ++ 0 ∷ []) c.write_frame-size.result c.write_frame-size.ensures.written (c.write_frame-size.ensures.size ∙ sym (length-append frame (0 ∷ [])))))
          (c.in_ok-write_at-2.ensures.written told)
          ∙ sym (append_assoc front (1 ∷ frame) (0 ∷ []));
      place = omega (arith, size);
      end = omega (arith, c.in_ok-write_at.ensures.end, written, length-append frame (0 ∷ []), size);
    }
