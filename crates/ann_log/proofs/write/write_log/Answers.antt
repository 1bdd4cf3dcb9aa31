use Rattle.std.proofs.Common.{◌≡◌, ◌∙◌, ◌-◌, length, ap, subst}
use Rattle.ann_disk.proofs.Moments.{weaker}
use Rattle.ann_preamble.specs.Written.{preamble_bytes, IsReadAgain}
use Rattle.ann_log.specs.Anew.{HasWritten, IsFilled, opened, IsFrontOrWhole, IsFrontOrText, held_in}
use Rattle.ann_log.specs.Text.{said_in}
use Rattle.ann_log.proofs.Results.{if_ok}
use Rattle.ann_log.proofs.Texts.{is_head, written_over, book_again, text_held, is_written, whole_text, front_text}
use Rattle.ann_log.proofs.write.write_log.Goals as goal

pub rewrite-requires : goal.rewrite-requires
rewrite-requires g c = record {
  head =
      is_head c.args.params.now c.args.generation c.args.base.now c.args.book.now.bytes c.deref.result.now
      (written_over c.args.params.now c.args.generation c.args.base.now c.args.book.now.bytes c.args.room.now.preamble.len c.args.room.now.preamble.items c.deref_mut.result.now c.write.new.out c.deref.result.now c.bytes.result.now c.args.params.now.d c.args.params.now.m
      c.requires.said.book c.requires.room.for_preamble c.deref_mut.ensures.value c.deref_mut.ensures.len c.bytes.ensures c.write.ensures.written c.deref.ensures.value);
  each = c.requires.each;
  room = ap length c.deref_mut-2.ensures.value ∙ c.requires.room.for_frame;
}

pub returns-clause-written : goal.returns-clause-written
returns-clause-written g c =
    let D = g.F.LogFile in
    let new = c.rewrite.new.file in
    let head : c.deref.result.now ≡ preamble_bytes 0 c.args.params.now c.args.generation c.args.base.now c.args.book.now.bytes 0 = written_over c.args.params.now c.args.generation c.args.base.now c.args.book.now.bytes c.args.room.now.preamble.len c.args.room.now.preamble.items c.deref_mut.result.now c.write.new.out c.deref.result.now c.bytes.result.now c.args.params.now.d c.args.params.now.m
    c.requires.said.book c.requires.room.for_preamble c.deref_mut.ensures.value c.deref_mut.ensures.len c.bytes.ensures c.write.ensures.written c.deref.ensures.value in
    let again : IsReadAgain c.args.params.now c.args.generation c.args.base.now c.args.book.now.bytes = subst (λ b. IsReadAgain c.args.params.now c.args.generation c.args.base.now b) c.bytes.ensures c.write.ensures.read_back in
    let same = book_again c.args.params.now c.args.book.now c.known.ensures c.requires.said.sizes in
    let held = held_in c.args.params.now c.args.book.now c.args.base.now c.args.entries.now in
    if_ok c.rewrite.result (IsFilled D c.args.params.now.d (length c.deref.result.now - 1) (opened c.deref.result.now) c.args.entries.now new) (HasWritten D held c.args.generation new)
    (λ gate filled. record {
      text = text_held c.args.params.now c.args.generation c.args.base.now c.args.book.now c.requires.said c.requires.generation again same c.deref.result.now head D.tells c.args.entries.now gate (D.seen new) filled.held;
      written = λ told. is_written c.args.params.now c.args.generation c.args.base.now c.args.book.now c.requires.said c.requires.generation again same c.deref.result.now head D.tells c.args.entries.now gate (D.seen new) filled.held told;
      rest = filled.rest;
    }) c.rewrite.ensures.filled

pub returns-clause-left : goal.returns-clause-left
returns-clause-left g c =
    let D = g.F.LogFile in
    let old = c.args.file.now in
    let new = c.rewrite.new.file in
    let s = said_in c.args.params.now c.args.book.now c.args.base.now c.args.generation in
    let head : c.deref.result.now ≡ preamble_bytes 0 c.args.params.now c.args.generation c.args.base.now c.args.book.now.bytes 0 = written_over c.args.params.now c.args.generation c.args.base.now c.args.book.now.bytes c.args.room.now.preamble.len c.args.room.now.preamble.items c.deref_mut.result.now c.write.new.out c.deref.result.now c.bytes.result.now c.args.params.now.d c.args.params.now.m
    c.requires.said.book c.requires.room.for_preamble c.deref_mut.ensures.value c.deref_mut.ensures.len c.bytes.ensures c.write.ensures.written c.deref.ensures.value in
    let again : IsReadAgain c.args.params.now c.args.generation c.args.base.now c.args.book.now.bytes = subst (λ b. IsReadAgain c.args.params.now c.args.generation c.args.base.now b) c.bytes.ensures c.write.ensures.read_back in
    let same = book_again c.args.params.now c.args.book.now c.known.ensures c.requires.said.sizes in
    record {
      during = λ told.
          weaker D.past D.unsynced old new (IsFrontOrWhole (D.unsynced old) c.args.params.now.d c.deref.result.now c.args.entries.now) (IsFrontOrText (D.unsynced old) s c.args.entries.now)
          (λ image is. front_text c.args.params.now c.args.generation c.args.base.now c.args.book.now c.requires.said c.requires.generation again same c.deref.result.now head c.args.entries.now (D.unsynced old) image is) (c.rewrite.ensures.left.during told);
      read = λ told unmade.
          whole_text c.args.params.now c.args.generation c.args.base.now c.args.book.now c.requires.said c.requires.generation again same c.deref.result.now head c.args.entries.now (D.seen new) (c.rewrite.ensures.left.read told unmade);
    }
