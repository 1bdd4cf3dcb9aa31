use Rattle.std.proofs.Common.{inl}
use Rattle.ann_disk.specs.File.{BeginsAnImage}
use Rattle.ann_disk.specs.Image.{IsImage}
use Rattle.ann_log.specs.Anew.{IsFrontOrText}
use Rattle.ann_log.specs.Making.{held_with, IsNothingOr, AreWritten}
use Rattle.ann_log.specs.Text.{said_in}
use Rattle.ann_log.proofs.Nothing.{neither_made, no_preambles, left_cut, left_written, left_read}
use Rattle.ann_log.proofs.Pairs.{idle, at_once}
use Rattle.ann_log.proofs.Results.{if_ok}
use Rattle.ann_log.proofs.Writing.{cut_unmade}
use Rattle.ann_log.proofs.make.write_both.Goals as goal

pub returns-in_err-cut_any-clause-left : goal.returns-in_err-cut_any-clause-left
returns-in_err-cut_any-clause-left g c = record {
  during = λ told nothing.
      let D = g.F.LogFile in
      let old = c.args.files.now in
      let u = D.unsynced old.first in
      let v = D.unsynced old.second in
      let held = held_with c.args.params.now c.args.book.now c.args.base.now in
      at_once D.past D.unsynced old (record { first = old.first; second = c.cut_any.new.file }) (IsImage u) (BeginsAnImage v) (IsNothingOr u v held)
      (λ a b is begins. left_cut u v (D.seen old.first) (D.seen old.second) (g.met.F.LogFile.reads_an_image old.first told) (g.met.F.LogFile.reads_an_image old.second told) (c.requires.none told) nothing held 1 a b is begins)
      (idle D.past D.unsynced old.first (IsImage u) (λ image is. is))
      (c.cut_any.ensures.during told);
  read = λ told.
      let D = g.F.LogFile in
      let old = c.args.files.now in
      let none = neither_made (D.seen old.first) (D.seen old.second) (c.requires.none told) in
      inl (no_preambles (D.seen old.first) (D.seen c.cut_any.new.file) none.0 (cut_unmade (D.seen old.second) (D.seen c.cut_any.new.file) (c.cut_any.ensures.torn told) none.1));
}

pub returns-clause-left : goal.returns-clause-left
returns-clause-left g c = record {
  during = λ told nothing.
      let D = g.F.LogFile in
      let old = c.args.files.now in
      let u = D.unsynced old.first in
      let v = D.unsynced old.second in
      let held = held_with c.args.params.now c.args.book.now c.args.base.now in
      at_once D.past D.unsynced old (record { first = c.write_log.new.file; second = c.cut_any.new.file }) (IsFrontOrText u (said_in c.args.params.now c.args.book.now c.args.base.now 1) held.entries) (BeginsAnImage v) (IsNothingOr u v held)
      (λ a b is begins. left_written u v (D.seen old.first) (D.seen old.second) (g.met.F.LogFile.reads_an_image old.first told) (g.met.F.LogFile.reads_an_image old.second told) (c.requires.none told) nothing held 1 a b is begins)
      (c.write_log.ensures.left.during told)
      (c.cut_any.ensures.during told);
  read = λ told.
      let D = g.F.LogFile in
      let old = c.args.files.now in
      let none = neither_made (D.seen old.first) (D.seen old.second) (c.requires.none told) in
      left_read (held_with c.args.params.now c.args.book.now c.args.base.now) 1 (D.seen c.write_log.new.file) (D.seen c.cut_any.new.file) (c.write_log.ensures.left.read told none.0)
      (cut_unmade (D.seen old.second) (D.seen c.cut_any.new.file) (c.cut_any.ensures.torn told) none.1);
}

pub returns-clause-written : goal.returns-clause-written
returns-clause-written g c =
    let D = g.F.LogFile in
    if_ok c.write_log.result _ (AreWritten D (held_with c.args.params.now c.args.book.now c.args.base.now) (record { first = c.write_log.new.file; second = c.cut_any.new.file }))
    (λ gate is. record { first = is; second = c.in_ok-cut_any.ensures.written; rest = c.in_ok-cut_any.ensures.rest }) c.write_log.ensures.written
