use Rattle.std.proofs.Common.{◌≡◌, ◌∙◌, None, true, ℕ, List, inr, refl, ap, subst, sym}
use Rattle.ann_types.specs.declared.params.Params.{Params}
use Rattle.ann_pq.specs.Codebook.{CodebookView}
use Rattle.ann_pq.specs.Format.{fault, codebook}
use Rattle.ann_preamble.specs.Base.{is_base}
use Rattle.ann_preamble.specs.declared.base.Base.{Base}
use Rattle.ann_log.specs.Anew.{IsWritten}
use Rattle.ann_log.specs.Causes.{AreCalm}
use Rattle.ann_log.specs.LogView.{IsSaid}
use Rattle.ann_log.specs.Text.{IsNoIndex, said_in}
use Rattle.ann_log.specs.Making.{base_alone, held_with, IsFresh, IsNothingOr, IsNoIndexOr}
use Rattle.ann_log.specs.Pairs.{LeavePairs}
use Rattle.ann_log.proofs.Beginnings.{while_read, after_read, unmade_read}
use Rattle.ann_log.proofs.Faults.{calm_behind, fault_behind}
use Rattle.ann_log.proofs.log.Log.make_based.Goals as goal

pub returns-in-Err-clause-refused : goal.returns-in-Err-clause-refused
returns-in-Err-clause-refused g c =
    let D = g.F.LogFile in
    let old = c.args.files in
    let held = base_alone c.args.params.now c.args.book.now c.args.base.now in
    record {
      refused = λ told. unmade_read D.seen D.unsynced D.past old c.gather.new.files held c.in-Err.why (c.gather.ensures.same told) (c.in-Err.ensures.there told);
      during = λ told nothing. while_read D.past D.unsynced D.seen old c.gather.new.files (c.gather.ensures.same told) held nothing;
      cause = c.in-Err.ensures.cause.caused;
    }

pub returns-in-Ok-write_both-clause-made : goal.returns-in-Ok-write_both-clause-made
returns-in-Ok-write_both-clause-made g c =
    let D = g.F.LogFile in
    let old = c.args.files in
    let mid = c.gather.new.files in
    let new = c.write_both.new.files in
    let held = base_alone c.args.params.now c.args.book.now c.args.base.now in
    let book = c.in-Ok.ensures.gathered.book in
    let same = ap (λ b. held_with c.args.params.now b c.args.base.now) book in
    let now = c.fresh.ensures in
    let written = c.in-Ok-write_both.ensures.written in
    record {
      none = c.in-Ok.ensures.gathered.none;
      held = λ told. now.held told ∙ same;
      constant = subst (λ b. IsFresh c.args.params.now b c.args.base.now c.fresh.result) book now.constant;
      written = λ told. (
        subst (λ h. IsWritten h 1 (D.seen c.fresh.result.log)) (sym (now.held told))
            (subst (λ f. IsWritten (held_with c.args.params.now c.in-Ok.parts.0 c.args.base.now) 1 (D.seen f)) (sym now.files.1) (written.first.written told)),
        ap D.seen now.files.2 ∙ written.second told,
      );
      during = λ told nothing.
          subst (λ f. LeavePairs D.past D.unsynced old f (IsNothingOr (D.unsynced old.first) (D.unsynced old.second) held)) (sym now.files.0)
          (after_read D.past D.unsynced D.seen old mid (c.gather.ensures.same told) held nothing new
          (held_with c.args.params.now c.in-Ok.parts.0 c.args.base.now) same (c.write_both.ensures.left.during told));
      after = now.after;
      calm = subst (λ f. AreCalm D old f) (sym now.files.0) (calm_behind D old mid new c.in-Ok.ensures.cause.calm c.in-Ok-write_both.ensures.cause.calm);
    }

pub returns-in-Err-write_both-clause-refused : goal.returns-in-Err-write_both-clause-refused
returns-in-Err-write_both-clause-refused g c =
    let D = g.F.LogFile in
    let old = c.args.files in
    let mid = c.gather.new.files in
    let new = c.write_both.new.files in
    let held = base_alone c.args.params.now c.args.book.now c.args.base.now in
    let same = ap (λ b. held_with c.args.params.now b c.args.base.now) c.in-Ok.ensures.gathered.book in
    record {
      refused = λ told. inr (
        c.in-Ok.ensures.gathered.none told,
        subst (λ h. IsNoIndexOr h (D.seen new.first) (D.seen new.second)) same (c.write_both.ensures.left.read told),
      );
      during = λ told nothing.
          after_read D.past D.unsynced D.seen old mid (c.gather.ensures.same told) held nothing new
          (held_with c.args.params.now c.in-Ok.parts.0 c.args.base.now) same (c.write_both.ensures.left.during told);
      cause = record {
        fault = λ so. fault_behind D old mid new c.in-Ok.ensures.cause.calm c.in-Err-write_both.ensures.cause.failed;
        calm = λ no. absurd (no refl);
      };
    }

-- what the first preamble of an index says, with a codebook that was read from these bytes
first_said : (params : Params) (bytes : List ℕ) (base : Base) (book : CodebookView) → is_base base ≡ true → fault params.d params.m bytes ≡ None → book ≡ codebook params.d params.m bytes → IsSaid (said_in params book base 1)
first_said params bytes base book good sound is = subst (λ b. IsSaid (said_in params b base 1)) (sym is) (record { base = good; book = sound; sizes = (refl, refl) })

pub write_both-requires-clause-none : goal.write_both-requires-clause-none
write_both-requires-clause-none g c told =
    let D = g.F.LogFile in
    let old = c.args.files in
    let same = c.gather.ensures.same told in
    subst (λ l. IsNoIndex l (D.seen c.gather.new.files.second)) (sym same.0.reads)
    (subst (λ l. IsNoIndex (D.seen old.first) l) (sym same.1.reads) (c.in-Ok.ensures.gathered.none told))

pub write_both-requires-clause-room : goal.write_both-requires-clause-room
write_both-requires-clause-room g c = c.in-Ok.ensures.gathered.room

pub write_both-requires-clause-said : goal.write_both-requires-clause-said
write_both-requires-clause-said g c = first_said c.args.params.now c.args.book.now c.args.base.now c.in-Ok.parts.0 c.requires.base c.requires.book c.in-Ok.ensures.gathered.book

pub fresh-requires-clause-said : goal.fresh-requires-clause-said
fresh-requires-clause-said g c = first_said c.args.params.now c.args.book.now c.args.base.now c.in-Ok.parts.0 c.requires.base c.requires.book c.in-Ok.ensures.gathered.book

pub fresh-requires-clause-written : goal.fresh-requires-clause-written
fresh-requires-clause-written g c = c.in-Ok-write_both.ensures.written
