use Rattle.std.proofs.Common.{inl, inr, List, ℕ, refl}
use Rattle.ann_disk.specs.Image.{Unsynced}
use Rattle.ann_preamble.specs.Preamble.{no_base}
use Rattle.ann_types.specs.declared.params.Params.{Params}
use Rattle.ann_log.specs.LogView.{files_of}
use Rattle.ann_log.specs.Making.{base_alone, HoldsNothing, IsNothingOr, IsMade, IsNotMade}
use Rattle.ann_pq.specs.Format.{codebook}
use Rattle.ann_log.specs.Text.{said_of}
use Rattle.ann_log.proofs.Pairs.{weaker_pairs}
use Rattle.ann_log.proofs.Results.{if_ok, if_err}
use Rattle.ann_log.proofs.log.Log.make.Goals as goal

-- with an empty base the base alone is an empty index
empty_alone : (u v : Unsynced) (p : Params) (book : List ℕ) (a b : List ℕ) → IsNothingOr u v (base_alone p book no_base) a b → HoldsNothing a b
empty_alone u v p book a b (inl none) = inl none
empty_alone u v p book a b (inr (inl empty)) = inr empty.0
empty_alone u v p book a b (inr (inr (generation, is))) = inr (said_of (base_alone p book no_base) generation, refl, is)

pub returns-clause-made : goal.returns-clause-made
returns-clause-made g c =
    let D = g.F.LogFile in
    let old = c.args.files in
    let params = c.args.params.now in
    let book = c.args.book.now in
    let P = IsNothingOr (D.unsynced old.first) (D.unsynced old.second) (base_alone params book no_base) in
    let shown = codebook params.d params.m book in
    if_ok c.make_based.result (IsMade D old params shown no_base P) (IsMade D old params shown no_base HoldsNothing)
    (λ log is. record {
      none = is.none;
      held = is.held;
      constant = is.constant;
      written = is.written;
      during = λ told nothing. weaker_pairs D.past D.unsynced old (files_of log) P HoldsNothing (empty_alone (D.unsynced old.first) (D.unsynced old.second) params book) (is.during told nothing);
      after = is.after;
      calm = is.calm;
    })
    c.make_based.ensures.made

pub returns-clause-refused : goal.returns-clause-refused
returns-clause-refused g c =
    let D = g.F.LogFile in
    let old = c.args.files in
    let params = c.args.params.now in
    let book = c.args.book.now in
    let held = base_alone params book no_base in
    let P = IsNothingOr (D.unsynced old.first) (D.unsynced old.second) held in
    if_err c.make_based.result (λ refused. IsNotMade D old held P refused.files refused.why) (λ refused. IsNotMade D old held HoldsNothing refused.files refused.why)
    (λ refused is. record {
      refused = is.refused;
      during = λ told nothing. weaker_pairs D.past D.unsynced old refused.files P HoldsNothing (empty_alone (D.unsynced old.first) (D.unsynced old.second) params book) (is.during told nothing);
      cause = is.cause;
    })
    c.make_based.ensures.refused
