use Rattle.std.proofs.Common.{◌≡◌, ◌++◌, ◌∷◌, [], ℕ, sym, ap, subst, ◌∙◌, arith, length}
use Rattle.std.specs.List.{All}
use Rattle.ann_types.specs.Codes.{Book, decoded}
use Rattle.ann_types.specs.Kept.{rule_of, kept}
use Rattle.ann_types.specs.declared.params.Params.{Params}
use Rattle.ann_types.specs.declared.new_point.NewPoint.{NewPoint}
use Rattle.ann_mdelete.specs.Decoded.{apart_of}
use Rattle.ann_minsert.specs.Base.{BaseView}
use Rattle.ann_minsert.specs.Links.{seen_rows, linked_rows}
use Rattle.ann_minsert.proofs.Linked.{links_are}
use Rattle.ann_minsert.proofs.linking.link.Goals as goal

pub keep-requires-clause-own : goal.keep-requires-clause-own
keep-requires-clause-own c =
    let own : length c.deref-2.result.now ≡ c.args.book.now.d = ap length c.deref-2.ensures.value ∙ c.in_ok-decode_own.ensures.length in
    let short = c.in_ok-decode_own.ensures.short in
    let is = ap length c.deref-2.ensures.value in
    record {
      same = subst (All (λ vector. length vector ≡ length c.deref-2.result.now)) (sym c.decoded-2.ensures) (subst (λ (n : ℕ). All (λ vector. length vector ≡ n) c.args.base.now.vectors) (sym own) c.requires.base);
      short = omega arith;
      few = (let few = c.requires.few in let same = ap length c.decoded-2.ensures in omega arith);
    }

pub returns-clause-linked : goal.returns-clause-linked
returns-clause-linked c =
    let params : Params = c.args.params.now in
    let book : Book = c.args.book.now.book in
    let b : BaseView = c.args.base.now in
    let x : NewPoint = c.args.point.now in
    let own : c.deref-2.result.now ≡ decoded book x.vector = c.deref-2.ensures.value ∙ c.in_ok-decode_own.ensures.own ∙ ap (decoded book) c.bytes-vector.ensures.components in
    let rows : c.gather_warm.new.candidates.rows ≡ seen_rows params b x.vector = c.in_ok-gather_warm.ensures ∙ c.deref.ensures.value ∙ c.in_ok-visit.ensures.visited ∙ ap (seen_rows params b) c.bytes-vector.ensures.components in
    let is : c.keep.new.out.items ≡ linked_rows params book b x =
    c.keep.ensures
    ∙ ap (λ vs. kept (rule_of params) (apart_of (vs ++ c.deref-2.result.now ∷ [])) (length vs) c.gather_warm.new.candidates.rows) c.decoded-2.ensures
    ∙ ap (λ o. kept (rule_of params) (apart_of (b.vectors ++ o ∷ [])) (length b.vectors) c.gather_warm.new.candidates.rows) own
    ∙ ap (kept (rule_of params) (apart_of (b.vectors ++ decoded book x.vector ∷ [])) (length b.vectors)) rows in
    links_are params book b c.known.ensures.base x c.keep.new.out.items is
