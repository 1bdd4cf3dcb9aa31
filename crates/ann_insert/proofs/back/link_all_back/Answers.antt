use Rattle.std.proofs.Common.{◌≡◌, ◌<◌, ◌++◌, ◌∷◌, ◌+◌, [], ℕ, List, sym, ap, ◌∙◌, subst, arith, take, get_or}
use Rattle.std.proofs.lemmas.List.{take_all}
use Rattle.std.proofs.lemmas.List.Elements.{recursion_from_All}
use Rattle.ann_types.specs.Kept.{rule_of, within}
use Rattle.ann_types.proofs.Sets.{rises_from_increasing}
use Rattle.ann_types.specs.declared.params.Params.{Params}
use Rattle.ann_table.specs.Node.{Node, node_at, apart_rows, linked}
use Rattle.ann_insert.specs.Back.{IsBehind, AreSameButLinks, AreLinkedBack}
use Rattle.ann_insert.proofs.Changed.{pids_rise, same_linked, not_yet, one_linked, apart_of, apart_of_is}
use Rattle.ann_insert.proofs.back.link_all_back.Goals as goal

pub link_back-requires-clause-behind : goal.link_back-requires-clause-behind
link_back-requires-clause-behind c =
    let old : List Node = c.args.table.now.nodes in
    let rows : List ℕ = c.args.rows.now in
    let i : ℕ = c.loop-row.row-index in
    let below = c.requires.rows i 0 c.loop-row-test.true in
    let inside = c.requires.inside in
    let back = c.loop-row.invariant.linked (apart_of old) (apart_of_is c.args.table.now.params old c.known.ensures) in
    subst (λ (x : Node). IsBehind c.args.new x)
    (sym (back.others (get_or rows i 0) (omega arith) (not_yet rows i 0 (rises_from_increasing rows c.requires.distinct) c.loop-row-test.true)))
    (c.requires.behind i 0 c.loop-row-test.true)

pub loop-row-preserved : goal.loop-row-preserved
loop-row-preserved c =
    let params : Params = c.args.table.now.params in
    let old : List Node = c.args.table.now.nodes in
    let now : List Node = c.loop-row.table.nodes in
    let rows : List ℕ = c.args.rows.now in
    let i : ℕ = c.loop-row.row-index in
    let row : ℕ = get_or rows i 0 in
    let newer : ℕ = (node_at c.link_back.new.table.nodes row).newer in
    let below = c.requires.rows i 0 c.loop-row-test.true in
    let inside = c.requires.inside in
    let behind = c.requires.behind i 0 c.loop-row-test.true in
    let count = c.loop-row.invariant.same.count in
    let is : c.link_back.new.table.nodes ≡ linked now row (within (rule_of params) (apart_rows now) row ((node_at now row).links ++ c.args.new ∷ [])) newer =
    c.link_back.ensures.nodes ∙ ap (λ (ps : Params). linked now row (within (rule_of ps) (apart_rows now) row ((node_at now row).links ++ c.args.new ∷ [])) newer) c.loop-row.invariant.params in
    record {
      params = c.link_back.ensures.params ∙ c.loop-row.invariant.params;
      same = subst (AreSameButLinks old) (sym is) (same_linked old now row _ newer (omega arith) c.loop-row.invariant.same);
      linked = λ apart are.
          subst (AreLinkedBack (rule_of params) apart c.args.new (take (i + 1) rows) old) (sym is)
          (one_linked (rule_of params) apart c.args.new rows i 0 old now newer (pids_rise params old c.known.ensures) are c.loop-row.invariant.same inside c.loop-row-test.true (omega arith)
          (rises_from_increasing rows c.requires.distinct)
          (rises_from_increasing (node_at old row).links (c.known.ensures.each row (omega arith)).links.rising)
          (recursion_from_All (λ other. other < c.args.new) (node_at old row).links behind.above)
          (c.loop-row.invariant.linked apart are));
      empty = c.link_back.ensures.emptied;
      room = c.link_back.ensures.kept;
    }

pub returns-clause-linked : goal.returns-clause-linked
returns-clause-linked c apart are =
    let at_end = c.loop-row-test.false in
    let end = c.loop-row.auto.row-index-end in
    subst (λ t. AreLinkedBack (rule_of c.args.table.now.params) apart c.args.new t c.args.table.now.nodes c.loop-row.table.nodes)
    (take_all c.loop-row.row-index c.args.rows.now (omega arith)) (c.loop-row.invariant.linked apart are)
