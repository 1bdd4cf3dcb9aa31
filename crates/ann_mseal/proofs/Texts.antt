-- What is sealed is the text of the merged graph.
use Rattle.std.proofs.Common.{◌≡◌, ℕ, ◌+◌, ◌*◌, ◌/◌, ◌≤◌, List, ◌++◌, sym, ap, ◌∙◌, arith, length}
use Rattle.std.specs.Prelude.{Option}
use Rattle.std.specs.List.{flat_map}
use Rattle.std.proofs.lemmas.List.{take_all}
use Rattle.ann_types.specs.Codes.{Book}
use Rattle.ann_types.specs.Graph.{Point, Graph}
use Rattle.ann_types.specs.Merge.{patch_phase}
use Rattle.ann_block.specs.declared.header.Header.{Header}
use Rattle.ann_segment.specs.Segment.{IsEntryOf}
use Rattle.ann_segment.specs.Text.{front_bytes, header_for, node_for, segment_text}
use Rattle.ann_segment.specs.Writer.{SealsText, WriterView}
use Rattle.ann_mpatch.specs.Plan.{IsPlan}
use Rattle.ann_mpatch.specs.declared.plan.PatchPlan.{PatchPlan}
use Rattle.ann_mseal.specs.Ends.{SealsMerged}
use Rattle.ann_mseal.specs.Merged.{merged_header, merged_items}
use Rattle.ann_mseal.specs.Pieces.{piece_count}
use Rattle.ann_mseal.specs.Written.{IsDrafted}
use Rattle.ann_mseal.proofs.Headed.{header_merged, points_count}
use Rattle.ann_mseal.proofs.Items.{items_merged}

-- the pieces have all rows
enough : (rows : ℕ) → rows ≤ 256 * ((rows + 255) / 256)
enough rows = omega arith

pub merged_text : {S D : Type 0} (bytes : S → List ℕ) (book : Book) (plan : PatchPlan S) (entry : Option ℕ) (number : ℕ) (writer : WriterView D) (drafted sealed : List ℕ) → IsPlan plan → IsEntryOf (length plan.decoded) entry → writer.header ≡ merged_header plan entry number → writer.items ≡ merged_items book plan → IsDrafted bytes plan (front_bytes writer.header writer.items) (256 * piece_count plan) drafted → SealsText writer drafted sealed → SealsMerged bytes book plan entry number sealed
merged_text bytes book plan entry number writer drafted sealed w is header items draft seals = λ index lti base new p held same entered.
    let graph : Graph = patch_phase index base new in
    let own : writer.header.number ≡ number = ap (λ (h : Header). h.number) header in
    let few : length graph.points ≤ 256 * piece_count plan = (let size = points_count plan index lti base new p in let all = enough (length plan.decoded) in omega arith) in
    seals index.params index.book graph
    (header ∙ header_merged plan index lti base new p entry number is entered ∙ ap (header_for index.params graph) (sym own))
    (items ∙ ap (λ (b : Book). merged_items b plan) (sym same) ∙ items_merged bytes index lti plan w base new p held)
    (draft.blocks index lti base new p held ∙ ap (λ (t : List Point). front_bytes writer.header writer.items ++ flat_map (node_for graph.points) t) (take_all (256 * piece_count plan) graph.points few))
    ∙ ap (segment_text index.params index.book graph) own
