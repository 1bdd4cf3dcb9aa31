use Rattle.std.proofs.Common.{◌≡◌, ℕ, ◌<◌, List, [], ◌++◌, length, take, get_or, sym, ap, ◌∙◌, arith}
use Rattle.std.proofs.lemmas.List.{get_or-map, length-map, take_more}
use Rattle.ann_segment.specs.Directory.{Item, item_of, item_bytes, directory_bytes}
use Rattle.ann_segment.specs.declared.directory.Row.{Row}
use Rattle.ann_segment.proofs.Rows.{directory_none, directory_more}
use Rattle.ann_segment.proofs.directory.Directory.bytes.Goals as goal

abbrev shown : Row → Item
shown row = (row.pid, row.code.items)

pub loop-row-init : goal.loop-row-init
loop-row-init c = record { written = c.new-bytes.ensures.items ∙ sym directory_none }

pub loop-row-preserved : goal.loop-row-preserved
loop-row-preserved c =
    let rows = c.self.inside.rows.items in
    let at = c.loop-row.row-index in
    let item = c.row-item.result in
    let here : at < length rows = omega (arith, c.loop-row-test.true, ap length c.deref-row-items.ensures.value) in
    let long : length c.args.self.now ≡ length rows = ap length (sym c.self.view_is) ∙ length-map rows shown in
    let read : shown item ≡ item_of c.args.self.now at =
    ap shown c.row-item.is
    ∙ ap (λ (rs : List Row). shown (get_or rs at item)) c.deref-row-items.ensures.value
    ∙ sym (get_or-map shown rows at item (0, []) here)
    ∙ ap (λ (l : List Item). item_of l at) c.self.view_is in
    record {
      written =
          c.in_ok-append.ensures
          ∙ ap (λ (b : List ℕ). b ++ item_bytes (shown item)) c.loop-row.invariant.written
          ∙ ap (λ (i : Item). directory_bytes (take at c.args.self.now) ++ item_bytes i) read
          ∙ sym (directory_more (take at c.args.self.now) (item_of c.args.self.now at))
          ∙ ap directory_bytes (sym (take_more c.args.self.now at (0, []) (omega (arith, here, long))));
    }
