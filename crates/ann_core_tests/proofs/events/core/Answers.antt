use Rattle.std.proofs.Common.{◌≡◌, ◌∙◌, ℕ, List, sym, ap}
use Rattle.ann_pq.specs.Format.{fault}
use Rattle.ann_core_tests.proofs.events.core.Goals as goal

pub new-requires : goal.new-requires
new-requires c =
    let bytes = c.in_ok-bytes.bytes.items in
    let sizes = c.in_ok-params.ensures in
    record {
      book =
          ap (λ (n : ℕ). fault n c.in_ok-params.params.m c.deref-in-Ok.result.now) sizes.0
          ∙ ap (λ (n : ℕ). fault 1 n c.deref-in-Ok.result.now) sizes.1
          ∙ ap (λ (t : List ℕ). fault 1 1 t) (c.deref-in-Ok.ensures.value ∙ sym c.deref.ensures.value)
          ∙ sym c.in-Ok.ensures.refused;
    }
