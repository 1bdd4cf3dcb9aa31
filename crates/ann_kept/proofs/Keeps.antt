-- What a vault holds for a list, whatever becomes of a number that the list doesn't name.
use Rattle.std.proofs.Common.{◌≢◌, ℕ, ◌+◌, ◌*◌, ◌<◌, ◌∙◌, arith}
use Rattle.ann_types.specs.Codes.{Book}
use Rattle.ann_types.specs.Fold.{fold_of}
use Rattle.ann_types.specs.Graph.{Graph}
use Rattle.ann_types.specs.Index.{Index}
use Rattle.ann_types.specs.Legal.{IsLegal}
use Rattle.ann_types.specs.Lists.{BasedList}
use Rattle.ann_types.specs.declared.params.Params.{Params}
use Rattle.ann_laws.proofs.Ended.{opens_at}
use Rattle.ann_vault.specs.Held.{Holding, MayBeRemoved}
use Rattle.ann_base.specs.Front.{IsSealedAs}
use Rattle.ann_state.specs.State.{index_with, AreKept}
use Rattle.ann_named.proofs.Entries.{last_named}
use Rattle.ann_named.proofs.Numbers.{named_older}
use Rattle.ann_merge.specs.Job.{KeepsNumbers, Order}
use Rattle.ann_merge.proofs.Numbers.{others_may}
use Rattle.ann_mbegin.specs.Begun.{IsJobOf}
use Rattle.ann_kept.specs.Unnamed.{IsUnnamed}

module _ (params : Params) (book : Book) (h : BasedList) (number : ℕ) (old new : Holding) (unnamed : IsUnnamed h number) where
  sealed_still : (n : ℕ) (graph : Graph) → KeepsNumbers number old new → n ≢ number → IsSealedAs old params n book graph → IsSealedAs new params n book graph
  sealed_still n graph others other is = record { fits = is.fits; text = others n other ∙ is.text }

  pub kept_still : KeepsNumbers number old new → AreKept old params book h → AreKept new params book h
  kept_still others kept = record {
    base = λ some. sealed_still h.base.segment h.base.graph others unnamed.base (kept.base some);
    merged = λ m.
        sealed_still m.segment (fold_of (index_with params book) h).lti others
        (λ same. unnamed.last (last_named h.base.segment h m ∙ same)) (kept.merged m);
  }

  pub kept_removed : MayBeRemoved number old new → AreKept old params book h → AreKept new params book h
  kept_removed removed = kept_still (others_may number old new removed)

-- the number of the open merge is greater than those that the list names
pub unnamed_working : {S : Type 0} (index : Index) (h : BasedList) (order : Order S) → IsLegal index h → h.base.segment < 2 * h.base.position + 1 → IsJobOf index h order → IsUnnamed h order.number
unnamed_working index h order legal first job =
    let number = job.numbered in
    let place = (opens_at index h job.begun job.open_now).position in
    let less = named_older index h job.begun legal first job.open_now in
    record {
      base = λ same. absurd (omega (arith, number, place, first, same));
      last = λ same. absurd (omega (arith, number, less, same));
    }
