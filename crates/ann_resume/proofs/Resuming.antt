-- The view of a list's base without entries, and the entries that follow.
use Rattle.std.proofs.Common.{◌≡◌, ℕ, true, not, List, refl, sym, ap, subst, ◌∙◌, arith}
use Rattle.std.specs.Prelude.{Option, Some, None}
use Rattle.std.specs.List.{list_all}
use Rattle.ann_types.specs.Index.{Index}
use Rattle.ann_types.specs.Legal.{IsLegal}
use Rattle.ann_types.specs.Lists.{BasedList, bare, with_entries, names_of, next_pid}
use Rattle.ann_types.specs.declared.entry.Entry.{Entry}
use Rattle.ann_types.specs.declared.params.Params.{Params}
use Rattle.ann_laws.specs.Replays.{is_end, with_only}
use Rattle.ann_pq.specs.Codebook.{CodebookView}
use Rattle.ann_reopen.specs.Gone.{gone_from}
use Rattle.ann_view.specs.Holding.{HoldsGraph}
use Rattle.ann_view.specs.Stands.{StandsFor, lti_of}
use Rattle.ann_resume.specs.Applied.{AreNext}
use Rattle.ann_resume.specs.Resumed.{IsResumedBy, HoldsAtStart, opened_at}
use Rattle.ann_resume.specs.declared.view.Start.{Start}

module _ {S : Type 0} (params : Params) (book : CodebookView) (start : Option (Start S)) (entries : List Entry) (gone : List (Option ℕ)) (h : BasedList) (r : IsResumedBy params book start entries gone h) where
  opened_stands : StandsFor (opened_at params book start) (bare h.base)
  opened_stands = record {
    at = (let same = r.position in omega arith);
    next = (let same = r.next in omega arith);
    state = refl;
  }

  pub are_next : AreNext (opened_at params book start) (bare h.base) entries gone
  are_next = record {
    stands = opened_stands;
    legal = subst (λ (t : List Entry). let index : Index = record { params = params; book = book.book } in IsLegal index (with_only h t)) r.entries r.legal;
    no_end = subst (λ (t : List Entry). list_all (λ e. not (is_end e)) t ≡ true) r.entries r.no_end;
    deletes =
        r.deletes
        ∙ ap (gone_from (names_of h.base.graph.points) h.base.next) r.entries
        ∙ ap (λ (n : ℕ). gone_from (names_of h.base.graph.points) n entries) (let same : h.base.next ≡ next_pid (bare h.base) = omega arith in same);
  }

  pub whole_list : with_entries (bare h.base) entries ≡ h
  whole_list = ap (with_only h) (sym r.entries)

holds_at : {S : Type 0} (bytes : S → List ℕ) (params : Params) (book : CodebookView) (start : Option (Start S)) (h : BasedList) → HoldsAtStart bytes params book.book start h.base.graph → HoldsGraph bytes (opened_at params book start) (lti_of (opened_at params book start) (bare h.base))
holds_at bytes params book None h w = w
holds_at bytes params book (Some start) h w = w

pub opened_holds : {S : Type 0} (bytes : S → List ℕ) (params : Params) (book : CodebookView) (start : Option (Start S)) (h : BasedList) → HoldsAtStart bytes params book.book start h.base.graph → HoldsGraph bytes (opened_at params book start) (lti_of (opened_at params book start) (bare h.base))
opened_holds bytes params book start h w = holds_at bytes params book start h w
