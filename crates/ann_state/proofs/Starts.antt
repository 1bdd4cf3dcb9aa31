-- The base of a view: that of a log, where no merge has ended.
use Rattle.std.proofs.Common.{◌≡◌, ℕ, Bool, true, false, ◌&&◌, ◌||◌, ◌+◌, ◌/◌, ◌%◌, ◌==◌, nat_lt, eqb-true, List, refl, sym, arith}
use Rattle.std.specs.Prelude.{Option, Some, None}
use Rattle.std.proofs.lemmas.Bool.{and_parts}
use Rattle.ann_types.specs.Codes.{Book}
use Rattle.ann_types.specs.Graph.{Graph}
use Rattle.ann_types.specs.Lists.{bare}
use Rattle.ann_types.specs.declared.entry.Entry.{Entry}
use Rattle.ann_types.specs.declared.params.Params.{Params}
use Rattle.ann_preamble.specs.Base.{is_base, is_empty, is_merged}
use Rattle.ann_preamble.specs.declared.base.Base.{Base}
use Rattle.ann_vault.specs.Held.{Holding}
use Rattle.ann_segment.specs.Segment.{SegmentView}
use Rattle.ann_named.specs.Named.{IsNamed, AreBelow}
use Rattle.ann_resume.specs.Resumed.{CanStart, HoldsAtStart, position_of, next_of, segment_of}
use Rattle.ann_state.specs.List.{base_on, list_on, IsGround}
use Rattle.ann_state.specs.Start.{start_at}
use Rattle.ann_state.specs.State.{AreKept}

-- ---- a base without a segment

no_merged : (base : Base) → base.segment ≡ 0 → is_merged base ≡ true → ⊥
no_merged base none merged =
    let front = (and_parts ((base.segment % 2 == 1) && nat_lt base.segment 9223372036854775808) (base.position == (base.segment + 3) / 2) merged).0 in
    let odd = eqb-true (base.segment % 2) 1 (and_parts (base.segment % 2 == 1) (nat_lt base.segment 9223372036854775808) front).0 in
    omega (arith, odd, none)

or_first : (a b : Bool) → (a || b) ≡ true → (b ≡ true → ⊥) → a ≡ true
or_first true b e n = refl
or_first false b e n = absurd (n e)

no_numbers : (base : Base) → is_base base ≡ true → base.segment ≡ 0 → (base.position ≡ 0) × (base.next ≡ 0)
no_numbers base valid none =
    let empty : is_empty base ≡ true = or_first (is_empty base) (is_merged base) (and_parts (nat_lt base.next 4294967296) (is_empty base || is_merged base) valid).1 (no_merged base none) in
    let both = and_parts ((base.position == 0) && (base.segment == 0)) (base.next == 0) empty in
    let front = and_parts (base.position == 0) (base.segment == 0) both.0 in
    (eqb-true base.position 0 front.0, eqb-true base.next 0 both.1)

-- ---- the start of its view

module _ {S : Type 0} (tells : Type 0) (bytes : S → List ℕ) (held : Holding) (params : Params) (base : Base) (graph : Graph) (valid : is_base base ≡ true) where
  pub starts_at : (segment : Option (SegmentView S)) → IsGround tells bytes held params base graph segment → position_of (start_at base.position base.next segment) ≡ base.position
  starts_at None g = sym (no_numbers base valid g.sealed).0
  starts_at (Some segment) g = refl

  pub starts_next : (segment : Option (SegmentView S)) → IsGround tells bytes held params base graph segment → next_of (start_at base.position base.next segment) ≡ base.next
  starts_next None g = sym (no_numbers base valid g.sealed).1
  starts_next (Some segment) g = refl

pub start_segment : {S : Type 0} (at next : ℕ) (segment : Option (SegmentView S)) → segment_of (start_at at next segment) ≡ segment
start_segment at next None = refl
start_segment at next (Some segment) = refl

module _ {S : Type 0} (tells : Type 0) (bytes : S → List ℕ) (held : Holding) (params : Params) (base : Base) (graph : Graph) where
  -- the base names its segment, whose Pids are below its next one
  pub start_named : (segment : Option (SegmentView S)) → IsGround tells bytes held params base graph segment → IsNamed (bare (base_on base graph)) segment
  start_named None g = g.sealed
  start_named (Some segment) g = (g.sealed.opened.found.number, g.sealed.named)

  pub start_below : (segment : Option (SegmentView S)) → IsGround tells bytes held params base graph segment → AreBelow base.next segment
  start_below None g = tt
  start_below (Some segment) g = g.sealed.opened.below

  pub can_start : (segment : Option (SegmentView S)) → IsGround tells bytes held params base graph segment → CanStart params (start_at base.position base.next segment)
  can_start None g = tt
  can_start (Some segment) g = record { code_bytes = g.sealed.opened.found.code_bytes; below = g.sealed.opened.below }

  pub start_holds : (segment : Option (SegmentView S)) → IsGround tells bytes held params base graph segment → (entries : List Entry) (book : Book) → tells → AreKept held params book (list_on base graph entries) → HoldsAtStart bytes params book (start_at base.position base.next segment) graph
  start_holds None g entries book told kept = g.based.none g.sealed
  start_holds (Some segment) g entries book told kept = g.sealed.opened.found.graph told book graph (kept.base g.sealed.named)
