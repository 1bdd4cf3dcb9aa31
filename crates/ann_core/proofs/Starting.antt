-- The first state of a core.
use Rattle.std.proofs.Common.{◌≡◌, ◌∙◌, ◌<◌, ◌+◌, ℕ, zero, suc, get_or, Result, Ok, Err, false, List, [], ◌∷◌, ◌++◌, take, length, refl, sym, ap, subst, arith}
use Rattle.std.specs.Prelude.{Option, None, replicate, IfOk, OnErr}
use Rattle.std.proofs.lemmas.List.{take_more}
use Rattle.std.proofs.lemmas.List.Sums.{fold_push}
use Rattle.ann_types.specs.Codes.{Book}
use Rattle.ann_types.specs.Index.{Index}
use Rattle.ann_types.specs.declared.entry.Entry.{Entry}
use Rattle.ann_types.specs.declared.params.Params.{Params}
use Rattle.ann_pq.specs.Codebook.{CodebookView}
use Rattle.ann_pq.specs.Format.{codebook}
use Rattle.ann_state.specs.State.{index_with}
use Rattle.ann_core_laws.specs.State.{CoreState, first_state}
use Rattle.ann_core_laws.specs.Events.{state_after, steps_from, core_step}
use Rattle.ann_core_laws.specs.declared.event.Event.{Event}
use Rattle.ann_core_laws.specs.declared.step.Step.{Step}
use Rattle.ann_core_laws.proofs.Kept.{first_facts}
use Rattle.ann_core.specs.Core.{CoreView, IsCoreOf, ComesTo, AreTextsOf}
use Rattle.ann_core.specs.Kept.{Text}

abbrev pub no_pin : Option ℕ
no_pin = None

pub first_core : (params : Params) (bytes : List ℕ) (book : CodebookView) (target : Book) (list : List Entry) (pins : List (Option ℕ)) (pieces : List ℕ) (kept : List Text) → book ≡ codebook params.d params.m bytes → book.book ≡ target → list ≡ [] → pins ≡ replicate 32 None → pieces ≡ [] → kept ≡ []
    → IsCoreOf (index_with params target) (record { params = params; book = book; list = list; shown = 0; pins = pins; pieces = pieces; sealed = false; kept = kept }) first_state
first_core params bytes book target list pins pieces kept is same no_entries no_pins no_pieces none = record {
  index_is = ap (index_with params) (sym same);
  sizes = (ap (λ (k : CodebookView). k.d) is, ap (λ (k : CodebookView). k.m) is);
  list = no_entries;
  shown = refl;
  pins = no_pins;
  pieces = no_pieces;
  sealed = refl;
  kept = subst (λ (t : List Text). AreTextsOf (index_with params target) t []) (sym none) tt;
  facts = first_facts (index_with params target);
}

-- no reader has pinned anything
pub none_more : (n : ℕ) → replicate n no_pin ++ no_pin ∷ [] ≡ replicate (n + 1) no_pin
none_more zero = refl
none_more (suc n) =
    ap (λ (t : List (Option ℕ)). no_pin ∷ t) (none_more n) ∙ ap (λ (k : ℕ). replicate k no_pin) (let k : suc (n + 1) ≡ suc n + 1 = omega arith in k)

-- ---- one event more

pub on_err : {T E : Type 0} (r : Result T E) (P : Type 0) → P → OnErr r P
on_err (Ok x) P is = tt
on_err (Err e) P is = is

pub goes_on : {E : Type 0} (index : Index) (c : CoreState) (event : Event) (old new : CoreView) (r : Result Step E) → IsCoreOf index old c → IfOk r (ComesTo index (core_step index c event) new) → OnErr r (new ≡ old) → (x : Index) × (x' : CoreState) × IsCoreOf x new x'
goes_on index c event old new (Ok s) core comes kept = (index, (core_step index c event).0, comes.state)
goes_on index c event old new (Err e) core comes kept = (index, c, subst (λ (w : CoreView). IsCoreOf index w c) (sym kept) core)

-- what events leave, and come to, with one more
pub state_more : (index : Index) (c : CoreState) (es : List Event) (e : Event) → state_after index c (es ++ e ∷ []) ≡ (core_step index (state_after index c es) e).0
state_more index c es e = fold_push (λ (s : CoreState) (x : Event). (core_step index s x).0) c es e

pub steps_more : (index : Index) (c : CoreState) (es : List Event) (e : Event) → steps_from index c (es ++ e ∷ []) ≡ steps_from index c es ++ (core_step index (state_after index c es) e).1 ∷ []
steps_more index c [] e = refl
steps_more index c (x ∷ xs) e = ap (λ (t : List Step). (core_step index c x).1 ∷ t) (steps_more index (core_step index c x).0 xs e)

-- a core after some first ones of events, and the steps that they came to
pub record Goes (index : Index) (c : CoreState) (events : List Event) (i : ℕ) (core : CoreView) (steps : List Step) : Type 0 where
  pub state : IsCoreOf index core (state_after index c (take i events))
  pub steps_are : steps ≡ steps_from index c (take i events)

pub goes_more : (index : Index) (c : CoreState) (events : List Event) (i : ℕ) (e : Event) (old new : CoreView) (steps : List Step) (step : Step) → i < length events → e ≡ get_or events i e → Goes index c events i old steps → ((x : CoreState) → IsCoreOf index old x → ComesTo index (core_step index x e) new step) → Goes index c events (i + 1) new (steps ++ step ∷ [])
goes_more index c events i e old new steps step l is w each =
    let front : take (i + 1) events ≡ take i events ++ e ∷ [] = take_more events i e l ∙ ap (λ (x : Event). take i events ++ x ∷ []) (sym is) in
    let next = each (state_after index c (take i events)) w.state in
    record {
      state = subst (λ (x : CoreState). IsCoreOf index new x) (sym (ap (state_after index c) front ∙ state_more index c (take i events) e)) next.state;
      steps_are =
          ap (λ (t : List Step). t ++ step ∷ []) w.steps_are
          ∙ ap (λ (s : Step). steps_from index c (take i events) ++ s ∷ []) next.step_is
          ∙ sym (ap (steps_from index c) front ∙ steps_more index c (take i events) e);
    }
