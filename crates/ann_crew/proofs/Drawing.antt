-- A member draws a number more.
use Rattle.std.proofs.Common.{◌≡◌, ◌≢◌, ℕ, ◌+◌, ◌≤◌, ◌<◌, List, [], ◌∷◌, ◌++◌, refl, sym, ap, subst, ◌∙◌, map, true, false, inl, inr, arith}
use Rattle.std.specs.Prelude.{Option, Some, None, All}
use Rattle.std.proofs.lemmas.List.{map-append}
use Rattle.std.proofs.lemmas.List.Elements.{All-push, All-nil}
use Rattle.ann_claim.specs.Claims.{Lot, Drawer, newcomer_of, least_above}
use Rattle.ann_mdelete.specs.declared.refused.WorkRefused.{WorkRefused}
use Rattle.ann_crew.specs.declared.member.Member.{Member}
use Rattle.ann_crew.specs.Members.{IsFresh, HasDone, HasDrawn, IsDrawing, AreResults, number_of}

pub above_push : (xs : List ℕ) (x : ℕ) → least_above xs ≤ x → least_above (xs ++ x ∷ []) ≡ x + 1
above_push [] x h = omega arith
above_push (y ∷ ys) x h = let r = above_push ys x (omega arith) in omega arith

none_is_some : {why : WorkRefused} → None ≡ Some why → ⊥
none_is_some e = subst (λ (o : Option WorkRefused). elim o as (λ _. Type 0) [ None ↦ Unit {0} | Some y ↦ ⊥ ]) e tt

module _ {W P : Type 0} (goes : W → W → Type 0) (causes : W → W → WorkRefused → Type 0) (is_piece : ℕ → P → Type 0) (first : ℕ) (lot : Lot) where
  pub drawing_none : (m : Member W P) → IsFresh lot m → goes m.worker m.worker → IsDrawing goes causes is_piece first lot m m
  drawing_none m fresh stays = record {
    own = ap (λ (d : Drawer). d.lot) fresh.claimer;
    moved = stays;
    done = λ e. record {
      numbers = ap (map number_of) fresh.results ∙ sym (ap (λ (d : Drawer). d.drawn) fresh.claimer);
      pieces = subst (All (λ r. is_piece (first + r.0) r.1)) (sym fresh.results) (All-nil (λ r. is_piece (first + r.0) r.1));
    };
    refused = λ why e. absurd (none_is_some (sym fresh.calm ∙ e));
  }

  -- `drew` is the member once its claimer has drawn the number, and `new` once that was taken in
  pub drawing_more : (old now drew new : Member W P) (number : ℕ)
      → ((u v w : W) → goes u v → goes v w → goes u w)
      → ((u v w : W) (why : WorkRefused) → goes u v → causes v w why → causes u w why)
      → IsDrawing goes causes is_piece first lot old now
      → drew.claimer ≡ record now.claimer { drawn = now.claimer.drawn ++ number ∷ [] }
      → drew.worker ≡ now.worker → drew.results ≡ now.results → drew.refusal ≡ now.refusal
      → HasDone goes causes is_piece first number drew new
      → IsDrawing goes causes is_piece first lot old new
  drawing_more old now drew new number goes_on caused was claimer worker results refusal did = record {
    own = ap (λ (d : Drawer). d.lot) (did.claimer ∙ claimer) ∙ was.own;
    moved = goes_on old.worker now.worker new.worker was.moved (subst (λ w. goes w new.worker) worker did.moved);
    done = λ e.
        let so_far = was.done (sym refusal ∙ did.calm e) in
        let more = did.result e in
        let items : new.results.items ≡ now.results.items ++ (number, more.piece) ∷ [] = more.added ∙ ap (λ (v : _). v.items ++ (number, more.piece) ∷ []) results in
        record {
          numbers = ap (map number_of) items ∙ map-append number_of now.results.items ((number, more.piece) ∷ []) ∙ ap (λ t. t ++ number ∷ []) so_far.numbers ∙ sym (ap (λ (d : Drawer). d.drawn) (did.claimer ∙ claimer));
          pieces = subst (All (λ r. is_piece (first + r.0) r.1)) (sym items) (All-push (λ r. is_piece (first + r.0) r.1) now.results.items (number, more.piece) so_far.pieces more.sound);
        };
    refused = λ why e. by_cases now.refusal refl why e;
  } where
    by_cases : (o : Option WorkRefused) → now.refusal ≡ o → (why : WorkRefused) → new.refusal ≡ Some why → causes old.worker new.worker why
    by_cases None is why e = caused old.worker now.worker new.worker why was.moved (subst (λ w. causes w new.worker why) worker (did.refused why e (refusal ∙ is)))
    by_cases (Some before) is why e =
        let same : new ≡ drew = did.kept before (refusal ∙ is) in
        let first : now.refusal ≡ Some why = sym refusal ∙ ap (λ (m : Member W P). m.refusal) (sym same) ∙ e in
        subst (λ w. causes old.worker w why) (sym worker ∙ sym (ap (λ (m : Member W P). m.worker) same)) (was.refused why first)
