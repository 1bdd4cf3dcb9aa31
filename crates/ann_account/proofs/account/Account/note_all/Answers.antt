use Rattle.std.proofs.Common.{◌≡◌, ◌∷◌, [], ◌++◌, ◌+◌, List, length, not, refl, sym, ap, subst, ◌∙◌, arith}
use Rattle.std.specs.List.{list_all}
use Rattle.std.proofs.lemmas.Bool.{and_parts}
use Rattle.std.proofs.lemmas.List.{append_assoc}
use Rattle.ann_types.specs.Index.{Index}
use Rattle.ann_types.specs.Lists.{BasedList, with_entries}
use Rattle.ann_types.specs.Legal.{IsLegal}
use Rattle.ann_types.specs.declared.entry.Entry.{Entry}
use Rattle.ann_laws.specs.Replays.{is_end}
use Rattle.ann_account.specs.Account.{HasRoom}
use Rattle.ann_account.specs.Steps.{CanNote, StillLead}
use Rattle.ann_account.proofs.Leading.{can_next, first_out, none_left, noted_none, noted_then, still_none, still_then}
use Rattle.ann_account.proofs.account.Account.note_all.Goals as goal

pub loop-entries-init : goal.loop-entries-init
loop-entries-init g c = record {
  room = c.requires.room;
  ends = c.requires.ends;
  long = c.requires.long;
  front = [];
  whole = refl;
  noted = λ index h can. noted_none index h c.args.self.now can.account_is;
  brings = λ index h can. still_none g.S.Sealed.bytes index h c.args.self.now;
}

pub note-requires-clause-legal : goal.note-requires-clause-legal
note-requires-clause-legal g c =
    let inv = c.loop-entries.invariant in
    let step = first_out c.loop-entries.entries.items c.remove-entry.new.self.items c.remove-entry.result (let some = c.loop-entries-test.true in let size = c.len.ensures in omega (arith, some, size)) c.remove-entry.ensures.value c.remove-entry.ensures.items in
    let whole = ap (λ (es : List Entry). inv.front ++ es) (sym step) ∙ inv.whole in
    let index = c.requires.legal.0 in
    let h = c.requires.legal.1 in
    let can = c.requires.legal.2 in (
      index,
      with_entries h inv.front,
      can_next index h inv.front c.remove-entry.new.self.items c.remove-entry.result c.loop-entries.self (inv.noted index h can).account_is
          (subst (λ (es : List Entry). IsLegal index (with_entries h es)) (sym whole) can.legal),
    )

pub loop-entries-preserved : goal.loop-entries-preserved
loop-entries-preserved g c =
    let inv = c.loop-entries.invariant in
    let e = c.remove-entry.result in
    let rest = c.remove-entry.new.self.items in
    let step = first_out c.loop-entries.entries.items rest e (let some = c.loop-entries-test.true in let size = c.len.ensures in omega (arith, some, size)) c.remove-entry.ensures.value c.remove-entry.ensures.items in
    let whole = ap (λ (es : List Entry). inv.front ++ es) (sym step) ∙ inv.whole in
    let more = ap length step in
    let next : (index : Index) (h : BasedList) → CanNote index h c.args.entries.items c.args.self.now → CanNote index (with_entries h inv.front) (e ∷ []) c.loop-entries.self = λ index h can.
    can_next index h inv.front rest e c.loop-entries.self (inv.noted index h can).account_is (subst (λ (es : List Entry). IsLegal index (with_entries h es)) (sym whole) can.legal) in
    record {
      room = c.note.ensures.room (length rest) (subst (λ n. HasRoom n c.loop-entries.self) (let same : length c.loop-entries.entries.items ≡ length rest + 1 = omega (arith, more) in same) inv.room);
      ends = (and_parts _ _ (ap (list_all (λ x. not (is_end x))) (sym step) ∙ inv.ends)).1;
      long = (let long = inv.long in let at = c.note.ensures.at in omega (arith, long, at, more));
      front = inv.front ++ e ∷ [];
      whole = append_assoc inv.front (e ∷ []) rest ∙ whole;
      noted = λ index h can. noted_then index h inv.front (e ∷ []) c.args.self.now c.loop-entries.self c.note.new.self (inv.noted index h can) (c.note.ensures.noted index (with_entries h inv.front) (next index h can));
      brings = λ index h can. still_then g.S.Sealed.bytes index h inv.front (e ∷ []) c.args.self.now c.loop-entries.self c.note.new.self (inv.brings index h can) (c.note.ensures.brings index (with_entries h inv.front) (next index h can));
    }

pub returns-clause-brings : goal.returns-clause-brings
returns-clause-brings g c index h can =
    let inv = c.loop-entries.invariant in
    let whole : inv.front ≡ c.args.entries.items = none_left inv.front c.loop-entries.entries.items c.args.entries.items (λ some. let none = c.loop-entries-test.false in let size = c.len.ensures in omega (arith, some, none, size)) inv.whole in
    subst (λ (es : List Entry). StillLead g.S.Sealed.bytes index h es c.args.self.now c.loop-entries.self) whole (inv.brings index h can)
