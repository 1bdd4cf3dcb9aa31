-- Worked examples: runs with their transcripts, and replies that are none.
use Rattle.std.proofs.Common.{◌≡◌, ℕ, zero, suc, ◌*◌, ◌<◌, false, List, [], ◌∷◌, refl, sym, ap, subst, arith, take, drop, lit≤}
use Rattle.std.specs.Prelude.{codes}
use Rattle.std.specs.Fmt.{digits}
use Rattle.std.proofs.lemmas.List.{drop_all}
use Rattle.std.proofs.lemmas.List.Elements.{All-cons, All-nil}
use Rattle.ann_types.specs.Put.{put}
use Rattle.ann_types.specs.Answer.{hits}
use Rattle.ann_types.specs.Lists.{BasedList, empty_base, empty_list}
use Rattle.ann_types.specs.declared.change.Change.TheVariants.{Insert}
use Rattle.ann_types.specs.declared.entry.Entry.{Entry}
use Rattle.ann_types.specs.declared.entry.Entry.TheVariants.{Insert as InsertEntry}
use Rattle.ann_types.specs.declared.hit.Hit.{Hit}
use Rattle.ann_types.proofs.WorkedIndexes.{plane, plane_index, line as line_params, line_index}
use Rattle.ann_script.specs.Order.{Order, Apply, Find, Merge, Fill}
use Rattle.ann_script.specs.Script.{Client}
use Rattle.ann_transcript.specs.declared.reply.Kind.TheVariants as kind
use Rattle.ann_transcript.specs.declared.reply.UpdateWord.TheVariants.{Present}
use Rattle.ann_transcript.specs.declared.reply.MergeWord.TheVariants.{Nothing}
use Rattle.ann_transcript.specs.declared.reply.Reply.TheVariants as reply
use Rattle.ann_once.proofs.Sessions.{session_base}
use Rattle.ann_said.specs.Owned.{Placed, by_of, StandTogether}
use Rattle.ann_said.specs.Table.{Turn, Stands}
use Rattle.ann_said.specs.Said.{Line, line, start, turn_at, AllStand, Said}

abbrev listed : List Entry → BasedList
listed entries = record { base = empty_base; entries = entries }

abbrev hit : ℕ → ℕ → Hit
hit tag distance = record { tag = tag; distance = distance }

abbrev client : List ℕ → List Order → Client
client name orders = record { name = name; orders = orders }

abbrev insert : ℕ → ℕ → ℕ → Order
insert tag x y = Apply (Insert tag (x ∷ y ∷ []) ∷ []) false

abbrev search : ℕ → ℕ → ℕ → ℕ → Order
search k l x y = Find k l (x ∷ y ∷ [])

abbrev placed : ℕ → Entry → Placed
placed position entry = record { position = position; entry = entry }

-- ---- two clients, of whom the second came between the commands of the first

abbrev pub two : List Client
two = client (codes "a") (insert 7 3 4 ∷ search 1 4 0 0 ∷ []) ∷ client (codes "b") (insert 9 0 1 ∷ insert 7 1 1 ∷ search 2 4 0 0 ∷ []) ∷ []

abbrev pub left_by_two : BasedList
left_by_two = listed (InsertEntry 0 7 (3 ∷ 4 ∷ []) ∷ InsertEntry 1 9 (0 ∷ 1 ∷ []) ∷ [])

pub said_by_two : Said plane_index empty_list left_by_two two (codes "a 1 inserted 7 at 1\na 2 found at 1 7:25\nb 1 inserted 9 at 2\nb 2 present 7 at 2\nb 3 found at 2 9:1 7:25\nlog 2 entries, 2 live\n")
unfolding put hits digits
said_by_two = record {
  legal = record { base = session_base plane left_by_two refl; entries = refl };
  begins = record { base = refl; entries = (left_by_two.entries, refl) };
  parts =
      record { name = codes "a"; lines = line (insert 7 3 4) (reply.Accepted kind.Insert 7 1 1) 1 ∷ line (search 1 4 0 0) (reply.Found 1 (hit 7 25 ∷ [])) 0 ∷ [] }
      ∷ record { name = codes "b"; lines = line (insert 9 0 1) (reply.Accepted kind.Insert 9 1 2) 1 ∷ line (insert 7 1 1) (reply.Update (Present 0 7 2) false) 0 ∷ line (search 2 4 0 0) (reply.Found 2 (hit 9 1 ∷ hit 7 25 ∷ [])) 0 ∷ [] }
      ∷ [];
  commands = refl;
  lines = refl;
  clients =
      All-cons (λ (p : Placed). by_of p.entry < 2) (placed 0 (InsertEntry 0 7 (3 ∷ 4 ∷ []))) (placed 1 (InsertEntry 1 9 (0 ∷ 1 ∷ [])) ∷ []) (omega arith)
      (All-cons (λ (p : Placed). by_of p.entry < 2) (placed 1 (InsertEntry 1 9 (0 ∷ 1 ∷ []))) [] (omega arith) (All-nil (λ (p : Placed). by_of p.entry < 2)));
  stand = (
    record {
      stand = (
        (record { between = (lit≤ tt, lit≤ tt); entries = record { first = 0; are = refl; end = refl } }, refl),
        (record { between = (lit≤ tt, lit≤ tt); seen = lit≤ tt; answer = refl; none = refl }, tt),
      );
      all = refl;
    },
    (
      record {
        stand = (
          (record { between = (lit≤ tt, lit≤ tt); entries = record { first = 1; are = refl; end = refl } }, refl),
          (
            (record { about = record { between = (lit≤ tt, lit≤ tt); earlier = lit≤ tt; none = refl }; refused = refl }, refl),
            (record { between = (lit≤ tt, lit≤ tt); seen = lit≤ tt; answer = refl; none = refl }, tt),
          ),
        );
        all = refl;
      },
      tt,
    ),
  );
}

-- ---- a fill, and a merge of nothing

abbrev pub filled : List Client
filled = client (codes "a") (Fill 1 2 10 ∷ search 2 4 198 126 ∷ []) ∷ []

abbrev pub left_by_fill : BasedList
left_by_fill = listed (InsertEntry 0 10 (198 ∷ 126 ∷ []) ∷ InsertEntry 0 11 (129 ∷ 107 ∷ []) ∷ [])

-- behind the only update of a small fill there is no other
lone_update : (a b : Entry) (i : ℕ) → StandTogether (take 64 (drop (64 * i) (placed 0 a ∷ placed 1 b ∷ [])))
lone_update a b zero = record { first = 0; are = refl }
lone_update a b (suc i) =
    let none : take 64 (drop (64 * suc i) (placed 0 a ∷ placed 1 b ∷ [])) ≡ [] = ap (take 64) (drop_all (64 * suc i) (placed 0 a ∷ placed 1 b ∷ []) (omega arith)) in
    subst StandTogether (sym none) (record { first = 0; are = refl })

pub said_by_fill : Said plane_index empty_list left_by_fill filled (codes "a 1 filled 2 at 2\na 2 found at 2 10:0 11:5122\nlog 2 entries, 2 live\n")
unfolding put hits digits
said_by_fill = record {
  legal = record { base = session_base plane left_by_fill refl; entries = refl };
  begins = record { base = refl; entries = (left_by_fill.entries, refl) };
  parts = record { name = codes "a"; lines = line (Fill 1 2 10) (reply.Filled 2 2) 2 ∷ line (search 2 4 198 126) (reply.Found 2 (hit 10 0 ∷ hit 11 5122 ∷ [])) 0 ∷ [] } ∷ [];
  commands = refl;
  lines = refl;
  clients =
      All-cons (λ (p : Placed). by_of p.entry < 1) (placed 0 (InsertEntry 0 10 (198 ∷ 126 ∷ []))) (placed 1 (InsertEntry 0 11 (129 ∷ 107 ∷ [])) ∷ []) (omega arith)
      (All-cons (λ (p : Placed). by_of p.entry < 1) (placed 1 (InsertEntry 0 11 (129 ∷ 107 ∷ []))) [] (omega arith) (All-nil (λ (p : Placed). by_of p.entry < 1)));
  stand = (
    record {
      stand = (
        (record { between = (lit≤ tt, lit≤ tt); entries = record { entries = refl; updates = lone_update (InsertEntry 0 10 (198 ∷ 126 ∷ [])) (InsertEntry 0 11 (129 ∷ 107 ∷ [])) }; end = refl }, refl),
        (record { between = (lit≤ tt, lit≤ tt); seen = lit≤ tt; answer = refl; none = refl }, tt),
      );
      all = refl;
    },
    tt,
  );
}

pub said_of_nothing : Said line_index empty_list empty_list (client (codes "a") (Merge ∷ []) ∷ []) (codes "a 1 nothing at 0\nlog 0 entries, 0 live\n")
unfolding digits
said_of_nothing = record {
  legal = record { base = session_base line_params empty_list refl; entries = refl };
  begins = record { base = refl; entries = ([], refl) };
  parts = record { name = codes "a"; lines = line Merge (reply.Merge (Nothing 0)) 0 ∷ [] } ∷ [];
  commands = refl;
  lines = refl;
  clients = All-nil (λ (p : Placed). by_of p.entry < 1);
  stand = (record { stand = (record { about = record { between = (lit≤ tt, lit≤ tt); earlier = lit≤ tt; none = refl }; begun = refl; work = refl }, tt); all = refl }, tt);
}

-- ---- replies that are wrong

-- lines of the second client, and where its first one stands
abbrev AllStandOfB : List Line → Type 0
AllStandOfB ls = AllStand plane_index empty_list left_by_two (start empty_list left_by_two 1) ls

abbrev insert_of_b : Line
insert_of_b = line (insert 9 0 1) (reply.Accepted kind.Insert 9 1 2) 1

abbrev first_of_b : Turn
first_of_b = turn_at (start empty_list left_by_two 1) 1

-- a search at a list without the client's own insert
pub stale_answer : AllStandOfB (insert_of_b ∷ line (search 2 4 0 0) (reply.Found 1 (hit 7 25 ∷ [])) 0 ∷ []) → ⊥
stale_answer stand = (let seen = stand.1.0.seen in omega (arith, seen))

-- a search at a list that is shorter than an earlier one's
pub back_in_time : AllStandOfB (line (search 1 4 0 0) (reply.Found 2 (hit 9 1 ∷ [])) 0 ∷ line (search 1 4 0 0) (reply.Found 1 (hit 7 25 ∷ [])) 0 ∷ []) → ⊥
back_in_time stand = (let seen = stand.1.0.seen in omega (arith, seen))

-- an insert that is refused by a list in which the client's earlier insert isn't
pub early_refusal : AllStandOfB (insert_of_b ∷ line (insert 7 1 1) (reply.Update (Present 0 7 1) false) 0 ∷ []) → ⊥
early_refusal stand = (let earlier = stand.1.0.0.about.earlier in omega (arith, earlier))

-- a hit that the list of the reply doesn't have yet
pub mixed_prefixes : Stands plane_index empty_list left_by_two (record first_of_b { own = [] }) (search 2 4 0 0) (reply.Found 1 (hit 9 1 ∷ hit 7 25 ∷ [])) → ⊥
unfolding put hits
mixed_prefixes stands = (let answer : hit 9 1 ∷ hit 7 25 ∷ [] ≡ hit 7 25 ∷ [] = stands.answer in cc)

-- an insert that is told to stand where it doesn't
abbrev first_position : List Placed → ℕ
first_position [] = 0
first_position (p ∷ ps) = p.position

pub wrong_place : Stands plane_index empty_list left_by_two first_of_b (insert 9 0 1) (reply.Accepted kind.Insert 9 1 1) → ⊥
wrong_place stands =
    let entries = stands.0.entries in
    let at : 1 ≡ entries.first = ap first_position entries.are in
    let end = entries.end in
    omega (arith, at, end)

-- an insert that was made all the same
pub refused_and_made : Stands plane_index empty_list left_by_two first_of_b (insert 7 1 1) (reply.Update (Present 0 7 1) false) → ⊥
refused_and_made stands = (let none = stands.0.about.none in cc)
