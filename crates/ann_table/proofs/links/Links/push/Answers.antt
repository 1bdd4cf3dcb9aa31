use Rattle.std.proofs.Common.{◌≡◌, ◌+◌, ◌-◌, ◌++◌, ℕ, refl, ap, ◌∙◌, arith, length, replicate, vec_capacity}
use Rattle.std.proofs.lemmas.List.{length-replicate}
use Rattle.ann_table.proofs.Listed.{seen_places, seen_spare, room_one, push_is, places_push}
use Rattle.ann_table.proofs.links.Links.push.Goals as goal

pub extend_within-requires : goal.extend_within-requires
extend_within-requires c =
    let places = seen_places _ _ _ _ c.args.self.now c.self.view_is in
    let spare = seen_spare _ _ _ _ c.args.self.now c.self.view_is in
    let few = c.requires.few in
    let some = c.requires.room in
    let size = c.self.inside.numbers.ok.0 in
    let room = room_one c.self.inside.spare c.self.inside.places (length c.self.inside.numbers.items) (vec_capacity c.self.inside.numbers) c.self.invariant.numbers_fit (omega arith) in
    omega arith

pub fill_within-requires : goal.fill_within-requires
fill_within-requires c =
    let places = seen_places _ _ _ _ c.args.self.now c.self.view_is in
    let spare = seen_spare _ _ _ _ c.args.self.now c.self.view_is in
    let few = c.requires.few in
    let some = c.requires.room in
    let size = c.self.inside.numbers.ok.0 in
    let longer = c.extend_within.ensures.length in
    let more = c.extend_within.ensures.room in
    let from = c.from.ensures in
    let room = room_one c.self.inside.spare c.self.inside.places (length c.self.inside.numbers.items) (vec_capacity c.self.inside.numbers) c.self.invariant.numbers_fit (omega arith) in
    omega arith

pub invariant_of-self : goal.invariant_of-self
invariant_of-self c =
    let places = seen_places _ _ _ _ c.args.self.now c.self.view_is in
    let spare = seen_spare _ _ _ _ c.args.self.now c.self.view_is in
    let few = c.requires.few in
    let some = c.requires.room in
    let from = c.from.ensures in
    let rest : length {A = ℕ} (replicate (c.from.result - length c.args.list.now) 0) ≡ c.from.result - length c.args.list.now = length-replicate (c.from.result - length c.args.list.now) 0 in
    let full : length c.args.list.now + length {A = ℕ} (replicate (c.from.result - length c.args.list.now) 0) ≡ c.self.inside.places = ap (λ n. length c.args.list.now + n) rest ∙ omega arith in
    let more = c.extend_within.ensures.room in
    let most = c.fill_within.ensures.room in
    places_push c.self.inside.places c.self.inside.spare c.self.inside.counts.items c.self.inside.numbers.items _ _ _ _ _ _ (length c.args.list.now) c.args.list.now (replicate (c.from.result - length c.args.list.now) 0) c.self.invariant (omega arith) c.push_within.ensures.items (c.fill_within.ensures.items ∙ ap (λ t. t ++ replicate (c.from.result - length c.args.list.now) 0) c.extend_within.ensures.items) full (omega arith) c.push_within.ensures.room (omega arith)

pub returns-clause-lists : goal.returns-clause-lists
returns-clause-lists c = push_is _ _ _ _ c.args.self.now c.self.view_is c.self.invariant.used c.self.invariant.whole _ _ (length c.args.list.now) c.args.list.now (replicate (c.from.result - length c.args.list.now) 0) c.push_within.ensures.items (c.fill_within.ensures.items ∙ ap (λ t. t ++ replicate (c.from.result - length c.args.list.now) 0) c.extend_within.ensures.items) refl
