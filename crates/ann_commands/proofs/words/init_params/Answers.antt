use Rattle.std.proofs.Common.{◌≡◌, ◌∙◌, ◌∷◌, [], List, ℕ, ap, sym, map, string_bytes, arith}
use Rattle.std.specs.Prelude.{codes}
use Rattle.std.specs.Str.{bytes_eq}
use Rattle.std.proofs.lemmas.List.{length-map}
use Rattle.ann_commands.proofs.InitWords.{init_few, init_many, eight, other_init, its_init}
use Rattle.ann_commands.proofs.words.init_params.Goals as goal

pub returns-in_default : goal.returns-in_default
returns-in_default c =
    let words : List (List ℕ) = map (λ w. string_bytes w) c.args.words.now in
    sym (init_few words (let few = c.in_default.len_below in let same = length-map c.args.words.now (λ w. string_bytes w) in omega arith))

pub returns-in_default-3 : goal.returns-in_default-3
returns-in_default-3 c =
    let words : List (List ℕ) = map (λ w. string_bytes w) c.args.words.now in
    sym (init_many words (let many = c.in_default.len_at_least in let same = length-map c.args.words.now (λ w. string_bytes w) in omega arith))

pub returns-in_default-2 : goal.returns-in_default-2
returns-in_default-2 c =
    let words : List (List ℕ) = map (λ w. string_bytes w) c.args.words.now in
    sym (other_init words _ _ _ _ _ _ _ _
    (eight (λ w. string_bytes w) c.args.words.now c.name-item.result c.d-item.result c.r-item.result c.l_build-item.result c.alpha-item.result c.w-item.result c.m-item.result c.freeze_at-item.result (let least = c.in-len8.len_at_least in let below = c.in-len8.len_below in omega arith) c.name-item.is c.d-item.is c.r-item.is c.l_build-item.is c.alpha-item.is c.w-item.is c.m-item.is c.freeze_at-item.is)
    (ap (λ (name : List ℕ). bytes_eq name (codes "init")) (sym c.as_str.ensures.value) ∙ sym c.eq.ensures ∙ c.if-eq.false))

-- the words, as the seven behind the name are passed on
passed : (c : goal.After-given_init) → map (λ w. string_bytes w) c.args.words.now ≡ c.as_str.result.now ∷ c.as_bytes.result.now ∷ c.as_bytes-in-len8.result.now ∷ c.as_bytes-in-len8-2.result.now ∷ c.as_bytes-in-len8-3.result.now ∷ c.as_bytes-in-len8-4.result.now ∷ c.as_bytes-in-len8-5.result.now ∷ c.as_bytes-in-len8-6.result.now ∷ []
passed c =
    let words = eight (λ w. string_bytes w) c.args.words.now c.name-item.result c.d-item.result c.r-item.result c.l_build-item.result c.alpha-item.result c.w-item.result c.m-item.result c.freeze_at-item.result (let least = c.in-len8.len_at_least in let below = c.in-len8.len_below in omega arith) c.name-item.is c.d-item.is c.r-item.is c.l_build-item.is c.alpha-item.is c.w-item.is c.m-item.is c.freeze_at-item.is in
    cc (words, c.as_str.ensures.value, c.as_bytes.ensures.value, c.as_bytes-in-len8.ensures.value, c.as_bytes-in-len8-2.ensures.value, c.as_bytes-in-len8-3.ensures.value, c.as_bytes-in-len8-4.ensures.value, c.as_bytes-in-len8-5.ensures.value, c.as_bytes-in-len8-6.ensures.value)

pub returns-in-len8 : goal.returns-in-len8
returns-in-len8 c = c.given_init.ensures ∙ sym (its_init _ _ _ _ _ _ _ _ _ (passed c) (sym c.eq.ensures ∙ c.if-eq.true))
