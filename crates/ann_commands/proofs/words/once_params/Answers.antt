use Rattle.std.proofs.Common.{◌≡◌, ◌∙◌, ◌∷◌, [], List, ℕ, ap, sym, map, string_bytes, arith}
use Rattle.std.specs.Prelude.{codes}
use Rattle.std.specs.Str.{bytes_eq}
use Rattle.std.proofs.lemmas.List.{length-map}
use Rattle.ann_commands.proofs.Counts.{too_few, too_many, five, other_name, once_given, once_refused}
use Rattle.ann_commands.proofs.words.once_params.Goals as goal

pub returns-in_default-clause-usage : goal.returns-in_default-clause-usage
returns-in_default-clause-usage c =
    let words : List (List ℕ) = map (λ w. string_bytes w) c.args.words.now in
    too_few words (let few = c.in_default.len_below in let same = length-map c.args.words.now (λ w. string_bytes w) in omega arith)

pub returns-in_default-3-clause-usage : goal.returns-in_default-3-clause-usage
returns-in_default-3-clause-usage c =
    let words : List (List ℕ) = map (λ w. string_bytes w) c.args.words.now in
    too_many words (let many = c.in_default.len_at_least in let same = length-map c.args.words.now (λ w. string_bytes w) in omega arith)

pub returns-in_default-2-clause-usage : goal.returns-in_default-2-clause-usage
returns-in_default-2-clause-usage c =
    let words : List (List ℕ) = map (λ w. string_bytes w) c.args.words.now in
    other_name words _ _ _ _ _
    (five (λ w. string_bytes w) c.args.words.now c.name-item.result c.d-item.result c.r-item.result c.l_build-item.result c.alpha-item.result (let least = c.in-len5.len_at_least in let below = c.in-len5.len_below in omega arith) c.name-item.is c.d-item.is c.r-item.is c.l_build-item.is c.alpha-item.is)
    (ap (λ (name : List ℕ). bytes_eq name (codes "once")) (sym c.as_str.ensures.value) ∙ sym c.eq.ensures ∙ c.if-eq.false)

-- the words, as the four behind the name are passed on
passed : (c : goal.After-given) → map (λ w. string_bytes w) c.args.words.now ≡ c.as_str.result.now ∷ c.as_bytes.result.now ∷ c.as_bytes-in-len5.result.now ∷ c.as_bytes-in-len5-2.result.now ∷ c.as_bytes-in-len5-3.result.now ∷ []
passed c =
    let words = five (λ w. string_bytes w) c.args.words.now c.name-item.result c.d-item.result c.r-item.result c.l_build-item.result c.alpha-item.result (let least = c.in-len5.len_at_least in let below = c.in-len5.len_below in omega arith) c.name-item.is c.d-item.is c.r-item.is c.l_build-item.is c.alpha-item.is in
    cc (words, c.as_str.ensures.value, c.as_bytes.ensures.value, c.as_bytes-in-len5.ensures.value, c.as_bytes-in-len5-2.ensures.value, c.as_bytes-in-len5-3.ensures.value)

pub returns-in-len5-clause-once : goal.returns-in-len5-clause-once
returns-in-len5-clause-once c = once_given _ _ _ _ _ _ c.given.result (passed c) (sym c.eq.ensures ∙ c.if-eq.true) c.given.ensures.made

pub returns-in-len5-clause-usage : goal.returns-in-len5-clause-usage
returns-in-len5-clause-usage c = once_refused _ _ _ _ _ _ c.given.result (passed c) (sym c.eq.ensures ∙ c.if-eq.true) c.given.ensures.none
