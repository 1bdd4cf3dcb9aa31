-- The map of a list of pairs: what it finds, how many tags it has, and how it follows the list of live tags.
use Rattle.std.proofs.Common.{◌≡◌, ℕ, ◌+◌, ◌<◌, Bool, true, false, cond, eqb, ltb, not, ◌||◌, Option, Some, None, is_some, List, [], ◌∷◌, ◌++◌, refl, sym, ap, ◌∙◌, arith, length, map, filter, ltb-true, eqb-true, eq-eqb, nat_eq}
use Rattle.std.proofs.lemmas.Bool.{or_parts, or_from}
use Rattle.std.specs.List.{AllByRecursion, IsDistinct}
use Rattle.std.specs.Map.{lookup, keys_of}
use Rattle.std.specs.Ordering.{nat_cmp, eq_by_cmp, is_eq}
use Rattle.std.specs.declared.cmp.Ordering.TheVariants.{Less, Equal, Greater}
use Rattle.std.specs.Cmp.{nat_cmp_total, nat_eq_equiv}
use Rattle.std.specs.FinMap.{find, get, insert, remove, len, get-from_entries, get-insert, get-remove, len-insert, len-empty, same_map, nat_cmp-IsAntisymmetric}
use Rattle.std.proofs.lemmas.Map.Keys.{IsDistinct-head, IsDistinct-tail}
use Rattle.ann_types.specs.Lists.{Names, is_live, unmapped, mapped, pids_at}
use Rattle.ann_types.proofs.Tagged.{TagsDiffer, taken_out, pids_at_one}
use Rattle.ann_tags.specs.Tags.{Pids, map_of}
use Rattle.ann_types.proofs.Booleans.{eqb_sym}

-- ---- tests of tags

not_less : (q x : ℕ) (b : Bool) → eqb q x ≡ b → q < x → false ≡ b
not_less q x true same less = absurd (let is = eqb-true q x same in omega arith)
not_less q x false differ less = refl

test_is : (q x : ℕ) → eq_by_cmp nat_cmp q x ≡ eqb q x
test_is q x =
    elim (ltb q x) as (λ b. ltb q x ≡ b → is_eq (cond b Less (cond (eqb q x) Equal Greater)) ≡ eqb q x) [
      | true ↦ λ less. not_less q x (eqb q x) refl (ltb-true q x less)
      | false ↦ λ _. elim (eqb q x) as (λ b. is_eq (cond b Equal Greater) ≡ b) [ true ↦ refl | false ↦ refl ]
    ] refl

test_flips : (q x : ℕ) → eq_by_cmp nat_cmp q x ≡ eqb x q
test_flips q x = test_is q x ∙ eqb_sym q x

-- ---- what a map finds

find_is : (q : ℕ) (es : Names) → find nat_cmp q es ≡ lookup (nat_eq q) es
find_is q [] = refl
find_is q (e ∷ es) =
    ap (λ b. cond b (Some e.1) (find nat_cmp q es)) (test_is q e.0)
    ∙ ap (cond (eqb q e.0) (Some e.1)) (find_is q es)

pub get_is : (q : ℕ) (es : Names) → get (map_of es) q ≡ lookup (nat_eq q) es
get_is q es = get-from_entries nat_cmp_total es q ∙ find_is q es

-- lists in which each tag is found alike have one map
pub one_map : (es : Names) (pids : Pids) → ((q : ℕ) → lookup (nat_eq q) es ≡ get pids q) → map_of es ≡ pids
one_map es pids same = same_map nat_cmp_total nat_cmp-IsAntisymmetric (map_of es) pids (λ q. get_is q es ∙ same q)

pub same_pairs : (es fs : Names) → ((q : ℕ) → lookup (nat_eq q) es ≡ lookup (nat_eq q) fs) → map_of es ≡ map_of fs
same_pairs es fs same = one_map es (map_of fs) (λ q. same q ∙ sym (get_is q fs))

pub inserted : (es fs : Names) (tag pid : ℕ) → ((q : ℕ) → lookup (nat_eq q) fs ≡ cond (nat_eq tag q) (Some pid) (lookup (nat_eq q) es)) → map_of fs ≡ insert (map_of es) tag pid
inserted es fs tag pid same =
    one_map fs (insert (map_of es) tag pid) (λ q.
    same q
    ∙ ap (λ b. cond b (Some pid) (lookup (nat_eq q) es)) (sym (test_flips q tag))
    ∙ ap (cond (eq_by_cmp nat_cmp q tag) (Some pid)) (sym (get_is q es))
    ∙ sym (get-insert nat_cmp_total (map_of es) tag pid q))

pub removed : (es fs : Names) (tag : ℕ) → ((q : ℕ) → lookup (nat_eq q) fs ≡ cond (nat_eq tag q) None (lookup (nat_eq q) es)) → map_of fs ≡ remove (map_of es) tag
removed es fs tag same =
    one_map fs (remove (map_of es) tag) (λ q.
    same q
    ∙ ap (λ b. cond b None (lookup (nat_eq q) es)) (sym (test_flips q tag))
    ∙ ap (cond (eq_by_cmp nat_cmp q tag) None) (sym (get_is q es))
    ∙ sym (get-remove nat_cmp_total (map_of es) tag q))

-- ---- the live tags of a list of entries

found_is : (es : Names) (tag : ℕ) → is_live es tag ≡ is_some (find nat_cmp tag es)
found_is [] tag = refl
found_is (e ∷ es) tag =
    elim (eqb e.0 tag) as (λ b. (b || is_live es tag) ≡ is_some (cond b (Some e.1) (find nat_cmp tag es))) [ true ↦ refl | false ↦ found_is es tag ]
    ∙ ap (λ b. is_some (cond b (Some e.1) (find nat_cmp tag es))) (sym (test_flips tag e.0))

-- A tag is live exactly where the map finds it.
pub live_is : (live : Names) (tag : ℕ) → is_live live tag ≡ is_some (get (map_of live) tag)
live_is live tag = found_is live tag ∙ ap is_some (sym (get-from_entries nat_cmp_total live tag))

other_tag : (first tag q : ℕ) → eqb q first ≡ true → eqb first tag ≡ false → eqb tag q ≡ false
other_tag first tag q here differ = ap (eqb tag) (eqb-true q first here) ∙ eqb_sym tag first ∙ differ

lookup_unmapped : (live : Names) (tag q : ℕ) → lookup (nat_eq q) (unmapped live tag) ≡ cond (nat_eq tag q) None (lookup (nat_eq q) live)
lookup_unmapped [] tag q = elim (eqb tag q) as (λ b. ◌≡◌ {A = Option ℕ} None (cond b None None)) [ true ↦ refl | false ↦ refl ]
lookup_unmapped (e ∷ es) tag q =
    let rest = lookup_unmapped es tag q in
    let old : Option ℕ = lookup (nat_eq q) es in
    elim (eqb e.0 tag) as (λ t. eqb e.0 tag ≡ t → lookup (nat_eq q) (cond (not t) (e ∷ unmapped es tag) (unmapped es tag)) ≡ cond (eqb tag q) None (cond (eqb q e.0) (Some e.1) old)) [
      | true ↦ λ same. rest ∙ (elim (eqb tag q) as (λ b. eqb tag q ≡ b → cond b None old ≡ cond b None (cond (eqb q e.0) (Some e.1) old)) [
        | true ↦ λ _. refl
        | false ↦ λ apart. ap (λ b. cond b (Some e.1) old) (sym (ap (eqb q) (eqb-true e.0 tag same) ∙ eqb_sym q tag ∙ apart))
      ] refl)
      | false ↦ λ differ. elim (eqb q e.0) as (λ h. eqb q e.0 ≡ h → cond h (Some e.1) (lookup (nat_eq q) (unmapped es tag)) ≡ cond (eqb tag q) None (cond h (Some e.1) old)) [
        | true ↦ λ here. ap (λ b. cond b None (Some e.1)) (sym (other_tag e.0 tag q here differ))
        | false ↦ λ _. rest
      ] refl
    ] refl

lookup_pushed : (es : Names) (tag pid q : ℕ) → is_live es tag ≡ false → lookup (nat_eq q) (es ++ (tag, pid) ∷ []) ≡ cond (nat_eq tag q) (Some pid) (lookup (nat_eq q) es)
lookup_pushed [] tag pid q none = ap (λ b. cond b (Some pid) None) (eqb_sym q tag)
lookup_pushed (e ∷ es) tag pid q none =
    let both = or_parts (eqb e.0 tag) (is_live es tag) none in
    elim (eqb q e.0) as (λ h. eqb q e.0 ≡ h → cond h (Some e.1) (lookup (nat_eq q) (es ++ (tag, pid) ∷ [])) ≡ cond (eqb tag q) (Some pid) (cond h (Some e.1) (lookup (nat_eq q) es))) [
      | true ↦ λ here. ap (λ b. cond b (Some pid) (Some e.1)) (sym (other_tag e.0 tag q here both.0))
      | false ↦ λ _. lookup_pushed es tag pid q both.1
    ] refl

lookup_mapped : (live : Names) (tag pid q : ℕ) → lookup (nat_eq q) (mapped live tag pid) ≡ cond (nat_eq tag q) (Some pid) (lookup (nat_eq q) live)
lookup_mapped live tag pid q =
    lookup_pushed (unmapped live tag) tag pid q (taken_out live tag)
    ∙ ap (cond (eqb tag q) (Some pid)) (lookup_unmapped live tag q)
    ∙ elim (eqb tag q) as (λ b. cond b (Some pid) (cond b None (lookup (nat_eq q) live)) ≡ cond b (Some pid) (lookup (nat_eq q) live)) [ true ↦ refl | false ↦ refl ]

-- Without a tag the map is that of the other live tags.
pub unmapped_is : (live : Names) (tag : ℕ) → map_of (unmapped live tag) ≡ remove (map_of live) tag
unmapped_is live tag = removed live (unmapped live tag) tag (lookup_unmapped live tag)

-- With a tag and its Pid the map is that of the live tags with it.
pub mapped_is : (live : Names) (tag pid : ℕ) → map_of (mapped live tag pid) ≡ insert (map_of live) tag pid
mapped_is live tag pid = inserted live (mapped live tag pid) tag pid (lookup_mapped live tag pid)

-- A tag that was taken away isn't there,
pub gone : (pids : Pids) (tag : ℕ) → get (remove pids tag) tag ≡ None
gone pids tag =
    get-remove nat_cmp_total pids tag tag
    ∙ ap (λ b. cond b None (get pids tag)) (test_is tag tag ∙ eq-eqb tag tag refl)

-- and where it is added again, the map is the old one with its new Pid.
pub replaced : (pids : Pids) (tag pid : ℕ) → insert (remove pids tag) tag pid ≡ insert pids tag pid
replaced pids tag pid =
    same_map nat_cmp_total nat_cmp-IsAntisymmetric (insert (remove pids tag) tag pid) (insert pids tag pid) (λ q.
    get-insert nat_cmp_total (remove pids tag) tag pid q
    ∙ ap (cond (eq_by_cmp nat_cmp q tag) (Some pid)) (get-remove nat_cmp_total pids tag q)
    ∙ elim (eq_by_cmp nat_cmp q tag) as (λ b. cond b (Some pid) (cond b None (get pids q)) ≡ cond b (Some pid) (get pids q)) [ true ↦ refl | false ↦ refl ]
    ∙ sym (get-insert nat_cmp_total pids tag pid q))

-- Where each tag stands once, there are as many tags as pairs.
pub count_is : (live : Names) → TagsDiffer live → len (map_of live) ≡ length live
count_is [] differ = len-empty nat_cmp ℕ
count_is (e ∷ es) (new, differ) =
    len-insert nat_cmp_total (map_of es) e.0 e.1
    ∙ ap (λ b. cond b (len (map_of es)) (len (map_of es) + 1)) (sym (live_is es e.0) ∙ new)
    ∙ (let rest = count_is es differ in omega (arith, rest))

absent : (es : Names) (tag : ℕ) → AllByRecursion (λ y. nat_eq tag y ≡ false) (keys_of es) → is_live es tag ≡ false
absent [] tag all = refl
absent (e ∷ es) tag (apart, all) = or_from (eqb e.0 tag) (is_live es tag) (eqb_sym e.0 tag ∙ apart) (absent es tag all)

pub differ_from_distinct : (es : Names) → IsDistinct nat_eq (keys_of es) → TagsDiffer es
differ_from_distinct [] distinct = tt
differ_from_distinct (e ∷ es) distinct =
    (absent es e.0 (IsDistinct-head nat_eq e.0 (keys_of es) distinct), differ_from_distinct es (IsDistinct-tail nat_eq e.0 (keys_of es) distinct))

-- a tag that was added or taken away, and the others
pub found_insert : (pids : Pids) (tag pid q : ℕ) → is_some (get (insert pids tag pid) q) ≡ cond (nat_eq tag q) true (is_some (get pids q))
found_insert pids tag pid q =
    ap is_some (get-insert nat_cmp_total pids tag pid q ∙ ap (λ b. cond b (Some pid) (get pids q)) (test_flips q tag))
    ∙ elim (nat_eq tag q) as (λ b. is_some (cond b (Some pid) (get pids q)) ≡ cond b true (is_some (get pids q))) [ true ↦ refl | false ↦ refl ]

pub found_remove : (pids : Pids) (tag q : ℕ) → is_some (get (remove pids tag) q) ≡ cond (nat_eq tag q) false (is_some (get pids q))
found_remove pids tag q =
    ap is_some (get-remove nat_cmp_total pids tag q ∙ ap (λ b. cond b None (get pids q)) (test_flips q tag))
    ∙ elim (nat_eq tag q) as (λ b. is_some (cond b None (get pids q)) ≡ cond b false (is_some (get pids q))) [ true ↦ refl | false ↦ refl ]

-- ---- the Pid of a live tag

abbrev first_of : List ℕ → Option ℕ
first_of [] = None
first_of (x ∷ xs) = Some x

first_pid : (es : Names) (tag : ℕ) → lookup (nat_eq tag) es ≡ first_of (pids_at es tag)
first_pid [] tag = refl
first_pid (e ∷ es) tag =
    ap (λ b. cond b (Some e.1) (lookup (nat_eq tag) es)) (eqb_sym tag e.0)
    ∙ elim (eqb e.0 tag) as (λ b. cond b (Some e.1) (lookup (nat_eq tag) es) ≡ first_of (map (λ (x : ℕ × ℕ). x.1) (cond b (e ∷ filter (λ (x : ℕ × ℕ). eqb x.0 tag) es) (filter (λ (x : ℕ × ℕ). eqb x.0 tag) es)))) [ true ↦ refl | false ↦ first_pid es tag ]

is_first : (x y : ℕ) (o : Option ℕ) → o ≡ Some x → o ≡ Some y → y ≡ x
is_first x y o e f = cc

-- a tag that is found has that one Pid
pub pids_found : (live : Names) (tag pid : ℕ) → TagsDiffer live → get (map_of live) tag ≡ Some pid → pids_at live tag ≡ pid ∷ []
pids_found live tag pid differ found =
    let one = pids_at_one live tag differ (live_is live tag ∙ ap is_some found) in
    one.1 ∙ ap (λ p. p ∷ []) (is_first pid one.0 (get (map_of live) tag) found (get_is tag live ∙ first_pid live tag ∙ ap first_of one.1))

pub found_none : (live : Names) (tag : ℕ) → is_live live tag ≡ false → get (map_of live) tag ≡ None
found_none live tag none = none_of (get (map_of live) tag) (sym (live_is live tag) ∙ none)
  where
    none_of : (o : Option ℕ) → is_some o ≡ false → o ≡ None
    none_of None e = refl
    none_of (Some x) e = absurd cc
