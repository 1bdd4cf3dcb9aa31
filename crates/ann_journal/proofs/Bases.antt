-- The base of a log.
use Rattle.std.proofs.Common.{◌≡◌, ◌<◌, ◌+◌, ◌*◌, ◌/◌, ◌%◌, true, ◌==◌, ◌&&◌, ◌||◌, nat_lt, ⊎_elim, sym, subst, arith, eqb-true}
use Rattle.std.proofs.lemmas.Bool.{and_parts, or_cases}
use Rattle.ann_types.specs.Lists.{BasedList, ListBase}
use Rattle.ann_disk.specs.declared.file.LogFile.{Ghosts}
use Rattle.ann_log.specs.LogView.{LogView}
use Rattle.ann_preamble.specs.Base.{is_base, is_empty, is_merged}
use Rattle.ann_preamble.specs.declared.base.Base.{Base}
use Rattle.ann_recover.specs.Recovered.{IsListOf}

-- the merge of its segment began before its position
base_older : (base : Base) → is_base base ≡ true → base.segment < 2 * base.position + 1
base_older base valid =
    ⊎_elim
    (λ empty. let none = eqb-true base.segment 0 (and_parts (base.position == 0) (base.segment == 0) (and_parts ((base.position == 0) && (base.segment == 0)) (base.next == 0) empty).0).1 in omega (arith, none))
    (λ merged. let place = eqb-true base.position ((base.segment + 3) / 2) (and_parts ((base.segment % 2 == 1) && nat_lt base.segment 9223372036854775808) (base.position == (base.segment + 3) / 2) merged).1 in omega (arith, place))
    (or_cases (is_empty base) (is_merged base) (and_parts (nat_lt base.next 4294967296) (is_empty base || is_merged base) valid).1)

pub list_older : {F : Type 0} (D : Ghosts F) (log : LogView F) (h : BasedList) → IsListOf D log h → is_base log.base ≡ true → h.base.segment < 2 * h.base.position + 1
list_older D log h is valid = subst (λ (b : ListBase). b.segment < 2 * b.position + 1) (sym is.base) (base_older log.base valid)
