-- A client without company, as `once` serves it.
use Rattle.std.specs.Prelude.{List, [], ◌∷◌, fold}
use Rattle.ann_types.specs.Index.{Index}
use Rattle.ann_types.specs.Lists.{BasedList, empty_list}
use Rattle.ann_script.specs.Order.{Order}
use Rattle.ann_script.specs.Script.{Client}
use Rattle.ann_once.specs.Once.{list_after}

-- the list that its commands leave, one after the other
abbrev pub list_behind : Index → BasedList → List Order → BasedList
list_behind index h orders = fold (list_after index) h orders

-- the list that a script of one client, or of none, leaves
abbrev pub list_of : Index → List Client → BasedList
list_of index [] = empty_list
list_of index (client ∷ others) = list_behind index empty_list client.orders
