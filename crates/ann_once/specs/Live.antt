-- What the searches of a script tell: live tags.
use Rattle.std.specs.Prelude.{◌≡◌, true, List, [], ◌∷◌}
use Rattle.std.specs.List.{AllByRecursion}
use Rattle.ann_types.specs.Index.{Index}
use Rattle.ann_types.specs.Lists.{BasedList, length_of, is_live, live_of, empty_list}
use Rattle.ann_types.specs.declared.hit.Hit.{Hit}
use Rattle.ann_script.specs.Order.{Order}
use Rattle.ann_script.specs.Script.{Client}
use Rattle.ann_transcript.specs.declared.reply.Reply.{Reply}
use Rattle.ann_transcript.specs.declared.reply.Reply.TheVariants as reply
use Rattle.ann_once.specs.Once.{reply_to, list_after}

-- each of these tags is live
abbrev pub AreLive : BasedList → List Hit → Type 0
AreLive h hits = AllByRecursion (λ (x : Hit). is_live (live_of h) x.tag ≡ true) hits

-- a reply that found points names the length of the list, and each tag that it tells is live there
abbrev pub TellsLive : BasedList → Reply → Type 0
TellsLive h (reply.Accepted kind tag count at) = Unit {0}
TellsLive h (reply.Update refused batch) = Unit {0}
TellsLive h (reply.Found at hits) = (at ≡ length_of h) × AreLive h hits
TellsLive h (reply.Search refused) = Unit {0}
TellsLive h (reply.Merge word) = Unit {0}
TellsLive h (reply.Filled count at) = Unit {0}
TellsLive h (reply.Cut count refused) = Unit {0}
TellsLive h (reply.Truth at exact found got of) = (at ≡ length_of h) × AreLive h exact × AreLive h found

-- and so does each reply to the commands of a client, from this list on
abbrev pub AllTellLive : Index → BasedList → List Order → Type 0
AllTellLive index h [] = Unit {0}
AllTellLive index h (order ∷ orders) = TellsLive h (reply_to index h order) × AllTellLive index (list_after index h order) orders

-- and to those of a script
abbrev pub ScriptTellsLive : Index → List Client → Type 0
ScriptTellsLive index script = AllByRecursion (λ (client : Client). AllTellLive index empty_list client.orders) script
