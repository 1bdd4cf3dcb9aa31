-- The transcript of a client's commands, line by line.
use Rattle.std.proofs.Common.{◌≡◌, ◌≤◌, ℕ, ◌+◌, ◌*◌, List, ◌++◌, sym, ap, ◌∙◌, length, drop}
use Rattle.std.proofs.lemmas.List.{drop_all}
use Rattle.ann_types.specs.Lists.{BasedList, length_of, live_of, empty_list}
use Rattle.ann_types.specs.declared.params.Params.{Params}
use Rattle.ann_script.specs.Order.{Order}
use Rattle.ann_transcript.specs.Transcript.{last_text}
use Rattle.ann_once.specs.Once.{once_index, lines_from}
use Rattle.ann_once.specs.Session.{Keeps}
use Rattle.ann_once.specs.declared.session.Session.{Session}

-- The lines so far and those to come, behind the list that the session keeps, are the whole transcript; and the list has
-- no more entries than the commands so far may have made.
pub record Transcribing (params : Params) (name : List ℕ) (orders : List Order) (i number : ℕ) (session : Session) (text : List ℕ) : Type 0 where
  pub list : BasedList
  pub keeps : Keeps list session
  pub same : session.params ≡ params
  pub counts : number ≡ i + 1
  pub few : session.view.at ≤ 64 * i
  pub whole : text ++ lines_from (once_index params) name number list (drop i orders) ≡ lines_from (once_index params) name 1 empty_list orders

-- behind the last command
pub ends : (params : Params) (name : List ℕ) (orders : List Order) (i number : ℕ) (session : Session) (text : List ℕ) (entries live : ℕ) → length orders ≤ i → (t : Transcribing params name orders i number session text) → entries ≡ session.view.at → live ≡ length (live_of t.list) → text ++ last_text entries live ≡ lines_from (once_index params) name 1 empty_list orders
ends params name orders i number session text entries live over t at count =
    ap (λ (n : ℕ). text ++ last_text n live) (at ∙ t.keeps.stands.at)
    ∙ ap (λ (n : ℕ). text ++ last_text (length_of t.list) n) count
    ∙ ap (λ (os : List Order). text ++ lines_from (once_index params) name number t.list os) (sym (drop_all i orders over))
    ∙ t.whole
