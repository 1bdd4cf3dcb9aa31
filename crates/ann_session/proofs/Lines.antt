-- The lines of a client so far, one command on.
use Rattle.std.proofs.Common.{◌≡◌, ℕ, suc, ◌+◌, ◌<◌, ◌≤◌, List, [], ◌∷◌, ◌++◌, refl, sym, ap, ◌∙◌, arith, map, take, get_or, length, append_assoc, length-append}
use Rattle.std.specs.Prelude.{Result, Ok, Err, IsErr}
use Rattle.std.proofs.lemmas.Bool.{false≢true}
use Rattle.std.proofs.lemmas.List.{take_all, take_more, map-append, length-map, get_or-map}
use Rattle.ann_script.specs.Order.{Order, order_of}
use Rattle.ann_script.specs.declared.command.Command.{Command}
use Rattle.ann_transcript.specs.Transcript.{line_text}
use Rattle.ann_transcript.specs.declared.reply.Reply.{Reply}
use Rattle.ann_said.specs.Said.{Line, line, lines_text}
use Rattle.ann_said.specs.Knowing.{Known, IsSaidSoFar}
use Rattle.ann_connection.specs.Opening.{Counts, Opening}
use Rattle.ann_session.specs.Served.{IsAnswered, IsBrokenOff, HasServed, IsServed}
use Rattle.ann_session.proofs.Causes.{AreCausedTo, caused_push, caused_all, caused_on, go_on}

append_none : (xs : List ℕ) → xs ++ [] ≡ xs
append_none [] = refl
append_none (x ∷ xs) = ap (λ (t : List ℕ). x ∷ t) (append_none xs)

text_push : (name : List ℕ) (number : ℕ) (lines : List Line) (l : Line) → lines_text name number (lines ++ l ∷ []) ≡ lines_text name number lines ++ line_text name (number + length lines) l.reply
text_push name number [] l = (let same : number ≡ number + 0 = omega arith in append_none (line_text name number l.reply) ∙ ap (λ (n : ℕ). line_text name n l.reply) same)
text_push name number (x ∷ lines) l =
    let same : number + 1 + length lines ≡ number + suc (length lines) = omega arith in
    ap (λ (t : List ℕ). line_text name number x.reply ++ t) (text_push name (number + 1) lines l ∙ ap (λ (n : ℕ). lines_text name (number + 1) lines ++ line_text name n l.reply) same)
    ∙ sym (append_assoc (line_text name number x.reply) (lines_text name (number + 1) lines) (line_text name (number + suc (length lines)) l.reply))

-- so many of a client's commands were served
pub record Serving (run : Opening) (old : Known) (Knows : Known → Type 0) (alone : Type 0) (before now : Counts) (name : List ℕ) (orders : List Order) (served : ℕ) (front whole : List ℕ) : Type 0 where
  pub lines : List Line
  pub size : length lines ≡ served
  pub commands : map (λ (l : Line). l.order) lines ≡ take served orders
  pub text : whole ≡ front ++ lines_text name 1 lines
  pub known : Known
  pub client : known.client ≡ old.client
  pub said : IsSaidSoFar run.index run.list known lines
  pub knows : Knows known
  pub caused : AreCausedTo alone run.counts before lines now

pub serving_none : (run : Opening) (old : Known) (Knows : Known → Type 0) (alone : Type 0) (counts : Counts) (name : List ℕ) (orders : List Order) (front : List ℕ) → Knows old → IsSaidSoFar run.index run.list old [] → Serving run old Knows alone counts counts name orders 0 front front
serving_none run old Knows alone counts name orders front knows said = record {
  lines = [];
  size = refl;
  commands = refl;
  text = sym (append_none front);
  known = old;
  client = refl;
  said = said;
  knows = knows;
  caused = refl;
}

-- the commands so far and the next one
next_order : (commands : List Command) (i : ℕ) (command : Command) → i < length commands → command ≡ get_or commands i command → take (i + 1) (map order_of commands) ≡ take i (map order_of commands) ++ order_of command ∷ []
next_order commands i command within is =
    take_more (map order_of commands) i (order_of command) (omega (arith, length-map commands order_of))
    ∙ ap (λ (order : Order). take i (map order_of commands) ++ order ∷ []) (get_or-map order_of commands i command (order_of command) within ∙ ap order_of (sym is))

pub serving_more : (run : Opening) (old : Known) (Knows Knows' : Known → Type 0) (alone : Type 0) (before now next : Counts) (name : List ℕ) (commands : List Command) (i number : ℕ) (front whole whole' : List ℕ) (command : Command) (reply : Reply) (s : Serving run old Knows alone before now name (map order_of commands) i front whole) → i < length commands → command ≡ get_or commands i command → number ≡ i + 1 → IsAnswered run s.known Knows' alone now next (order_of command) reply → whole' ≡ whole ++ line_text name number reply → Serving run old Knows' alone before next name (map order_of commands) (i + 1) front whole'
serving_more run old Knows Knows' alone before now next name commands i number front whole whole' command reply s within is counted answered grown =
    let l : Line = line (order_of command) reply answered.said.size in
    let both = length-append s.lines (l ∷ []) in
    let size = s.size in
    let here : number ≡ 1 + length s.lines = omega (arith, counted, size) in
    record {
      lines = s.lines ++ l ∷ [];
      size = omega (arith, both, size);
      commands =
          map-append (λ (x : Line). x.order) s.lines (l ∷ [])
          ∙ ap (λ (orders : List Order). orders ++ order_of command ∷ []) s.commands
          ∙ sym (next_order commands i command within is);
      text =
          grown
          ∙ ap (λ (t : List ℕ). t ++ line_text name number reply) s.text
          ∙ append_assoc front (lines_text name 1 s.lines) (line_text name number reply)
          ∙ ap (λ (t : List ℕ). front ++ t) (ap (λ (n : ℕ). lines_text name 1 s.lines ++ line_text name n reply) here ∙ sym (text_push name 1 s.lines l));
      known = answered.said.known;
      client = answered.said.client ∙ s.client;
      said = answered.said.says s.lines s.said;
      knows = answered.said.knows;
      caused = caused_push alone run.counts before now next s.lines l s.caused answered.cause;
    }

-- ---- how it ends

pub not_served : {E : Type 0} (run : Opening) (old : Known) (Knows : Known → Type 0) (alone : Type 0) (before now : Counts) (name : List ℕ) (orders : List Order) (front whole : List ℕ) (result : Result (Unit {0}) E) → IsErr result → IsBrokenOff run old Knows alone before now → IsServed run old Knows alone before now name orders front whole result
not_served run old Knows alone before now name orders front whole (Ok done) refused broken = absurd (false≢true refused)
not_served run old Knows alone before now name orders front whole (Err e) refused broken = broken

-- there was no memory for the next reply
pub serving_broken : (run : Opening) (old : Known) (Knows Knows' : Known → Type 0) (alone : Type 0) (before now next : Counts) (name : List ℕ) (orders : List Order) (i : ℕ) (front whole : List ℕ) (s : Serving run old Knows alone before now name orders i front whole) → IsBrokenOff run s.known Knows' alone now next → IsBrokenOff run old Knows' alone before next
serving_broken run old Knows Knows' alone before now next name orders i front whole s broken = record {
  known = broken.known;
  client = broken.client ∙ s.client;
  knows = broken.knows;
  on = go_on before now next (caused_on alone run.counts before now s.lines s.caused) broken.on;
}

-- there was none for its line
pub serving_cut : (run : Opening) (old : Known) (Knows Knows' : Known → Type 0) (alone : Type 0) (before now next : Counts) (name : List ℕ) (orders : List Order) (i : ℕ) (front whole : List ℕ) (order : Order) (reply : Reply) (s : Serving run old Knows alone before now name orders i front whole) → IsAnswered run s.known Knows' alone now next order reply → IsBrokenOff run old Knows' alone before next
serving_cut run old Knows Knows' alone before now next name orders i front whole order reply s answered = record {
  known = answered.said.known;
  client = answered.said.client ∙ s.client;
  knows = answered.said.knows;
  on = go_on before now next (caused_on alone run.counts before now s.lines s.caused) answered.cause.on;
}

pub serving_all : (run : Opening) (old : Known) (Knows : Known → Type 0) (alone : Type 0) (before now : Counts) (name : List ℕ) (orders : List Order) (i : ℕ) (front whole : List ℕ) → Serving run old Knows alone before now name orders i front whole → length orders ≤ i → HasServed run old Knows alone before now name orders front whole
serving_all run old Knows alone before now name orders i front whole s over = record {
  lines = s.lines;
  commands = s.commands ∙ take_all i orders over;
  text = s.text;
  known = s.known;
  client = s.client;
  said = s.said;
  knows = s.knows;
  caused = caused_all alone run.counts before now s.lines s.caused;
}
