-- A fill under way, one update on, and the line that it ends with.
use Rattle.std.proofs.Common.{◌≡◌, ℕ, Some, ◌+◌, ◌-◌, ◌*◌, ◌<◌, ◌≤◌, min, List, refl, sym, ap, ◌∙◌, subst, arith, length, length-drop, inl, inr}
use Rattle.std.specs.Prelude.{Result, Ok, Err}
use Rattle.std.specs.Int.{div_ceil}
use Rattle.std.proofs.lemmas.Grind.{div_ceil_times}
use Rattle.std.proofs.lemmas.List.{length-take}
use Rattle.ann_types.specs.Judge.{Refusal, judge_all}
use Rattle.ann_types.specs.Judge as judge
use Rattle.ann_types.specs.Lists.{upto, length_of}
use Rattle.ann_types.specs.declared.change.Change.{Change}
use Rattle.ann_script.specs.Generator.{inserts, behind, batch_of}
use Rattle.ann_script.specs.Order.{Fill}
use Rattle.ann_script.proofs.Generating.{length-inserts}
use Rattle.ann_transcript.specs.declared.reply.UpdateWord.{UpdateWord}
use Rattle.ann_transcript.specs.declared.reply.UpdateWord.TheVariants.{Dimension, Full, Present, Absent, LogFault, Stopped, Memory, MemoryLogged}
use Rattle.ann_transcript.specs.declared.reply.Reply.TheVariants.{Filled, Cut}
use Rattle.ann_reply.specs.Reply.{word_of}
use Rattle.ann_said.specs.Owned.{Placed, reach}
use Rattle.ann_said.specs.Table.{AreFirst}
use Rattle.ann_said.specs.Knowing.{Known, with_more, Learns, HasOwn, HasOwnCause, MakesSoFar}
use Rattle.ann_said.proofs.Prefixes.{begins_self, begins_trans, begins_length}
use Rattle.ann_said.proofs.Adding.{said_learned, made_learned}
use Rattle.ann_said.proofs.FillReplies.{filled_none, filled_next, filled_end, said_filled, said_cut_judged, said_cut_caused, said_cut_stopped, said_cut_logged}
use Rattle.ann_connection.specs.Causes.{IsUpdateCaused}
use Rattle.ann_connection.specs.Connection.{IsUpdated, MaySay}
use Rattle.ann_connection.specs.Opening.{Counts, Opening, GoOn}
use Rattle.ann_session.specs.Served.{IsAnswered, IsBrokenOff}
use Rattle.ann_session.proofs.Causes.{go_on_here, go_on, update_earlier}

-- ---- sizes

pub batch_size : (d seed count first updates : ℕ) → length (batch_of d seed count first updates) ≡ min 64 (count - 64 * updates)
batch_size d seed count first updates =
    length-take 64 (behind d seed count first updates)
    ∙ ap (min 64) (length-drop (64 * updates) (inserts d seed first count) ∙ ap (λ (n : ℕ). n - 64 * updates) (length-inserts d seed first count))

pub all_left : (d seed count first : ℕ) (left : List Change) → left ≡ inserts d seed first count → length left ≡ count
all_left d seed count first left is = ap length is ∙ length-inserts d seed first count

-- before its last update a fill has inserts left, and behind it none
pub turn_left : (count updates turns : ℕ) → turns ≡ div_ceil count 64 → updates < turns → 64 * updates < count
turn_left count updates turns is less = (let bound = div_ceil_times count 64 (omega arith) in let below = bound.1 in omega (arith, is, less, below))

pub turns_over : (count updates turns : ℕ) → turns ≡ div_ceil count 64 → turns ≤ updates → count ≤ 64 * updates
turns_over count updates turns is over = (let bound = div_ceil_times count 64 (omega arith) in let above = bound.0 in omega (arith, is, over, above))

-- ---- a fill under way

-- Behind so many updates of a fill, all of which were accepted: what the client knows, without the fill's entries, and what
-- these are worth; `left` are the inserts to come, and the last of those made is in front of position `at`.
pub record Filling (run : Opening) (old : Known) (Knows : Known → Type 0) (before now : Counts) (seed count first updates : ℕ) (left : List Change) (at : ℕ) : Type 0 where
  pub known : Known
  pub learns : Learns old known
  pub done : ℕ
  pub so_many : done ≡ min (64 * updates) count
  pub makes : MakesSoFar run.index run.list known done (AreFirst run.index known.client seed first done)
  pub ends : MakesSoFar run.index run.list known done (λ (ps : List Placed). reach ps ≡ at)
  pub told : at ≤ length_of known.told
  pub knows : Knows (with_more known done)
  pub rest : left ≡ behind run.index.params.d seed count first updates
  pub on : GoOn before now

learns_nothing : (known : Known) → Learns known known
learns_nothing known = record { client = refl; entries = refl; seen = begins_self known.seen; told = begins_self known.told; stop = inr refl }

pub filling_none : (run : Opening) (old : Known) (Knows : Known → Type 0) (counts : Counts) (d seed count first : ℕ) (left : List Change) → Knows old → d ≡ run.index.params.d → left ≡ inserts d seed first count → Filling run old Knows counts counts seed count first 0 left 0
filling_none run old Knows counts d seed count first left knows same_d is = record {
  known = old;
  learns = learns_nothing old;
  done = 0;
  so_many = omega arith;
  makes = filled_none run.index run.list old seed first;
  ends = λ h may. refl;
  told = omega arith;
  knows = (let same : old.entries ≡ old.entries + 0 = omega arith in subst (λ (n : ℕ). Knows (record old { entries = n })) same knows);
  rest = is ∙ ap (λ (n : ℕ). inserts n seed first count) same_d;
  on = go_on_here counts;
}

-- there was no memory for the next update
pub filling_broken : (run : Opening) (old : Known) (Knows : Known → Type 0) (alone : Type 0) (before now : Counts) (seed count first updates : ℕ) (left : List Change) (at : ℕ) → Filling run old Knows before now seed count first updates left at → IsBrokenOff run old Knows alone before now
filling_broken run old Knows alone before now seed count first updates left at f = record { known = with_more f.known f.done; client = f.learns.client; knows = f.knows; on = f.on }

-- ---- one update on

-- what the client knew of the new list before the fill
abbrev earlier : Known → ℕ → Known
earlier new entries = record new { entries = entries }

-- Behind a further update, which may be refused, the client knows `new`: what the fill's earlier updates are worth then.
record Learnt (run : Opening) (old : Known) (seed first updates at : ℕ) (new : Known) : Type 0 where
  entries : ℕ
  sum : new.entries ≡ entries + 64 * updates
  learns : Learns old (earlier new entries)
  makes : MakesSoFar run.index run.list (earlier new entries) (64 * updates) (AreFirst run.index new.client seed first (64 * updates))
  ends : MakesSoFar run.index run.list (earlier new entries) (64 * updates) (λ (ps : List Placed). reach ps ≡ at)
  told : at ≤ length_of new.told

learns_more : (old known new : Known) → Learns old known → Learns known new → Learns old new
learns_more old known new first next = record {
  client = next.client ∙ first.client;
  entries = next.entries ∙ first.entries;
  seen = begins_trans new.seen known.seen old.seen next.seen first.seen;
  told = begins_trans new.told known.told old.told next.told first.told;
  stop = elim first.stop [
    | inl none ↦ inl none
    | inr same ↦ elim next.stop [ inl none ↦ inl (sym same ∙ none) | inr is ↦ inr (is ∙ same) ]
  ];
}

learnt : (run : Opening) (old : Known) (Knows : Known → Type 0) (before now : Counts) (seed count first updates : ℕ) (left : List Change) (at : ℕ) (f : Filling run old Knows before now seed count first updates left at) → 64 * updates < count → (new : Known) → Learns (with_more f.known f.done) new → Learnt run old seed first updates at new
learnt run old Knows before now seed count first updates left at f less new more =
    let base : Known = earlier new f.known.entries in
    let so_many = f.so_many in
    let whole : f.done ≡ 64 * updates = omega (arith, so_many, less) in
    let on : Learns f.known base = record { client = more.client; entries = refl; seen = more.seen; told = more.told; stop = more.stop } in
    let told = f.told in
    let longer = begins_length new.told f.known.told more.told in
    record {
      entries = f.known.entries;
      sum = more.entries ∙ ap (λ (n : ℕ). f.known.entries + n) whole;
      learns = learns_more old f.known base f.learns on;
      makes =
          subst (λ (n : ℕ). MakesSoFar run.index run.list base n (AreFirst run.index new.client seed first n)) whole
          (made_learned run.index run.list f.known base f.done (λ client ps. AreFirst run.index client seed first f.done ps) on f.makes);
      ends =
          subst (λ (n : ℕ). MakesSoFar run.index run.list base n (λ (ps : List Placed). reach ps ≡ at)) whole
          (made_learned run.index run.list f.known base f.done (λ client ps. reach ps ≡ at) on f.ends);
      told = omega (arith, told, longer);
    }

-- the fill's entries are some of those that the client has
knows_more : (Knows : Known → Type 0) (new : Known) (entries more n : ℕ) → new.entries ≡ entries + more → Knows (with_more new n) → Knows (with_more (earlier new entries) (more + n))
knows_more Knows new entries more n sum knows =
    let same : new.entries + n ≡ entries + (more + n) = omega (arith, sum) in
    subst (λ (m : ℕ). Knows (record new { entries = m })) same knows

knows_all : (Knows : Known → Type 0) (new : Known) (entries more : ℕ) → new.entries ≡ entries + more → Knows new → Knows (with_more (earlier new entries) more)
knows_all Knows new entries more sum knows = subst (λ (m : ℕ). Knows (record new { entries = m })) sum knows

pub filling_more : (run : Opening) (old : Known) (Knows Knows' : Known → Type 0) (before now next : Counts) (seed count first updates : ℕ) (left left' batch : List Change) (at end : ℕ) (f : Filling run old Knows before now seed count first updates left at) → 64 * updates < count → batch ≡ batch_of run.index.params.d seed count first updates → left' ≡ behind run.index.params.d seed count first (updates + 1) → IsUpdated run (with_more f.known f.done) Knows' batch (Ok end) → GoOn now next → Filling run old Knows' before next seed count first (updates + 1) left' end
filling_more run old Knows Knows' before now next seed count first updates left left' batch at end f less batch_is rest a on =
    let new : Known = a.known in
    let s = learnt run old Knows before now seed count first updates left at f less new a.learns in
    let sum = s.sum in
    let base : Known = earlier new s.entries in
    let size : length batch ≡ min 64 (count - 64 * updates) = ap length batch_is ∙ batch_size run.index.params.d seed count first updates in
    let same : new.entries + length batch ≡ s.entries + (64 * updates + length batch) = omega (arith, sum) in
    let own : HasOwn run.list new.told new.client (s.entries + (64 * updates + length batch)) end = subst (λ (n : ℕ). HasOwn run.list new.told new.client n end) same a.own in
    let few : 64 * updates ≤ count = omega (arith, less) in
    let some : 1 ≤ length batch = omega (arith, size, less) in
    record {
      known = base;
      learns = s.learns;
      done = 64 * updates + length batch;
      so_many = omega (arith, size, less);
      makes = filled_next run.index run.list a.before base seed count first updates end batch batch_is few own a.last s.makes;
      ends = filled_end run.index run.list a.before base (64 * updates) end batch some own a.last;
      told = own.long;
      knows = knows_more Knows' new s.entries (64 * updates) (length batch) sum a.knows;
      rest = rest;
      on = go_on before now next f.on on;
    }

-- ---- the line of a fill

pub filling_done : (run : Opening) (old : Known) (Knows : Known → Type 0) (alone : Type 0) (before now : Counts) (seed count first updates : ℕ) (left : List Change) (at : ℕ) → Filling run old Knows before now seed count first updates left at → 1 ≤ count → count ≤ 64 * updates → IsAnswered run old Knows alone before now (Fill seed count first) (Filled count at)
filling_done run old Knows alone before now seed count first updates left at f some over =
    let so_many = f.so_many in
    let all : f.done ≡ count = omega (arith, so_many, over) in
    let makes = subst (λ (n : ℕ). MakesSoFar run.index run.list f.known n (AreFirst run.index f.known.client seed first n)) all f.makes in
    let ends = subst (λ (n : ℕ). MakesSoFar run.index run.list f.known n (λ (ps : List Placed). reach ps ≡ at)) all f.ends in
    record {
      said = record {
        known = with_more f.known count;
        client = f.learns.client;
        size = count;
        says = λ lines so. said_filled run.index run.list f.known lines seed count first at some f.told makes ends (said_learned run.index run.list old f.known lines f.learns so);
        knows = subst (λ (n : ℕ). Knows (with_more f.known n)) all f.knows;
      };
      cause = record { on = f.on; cause = tt };
    }

-- the next update was refused
module _ (run : Opening) (old : Known) (Knows : Known → Type 0) (seed count first updates : ℕ) (batch : List Change) (at : ℕ) where
  cut_judged : (new : Known) → Learnt run old seed first updates at new → 64 * updates < count → batch ≡ batch_of run.index.params.d seed count first updates → (place : ℕ) (why : Refusal) (last : ℕ) → HasOwn run.list new.told new.client new.entries last → judge_all run.index.params (upto new.told last) new.client batch ≡ Some (place, why) → Knows new → MaySay run old Knows (Fill seed count first) (Cut (64 * updates) (word_of place why last))
  cut_judged new s less batch_is place why last own judged knows =
      let base : Known = earlier new s.entries in
      let own' : HasOwn run.list new.told new.client (s.entries + 64 * updates) last = subst (λ (n : ℕ). HasOwn run.list new.told new.client n last) s.sum own in
      let judged' = ap (λ (cs : List Change). judge_all run.index.params (upto new.told last) new.client cs) (sym batch_is) ∙ judged in
      record {
        known = with_more base (64 * updates);
        client = s.learns.client;
        size = 64 * updates;
        says = λ lines so. said_cut_judged run.index run.list base lines seed count first updates place why last less own' judged' s.makes (said_learned run.index run.list old base lines s.learns so);
        knows = knows_all Knows new s.entries (64 * updates) s.sum knows;
      }

  cut_caused : (new : Known) → Learnt run old seed first updates at new → 64 * updates < count → (why : UpdateWord) → HasOwnCause why → Knows new → MaySay run old Knows (Fill seed count first) (Cut (64 * updates) why)
  cut_caused new s less why cause knows =
      let base : Known = earlier new s.entries in
      record {
        known = with_more base (64 * updates);
        client = s.learns.client;
        size = 64 * updates;
        says = λ lines so. said_cut_caused run.index run.list base lines seed count first updates at why less cause s.told s.makes s.ends (said_learned run.index run.list old base lines s.learns so);
        knows = knows_all Knows new s.entries (64 * updates) s.sum knows;
      }

  cut_stopped : (new : Known) → Learnt run old seed first updates at new → 64 * updates < count → (last : ℕ) → new.stop ≡ last + 1 → Knows new → MaySay run old Knows (Fill seed count first) (Cut (64 * updates) (Stopped last))
  cut_stopped new s less last stop knows =
      let base : Known = earlier new s.entries in
      record {
        known = with_more base (64 * updates);
        client = s.learns.client;
        size = 64 * updates;
        says = λ lines so. said_cut_stopped run.index run.list base lines seed count first updates at last less stop s.told s.makes s.ends (said_learned run.index run.list old base lines s.learns so);
        knows = knows_all Knows new s.entries (64 * updates) s.sum knows;
      }

  cut_logged : (new : Known) → Learnt run old seed first updates at new → 64 * updates < count → batch ≡ batch_of run.index.params.d seed count first updates → (last : ℕ) → Knows (with_more new (length batch)) → MaySay run old Knows (Fill seed count first) (Cut (64 * updates) (MemoryLogged last))
  cut_logged new s less batch_is last knows =
      let base : Known = earlier new s.entries in
      record {
        known = with_more base (64 * updates + length batch);
        client = s.learns.client;
        size = 64 * updates + length batch;
        says = λ lines so. said_cut_logged run.index run.list base lines seed count first updates at last batch less batch_is s.told s.makes s.ends (said_learned run.index run.list old base lines s.learns so);
        knows = knows_more Knows new s.entries (64 * updates) (length batch) s.sum knows;
      }

-- by the word of the refusal
cut_said : (run : Opening) (old : Known) (Knows Knows' : Known → Type 0) (before now : Counts) (seed count first updates : ℕ) (left batch : List Change) (at : ℕ) (f : Filling run old Knows before now seed count first updates left at) → 64 * updates < count → batch ≡ batch_of run.index.params.d seed count first updates → (why : UpdateWord) → IsUpdated run (with_more f.known f.done) Knows' batch (Err why) → MaySay run old Knows' (Fill seed count first) (Cut (64 * updates) why)
cut_said run old Knows Knows' before now seed count first updates left batch at f less batch_is (Dimension place got want last) a =
    cut_judged run old Knows' seed count first updates batch at a.known (learnt run old Knows before now seed count first updates left at f less a.known a.learns) less batch_is place (judge.Dimension got want) last a.own a.judged a.knows
cut_said run old Knows Knows' before now seed count first updates left batch at f less batch_is (Full place last) a =
    cut_judged run old Knows' seed count first updates batch at a.known (learnt run old Knows before now seed count first updates left at f less a.known a.learns) less batch_is place judge.Full last a.own a.judged a.knows
cut_said run old Knows Knows' before now seed count first updates left batch at f less batch_is (Present place tag last) a =
    cut_judged run old Knows' seed count first updates batch at a.known (learnt run old Knows before now seed count first updates left at f less a.known a.learns) less batch_is place (judge.Present tag) last a.own a.judged a.knows
cut_said run old Knows Knows' before now seed count first updates left batch at f less batch_is (Absent place tag last) a =
    cut_judged run old Knows' seed count first updates batch at a.known (learnt run old Knows before now seed count first updates left at f less a.known a.learns) less batch_is place (judge.Absent tag) last a.own a.judged a.knows
cut_said run old Knows Knows' before now seed count first updates left batch at f less batch_is LogFault a =
    cut_caused run old Knows' seed count first updates batch at a.known (learnt run old Knows before now seed count first updates left at f less a.known a.learns) less LogFault tt a.knows
cut_said run old Knows Knows' before now seed count first updates left batch at f less batch_is (Stopped last) a =
    cut_stopped run old Knows' seed count first updates batch at a.known (learnt run old Knows before now seed count first updates left at f less a.known a.learns) less last a.stop a.knows
cut_said run old Knows Knows' before now seed count first updates left batch at f less batch_is Memory a =
    cut_caused run old Knows' seed count first updates batch at a.known (learnt run old Knows before now seed count first updates left at f less a.known a.learns) less Memory tt a.knows
cut_said run old Knows Knows' before now seed count first updates left batch at f less batch_is (MemoryLogged last) a =
    cut_logged run old Knows' seed count first updates batch at a.known (learnt run old Knows before now seed count first updates left at f less a.known a.learns) less batch_is last a.knows

pub filling_cut : (run : Opening) (old : Known) (Knows Knows' : Known → Type 0) (alone : Type 0) (before now next : Counts) (seed count first updates : ℕ) (left batch : List Change) (at : ℕ) (f : Filling run old Knows before now seed count first updates left at) → 64 * updates < count → batch ≡ batch_of run.index.params.d seed count first updates → (why : UpdateWord) → IsUpdated run (with_more f.known f.done) Knows' batch (Err why) → IsUpdateCaused alone run.counts now next (let refused : Result ℕ UpdateWord = Err why in refused) → IsAnswered run old Knows' alone before next (Fill seed count first) (Cut (64 * updates) why)
filling_cut run old Knows Knows' alone before now next seed count first updates left batch at f less batch_is why a caused = record {
  said = cut_said run old Knows Knows' before now seed count first updates left batch at f less batch_is why a;
  cause = record { on = go_on before now next f.on caused.on; cause = update_earlier alone run.counts before now next why f.on (caused.cause why refl) };
}
