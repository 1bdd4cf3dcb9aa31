-- How the counts of faults move in a command.
use Rattle.std.specs.Prelude.{◌≡◌, ◌≢◌, ◌⊎◌, ℕ}
use Rattle.ann_fault.specs.Counts.{next_count}
use Rattle.ann_log.specs.Causes.{HasCauses}
use Rattle.ann_init.specs.declared.refused.InitWhy.TheVariants as why
use Rattle.ann_commands.specs.declared.owed.Owed.{Owed}
use Rattle.ann_commands.specs.declared.owed.Owed.TheVariants.{Transcribed, Usage, Line, ReadFault, Memory, Init, Summed, NoIndex, Bad, StoreFault}

-- a read fault is owed where a read failed, and in every other case none did
abbrev pub CountsDue : Owed → ℕ → ℕ → Type 0
CountsDue (Transcribed transcript) before now = now ≡ before
CountsDue Usage before now = now ≡ before
CountsDue (Line text) before now = now ≡ before
CountsDue ReadFault before now = now ≡ next_count before
CountsDue Memory before now = now ≡ before
CountsDue (Init ended) before now = HasCauses before now why.ReadFault ended
CountsDue (Summed text) before now = now ≡ before
CountsDue NoIndex before now = now ≡ before
CountsDue (Bad text) before now = now ≡ before
CountsDue StoreFault before now = now ≡ before

-- the status 4 says that one read failed; behind a write fault one may have, and in every other case none did
pub record CountsReads (status before now : ℕ) : Type 0 where
  pub failed : status ≡ 4 → now ≡ next_count before
  pub calm : status ≢ 4 → status ≢ 5 → now ≡ before
  pub one : (now ≡ before) ⊎ (now ≡ next_count before)

-- the status 5 says that one write failed, and in every other case none did
pub record CountsWrites (status before now : ℕ) : Type 0 where
  pub failed : status ≡ 5 → now ≡ next_count before
  pub calm : status ≢ 5 → now ≡ before
