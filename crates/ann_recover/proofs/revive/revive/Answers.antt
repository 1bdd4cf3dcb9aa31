use Rattle.std.proofs.Common.{arith}
use Rattle.ann_base.proofs.Results.{err_is}
use Rattle.ann_log.specs.LogView.{files_of}
use Rattle.ann_recover.specs.Loaded.{IsLoaded}
use Rattle.ann_recover.specs.NotRecovered.{IsNotRevived}
use Rattle.ann_recover.proofs.Counting.{settle_counted}
use Rattle.ann_recover.proofs.Leaving.{load_left, settle_left}
use Rattle.ann_recover.proofs.Opening.{loaded_of, refused_of, fresh_during, at_rest, settled_during}
use Rattle.ann_recover.proofs.Reviving.{revived_is}
use Rattle.ann_recover.proofs.Sounding.{fresh_sound, settled_sound, unsettled_sound}
use Rattle.ann_recover.proofs.revive.revive.Goals as goal

pub returns-in_err-loaded-clause-during : goal.returns-in_err-loaded-clause-during
returns-in_err-loaded-clause-during g c = fresh_during g.F.LogFile g.V.Seal.Sealed.tells g.V.Seal.Sealed.bytes (g.V.Vault.held c.args.vault.now) c.args.log.now c.args.entries c.requires

pub settle-requires : goal.settle-requires
settle-requires g c =
    let is : IsLoaded g.V.Seal.Sealed.tells g.V.Seal.Sealed.bytes (g.V.Vault.held c.args.vault.now) c.args.log.now.params c.args.log.now.book c.args.log.now.base c.args.entries c.in_ok-loaded.loaded =
    loaded_of g.V.Seal.Sealed.tells g.V.Seal.Sealed.bytes (g.V.Vault.held c.args.vault.now) _ _ _ _ _ _ _ _ c.in_ok-loaded.loaded c.params.ensures c.book.ensures.book c.base.ensures.base c.into_vec-entries.ensures c.in_ok-loaded.ensures.loaded in
    let bound = c.count-bound.ensures.bound in
    let place = c.count-bound.ensures.count in
    let many = c.requires.count in
    at_rest g.F.LogFile g.V.Seal.Sealed.tells g.V.Seal.Sealed.bytes (g.V.Vault.held c.args.vault.now) c.args.log.now c.args.entries c.requires c.in_ok-loaded.loaded is (omega (arith, bound, place, many))

pub returns-in_err-loaded-clause-refused : goal.returns-in_err-loaded-clause-refused
returns-in_err-loaded-clause-refused g c =
    err_is c.from_residual.result (IsNotRevived g.F.LogFile g.V.Seal.Sealed.tells g.V.Seal.Sealed.bytes (g.V.Vault.held c.args.vault.now) (g.V.Vault.held c.load.new.vault) c.args.log.now c.args.entries (files_of c.args.log.now)) _ c.from_residual.ensures.1
    (load_left g.F.LogFile g.V.Seal.Sealed.tells g.V.Seal.Sealed.bytes (g.V.Vault.held c.args.vault.now) (g.V.Vault.held c.load.new.vault) c.args.log.now c.args.entries c.in_err-loaded.ensures.same _
    (refused_of g.V.Seal.Sealed.tells g.V.Seal.Sealed.bytes (g.V.Vault.held c.args.vault.now) _ _ _ _ _ _ _ c.params.ensures c.base.ensures.base c.into_vec-entries.ensures c.in_err-loaded.ensures.refused))

pub returns-in_err-settle-clause-refused : goal.returns-in_err-settle-clause-refused
returns-in_err-settle-clause-refused g c =
    let is : IsLoaded g.V.Seal.Sealed.tells g.V.Seal.Sealed.bytes (g.V.Vault.held c.args.vault.now) c.args.log.now.params c.args.log.now.book c.args.log.now.base c.args.entries c.in_ok-loaded.loaded =
    loaded_of g.V.Seal.Sealed.tells g.V.Seal.Sealed.bytes (g.V.Vault.held c.args.vault.now) _ _ _ _ _ _ _ _ c.in_ok-loaded.loaded c.params.ensures c.book.ensures.book c.base.ensures.base c.into_vec-entries.ensures c.in_ok-loaded.ensures.loaded in
    err_is c.from_residual-in_err-settle.result (IsNotRevived g.F.LogFile g.V.Seal.Sealed.tells g.V.Seal.Sealed.bytes (g.V.Vault.held c.args.vault.now) (g.V.Vault.held c.settle.new.vault) c.args.log.now c.args.entries (files_of c.settle.new.log)) _ c.from_residual-in_err-settle.ensures.1
    (settle_left g.F.LogFile g.met.F.LogFile.reads_an_image g.V.Seal.Sealed.tells g.V.Seal.Sealed.bytes (g.V.Vault.held c.args.vault.now) c.args.log.now c.args.entries c.requires c.in_ok-loaded.loaded is
    c.settle.new.log (g.V.Vault.held c.load.new.vault) (g.V.Vault.held c.settle.new.vault) c.in_ok-loaded.ensures.same _ c.in_err-settle.ensures.why c.in_err-settle.ensures.refused)

pub returns-in_err-settle-clause-during : goal.returns-in_err-settle-clause-during
returns-in_err-settle-clause-during g c =
    let is : IsLoaded g.V.Seal.Sealed.tells g.V.Seal.Sealed.bytes (g.V.Vault.held c.args.vault.now) c.args.log.now.params c.args.log.now.book c.args.log.now.base c.args.entries c.in_ok-loaded.loaded =
    loaded_of g.V.Seal.Sealed.tells g.V.Seal.Sealed.bytes (g.V.Vault.held c.args.vault.now) _ _ _ _ _ _ _ _ c.in_ok-loaded.loaded c.params.ensures c.book.ensures.book c.base.ensures.base c.into_vec-entries.ensures c.in_ok-loaded.ensures.loaded in
    settled_during g.F.LogFile g.V.Seal.Sealed.tells g.V.Seal.Sealed.bytes (g.V.Vault.held c.args.vault.now) c.args.log.now c.args.entries c.requires c.in_ok-loaded.loaded is (files_of c.settle.new.log) c.settle.ensures.during

pub returns-in_err-settle-clause-cause : goal.returns-in_err-settle-clause-cause
returns-in_err-settle-clause-cause g c =
    settle_counted c.in_err-settle.field-0.0 c.from_residual-in_err-settle.result _ _ _ _ _ _ _ _ _ c.from_residual-in_err-settle.ensures.1 c.in_ok-loaded.ensures.cause.calm c.in_err-settle.ensures.cause.caused

pub returns-clause-revived : goal.returns-clause-revived
returns-clause-revived g c =
    let is : IsLoaded g.V.Seal.Sealed.tells g.V.Seal.Sealed.bytes (g.V.Vault.held c.args.vault.now) c.args.log.now.params c.args.log.now.book c.args.log.now.base c.args.entries c.in_ok-loaded.loaded =
    loaded_of g.V.Seal.Sealed.tells g.V.Seal.Sealed.bytes (g.V.Vault.held c.args.vault.now) _ _ _ _ _ _ _ _ c.in_ok-loaded.loaded c.params.ensures c.book.ensures.book c.base.ensures.base c.into_vec-entries.ensures c.in_ok-loaded.ensures.loaded in
    revived_is g.F.LogFile g.V.Seal.Sealed.tells g.V.Seal.Sealed.bytes (g.V.Vault.held c.args.vault.now) c.args.log.now c.settle.new.log c.args.entries c.requires c.in_ok-loaded.loaded is
    (g.V.Vault.held c.settle.new.vault) c.in_ok-settle.ensures.open_now (g.V.Vault.held c.load.new.vault) c.in_ok-loaded.ensures.same c.in_ok-settle.ensures.settled

pub returns-clause-during : goal.returns-clause-during
returns-clause-during g c =
    let is : IsLoaded g.V.Seal.Sealed.tells g.V.Seal.Sealed.bytes (g.V.Vault.held c.args.vault.now) c.args.log.now.params c.args.log.now.book c.args.log.now.base c.args.entries c.in_ok-loaded.loaded =
    loaded_of g.V.Seal.Sealed.tells g.V.Seal.Sealed.bytes (g.V.Vault.held c.args.vault.now) _ _ _ _ _ _ _ _ c.in_ok-loaded.loaded c.params.ensures c.book.ensures.book c.base.ensures.base c.into_vec-entries.ensures c.in_ok-loaded.ensures.loaded in
    settled_during g.F.LogFile g.V.Seal.Sealed.tells g.V.Seal.Sealed.bytes (g.V.Vault.held c.args.vault.now) c.args.log.now c.args.entries c.requires c.in_ok-loaded.loaded is (files_of c.settle.new.log) c.settle.ensures.during

pub returns-in_err-loaded-clause-sound : goal.returns-in_err-loaded-clause-sound
returns-in_err-loaded-clause-sound g c told seals kept =
    fresh_sound g.F.LogFile g.V.Seal.Sealed.tells g.V.Seal.Sealed.bytes (g.V.Vault.held c.args.vault.now) c.args.log.now c.args.entries c.requires told seals kept (g.V.Vault.held c.load.new.vault) (c.in_err-loaded.ensures.same seals)

pub returns-in_err-settle-clause-sound : goal.returns-in_err-settle-clause-sound
returns-in_err-settle-clause-sound g c told seals kept =
    let is : IsLoaded g.V.Seal.Sealed.tells g.V.Seal.Sealed.bytes (g.V.Vault.held c.args.vault.now) c.args.log.now.params c.args.log.now.book c.args.log.now.base c.args.entries c.in_ok-loaded.loaded =
    loaded_of g.V.Seal.Sealed.tells g.V.Seal.Sealed.bytes (g.V.Vault.held c.args.vault.now) _ _ _ _ _ _ _ _ c.in_ok-loaded.loaded c.params.ensures c.book.ensures.book c.base.ensures.base c.into_vec-entries.ensures c.in_ok-loaded.ensures.loaded in
    unsettled_sound g.F.LogFile g.V.Seal.Sealed.tells g.V.Seal.Sealed.bytes (g.V.Vault.held c.args.vault.now) c.args.log.now c.args.entries c.requires told seals kept c.in_ok-loaded.loaded is c.settle.new.log (g.V.Vault.held c.load.new.vault) (g.V.Vault.held c.settle.new.vault) (c.in_ok-loaded.ensures.same seals) c.settle.ensures.during c.in_err-settle.ensures.refused

pub returns-clause-sound : goal.returns-clause-sound
returns-clause-sound g c told seals kept =
    let is : IsLoaded g.V.Seal.Sealed.tells g.V.Seal.Sealed.bytes (g.V.Vault.held c.args.vault.now) c.args.log.now.params c.args.log.now.book c.args.log.now.base c.args.entries c.in_ok-loaded.loaded =
    loaded_of g.V.Seal.Sealed.tells g.V.Seal.Sealed.bytes (g.V.Vault.held c.args.vault.now) _ _ _ _ _ _ _ _ c.in_ok-loaded.loaded c.params.ensures c.book.ensures.book c.base.ensures.base c.into_vec-entries.ensures c.in_ok-loaded.ensures.loaded in
    settled_sound g.F.LogFile g.V.Seal.Sealed.tells g.V.Seal.Sealed.bytes (g.V.Vault.held c.args.vault.now) c.args.log.now c.args.entries c.requires told seals kept c.in_ok-loaded.loaded is c.settle.new.log (g.V.Vault.held c.load.new.vault) (g.V.Vault.held c.settle.new.vault) (c.in_ok-loaded.ensures.same seals) c.in_ok-settle.ensures.settled
