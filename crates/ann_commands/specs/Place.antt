-- The place where an index is kept, as a command is given it.
use Rattle.std.specs.Prelude.{◌≡◌, ◌∷◌, List, IsSome, IsSomeAnd, Some, length}
use Rattle.std.specs.List.{AllByRecursion}
use Rattle.std.proofs.Common.{Vec, Global}
use Rattle.ann_log.specs.declared.files.Files.{Files}
use Rattle.ann_commands.specs.declared.place.Place.{Place}

-- both log files, the vault, an eye and a door for each of 32 clients, and an eye for each of 16 workers
pub record IsWhole {F V E : Type 0} (place : Place F V E) : Type 0 where
  pub log : IsSome place.log
  pub second : IsSome place.second
  pub vault : IsSome place.vault
  pub client_eyes : length place.client_eyes.items ≡ 32
  pub worker_eyes : IsSomeAnd place.worker_eyes (λ eyes. length eyes.items ≡ 16)
  pub doors : length place.doors.items ≡ 32

-- a place of these parts, with doors at which nobody was refused
pub record IsPlaceOf {F V E : Type 0} (log second : F) (vault : V) (clients workers : Vec E Global) (place : Place F V E) : Type 0 where
  pub log_is : place.log ≡ Some log
  pub second_is : place.second ≡ Some second
  pub vault_is : place.vault ≡ Some vault
  pub clients_are : place.client_eyes ≡ clients
  pub workers_are : place.worker_eyes ≡ Some workers
  pub doors : AllByRecursion (λ refused. refused ≡ 0) place.doors.items

-- the place had these files, and has those in their places; all else is as it was
pub record GetsFiles {F V E : Type 0} (old new : Place F V E) (before after : Files F) : Type 0 where
  pub log_was : old.log ≡ Some before.first
  pub second_was : old.second ≡ Some before.second
  pub is : new ≡ record old { log = Some after.first; second = Some after.second }

-- The place had these files, this vault and this first worker eye before the other ones, and has those in their places; all
-- else is as it was.
pub record GetsParts {F V E : Type 0} (old new : Place F V E) (before after : Files F) (vault vault' : V) (eye eye' : E) : Type 0 where
  pub rest : List E
  pub eyes : Vec E Global
  pub eyes' : Vec E Global
  pub log_was : old.log ≡ Some before.first
  pub second_was : old.second ≡ Some before.second
  pub vault_was : old.vault ≡ Some vault
  pub eyes_were : old.worker_eyes ≡ Some eyes
  pub first_was : eyes.items ≡ eye ∷ rest
  pub first_is : eyes'.items ≡ eye' ∷ rest
  pub is : new ≡ record old { log = Some after.first; second = Some after.second; vault = Some vault'; worker_eyes = Some eyes' }
