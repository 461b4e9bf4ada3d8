-- What a rehearsal takes of the counter and of the cache of salted passwords that it is handed.
use Rattle.std.specs.Prelude.{◌≡◌, ◌++◌, Bool, true, false, Option, Result, Ok, Err}
use Rattle.mongo_scram.specs.declared.cache.SaltedKey.{SaltedKey}
use Rattle.mongo_scram.specs.Costs.{Ledgers}
use Rattle.mongo_establish.specs.declared.establisher.PooledConnection.{PooledConnection}
use Rattle.mongo_establish.specs.declared.establisher.EstablishError.{EstablishError}
use Rattle.mongo_establish.specs.KeyCosts.{AcceptedKeyCosts, RefusedKeyCosts}
use Rattle.mongo_settings.specs.declared.settings.Settings.{Settings}
use Rattle.mongo_settings.specs.declared.rehearsal.Rehearsal.{Rehearsal}
use Rattle.mongo_settings.specs.Rehearsal.{IsRehearsal}
use Rattle.mongo_settings.specs.Rounds.{DerivesFrom, is_after_login, logs_in}
use Rattle.mongo_settings.specs.Batch.{both}

-- by whether the login was accepted
abbrev pub CostsBy : Bool → Option SaltedKey → Ledgers → Ledgers → Type 0
CostsBy true key first last = AcceptedKeyCosts key first last
CostsBy false key first last = RefusedKeyCosts key first last

-- whether the login of an establishment was accepted that ended so
abbrev pub has_logged_in : Result PooledConnection EstablishError → Bool
has_logged_in (Ok pooled) = true
has_logged_in (Err refusal) = is_after_login refusal.cause.kind

-- the rehearsal is that of settings, whose establishment ended so
pub record Rehearses (settings : Settings) (ended : Result PooledConnection EstablishError) (rehearsal : Rehearsal) : Type 0 where
  pub rehearsal_is : IsRehearsal settings rehearsal
  pub logs_in_is : logs_in rehearsal_is.report.outcome ≡ has_logged_in ended

pub record CostsLedgers (settings : Settings) (logged_in : Bool) (first last : Ledgers) : Type 0 where
  pub key : Option SaltedKey
  pub key_is : DerivesFrom settings key
  pub taken : CostsBy logged_in key first last

-- the rehearsal has the report of settings, whatever the cache held, and took so much
pub record CostsAsReported (settings : Settings) (first last : Ledgers) (rehearsal : Rehearsal) : Type 0 where
  pub rehearsal_is : IsRehearsal settings rehearsal
  pub takes : CostsLedgers settings (logs_in rehearsal_is.report.outcome) first last

-- the batch has one report more, and says how it came out with that
pub record JoinsReport (settings : Settings) (first last : Ledgers) (old new : Rehearsal) : Type 0 where
  pub rehearsal : Rehearsal
  pub cost : CostsAsReported settings first last rehearsal
  pub report : new.report.items ≡ old.report.items ++ rehearsal.report.items
  pub status : new.status ≡ both old.status rehearsal.status
