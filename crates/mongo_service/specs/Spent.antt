-- What the requests of a stream cost: the rounds of the keys that were derived for them.
use Rattle.std.specs.Prelude.{◌≡◌, ℕ, ◌+◌, ◌⊎◌, Option, Some, List}
use Rattle.mongo_service.specs.declared.fault.ServeFault.{ServeFault}
use Rattle.mongo_service.specs.declared.fault.ServeFault.TheVariants.{OutOfMemory}
use Rattle.mongo_session.specs.declared.serve_settings.ServeSettings.{ServeSettings}
use Rattle.mongo_session.specs.Costs.{AllRounds, DocumentRounds, CostsAtMost}
use Rattle.mongo_service.specs.Taken.{CarriesRequest}

-- after the requests that were answered nothing, or where memory ran out for one more, at most its rounds
abbrev pub SpendsAfter : ServeSettings → Option ServeFault → List ℕ → ℕ → ℕ → Type 0
SpendsAfter settings fault more first last =
    (last ≡ first) ⊎ ((fault ≡ Some OutOfMemory) × ((document : List ℕ) × CarriesRequest more document × CostsAtMost (DocumentRounds settings document) first last))

-- the counter rose from the first number to the last by the rounds of the requests that were answered, before this fault and these bytes
pub record SpendsRounds (settings : ServeSettings) (answered : List (List ℕ)) (fault : Option ServeFault) (more : List ℕ) (first last : ℕ) : Type 0 where
  pub rounds : ℕ
  pub derived : AllRounds settings answered rounds
  pub after : SpendsAfter settings fault more (first + rounds) last
