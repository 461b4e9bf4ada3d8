-- What the cache of salted passwords holds.
use Rattle.std.specs.Prelude.{◌≡◌, ℕ, ◌⊎◌, ◌↔◌, List, Contains}
use Rattle.mongo_scram.specs.declared.cache.SaltedCache.{SaltedCache}
use Rattle.mongo_scram.specs.declared.cache.SaltedKey.{SaltedKey}

-- the keys that have an entry, each with its salted password
abbrev pub entries_of : SaltedCache → List (SaltedKey × List ℕ)
entries_of cache = cache.entries.entries

-- the rounds of Hi that logins with the cache have derived
abbrev pub rounds_of : SaltedCache → ℕ
rounds_of cache = cache.rounds

-- one entry more, and the others stay
abbrev pub Adds : List (SaltedKey × List ℕ) → List (SaltedKey × List ℕ) → SaltedKey × List ℕ → Type 0
Adds old new entry = (other : SaltedKey × List ℕ) → Contains new other ↔ (Contains old other ⊎ (entry ≡ other))
