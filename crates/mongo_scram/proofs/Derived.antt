-- What a derivation takes of the counter and of the cache, and what it puts in.
use Rattle.std.proofs.Common.{◌≡◌, ◌⊎◌, ℕ, ◌+◌, ◌-◌, ◌^◌, ◌<◌, min, refl, subst, inl, inr, arith, Result, Ok, Err, List, Contains, OnOk, OnErr}
use Rattle.mongo_wire.specs.declared.error.Error.{Error}
use Rattle.mongo_scram.specs.declared.cache.SaltedCache.{SaltedCache}
use Rattle.mongo_scram.specs.declared.cache.SaltedKey.{SaltedKey}
use Rattle.mongo_scram.specs.Cache.{entries_of, Adds}
use Rattle.mongo_scram.specs.Entry.{salted_of}
use Rattle.mongo_scram.specs.Costs.{Ledgers, ledgers, HasEntry, Counts, Derives, CostsNothing}

-- a cache's rounds are within a u64
same_rounds : (rounds : ℕ) → rounds < 2 ^ 64 → rounds ≡ min (rounds + 0) (2 ^ 64 - 1)
same_rounds rounds within = omega (arith, within)

-- no step was taken, and the cache is as it was
pub nothing_counted : (old new : ℕ) (cache : SaltedCache) → new ≡ old → Counts 0 (ledgers old cache) (ledgers new cache)
nothing_counted old new cache same = record { steps = omega (arith, same); rounds_are = same_rounds cache.rounds cache.within }

pub costs_nothing : (steps : ℕ) (cache : SaltedCache) → CostsNothing (ledgers steps cache) (ledgers steps cache)
costs_nothing steps cache = record { counts = nothing_counted steps steps cache refl; entries = refl }

-- the key has an entry
pub entry_found : (key : SaltedKey) (steps : ℕ) (cache : SaltedCache) (tag : List ℕ) → Contains (entries_of cache) (key, tag) → Derives key (ledgers steps cache) (ledgers steps cache)
entry_found key steps cache tag found = inl ((tag, found), nothing_counted steps steps cache refl)

-- it has none
pub no_entry : (key : SaltedKey) (cache : SaltedCache) → ((tag : List ℕ) → Contains (entries_of cache) (key, tag) → ⊥) → HasEntry cache key → ⊥
no_entry key cache absent found = absent found.0 found.1

pub derived_anew : {T : Type 0} (r : Result T Error) (key : SaltedKey) (old new : Ledgers) → ((tag : List ℕ) → Contains (entries_of old.cache) (key, tag) → ⊥) → OnOk r (Counts key.count old new) → OnOk r (Derives key old new)
derived_anew (Ok x) key old new absent counts = inr (no_entry key old.cache absent, counts)
derived_anew (Err e) key old new absent counts = tt

-- an entry more is that of the salted password
pub added_salted : {T : Type 0} (Before : Type 0) (r : Result T Error) (key : SaltedKey) (tag : List ℕ) (old new : List (SaltedKey × List ℕ)) → tag ≡ salted_of key → OnOk r (Adds old new (key, tag)) → OnOk r (Before ⊎ Adds old new (key, salted_of key))
added_salted Before (Ok x) key tag old new is adds = inr (subst (λ t. Adds old new (key, t)) is adds)
added_salted Before (Err e) key tag old new is adds = tt

-- what holds of a refusal
pub on_refused : {T : Type 0} (r : Result T Error) (Holds : Type 0) → Holds → OnErr r Holds
on_refused (Ok x) Holds is = tt
on_refused (Err e) Holds is = is
