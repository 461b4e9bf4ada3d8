-- What logins by one key cost: the first derives it, and the others find it.
use Rattle.std.proofs.Common.{◌≡◌, ℕ, ◌+◌, ◌<◌, ◌≤◌, ◌⊎◌, [], Contains, Result, Ok, Err, OnOk, sym, subst, inl, inr, arith}
use Rattle.mongo_scram.specs.declared.cache.SaltedCache.{SaltedCache}
use Rattle.mongo_scram.specs.declared.cache.SaltedKey.{SaltedKey}
use Rattle.mongo_scram.specs.Cache.{entries_of}
use Rattle.mongo_scram.specs.Costs.{HasEntry, Ledgers, Derives}
use Rattle.mongo_establish.specs.KeyCosts.{StoresKey}
use Rattle.mongo_bench.specs.declared.task.Hash.{Hash}
use Rattle.mongo_bench.specs.Login.{bench_key}

none_in : (cache : SaltedCache) (key : SaltedKey) → entries_of cache ≡ [] → HasEntry cache key → ⊥
none_in cache key none has = let there : Contains [] (key, has.0) = subst (λ es. Contains es (key, has.0)) none has.1 in let lt : there.0 < 0 = there.1 in omega (arith, lt)

-- so many logins were made: none, and nothing was derived, or some, and the key was derived once
abbrev pub Made : SaltedKey → ℕ → ℕ → Ledgers → Type 0
Made key start made now = ((made ≡ 0) × (entries_of now.cache ≡ []) × (now.steps ≡ start)) ⊎ ((1 ≤ made) × HasEntry now.cache key × (now.steps ≡ start + 4096))

cost : (hash : Hash) (start made : ℕ) (first last : Ledgers) → Made (bench_key hash) start made first → Derives (bench_key hash) first last → last.steps ≡ start + 4096
cost hash start made first last (inl none) (inl found) = absurd (none_in first.cache (bench_key hash) none.1 found.0)
cost hash start made first last (inl none) (inr derived) = let steps = derived.1.steps in omega (arith, none.2, steps)
cost hash start made first last (inr some) (inl found) = let steps = found.1.steps in omega (arith, some.2, steps)
cost hash start made first last (inr some) (inr derived) = absurd (derived.0 some.1)

pub made_more : (hash : Hash) (start made : ℕ) (first last : Ledgers) → Made (bench_key hash) start made first → StoresKey (bench_key hash) first last → Made (bench_key hash) start (made + 1) last
made_more hash start made first last before takes = let some : 1 ≤ made + 1 = omega arith in inr (some, takes.entry, cost hash start made first last before takes.derived)

-- over the same hash
pub made_so : (hash other : Hash) (start made count : ℕ) (now : Ledgers) → other ≡ hash → count ≡ made → Made (bench_key hash) start made now → Made (bench_key other) start count now
made_so hash other start made count now p q is = subst (λ h. Made (bench_key h) start count now) (sym p) (subst (λ n. Made (bench_key hash) start n now) (sym q) is)

pub both_derived : {T E : Type 0} (result : Result T E) (start server client : ℕ) → server ≡ start + 4096 → OnOk result (client ≡ server + 4096) → OnOk result (client ≡ start + 8192)
both_derived (Ok value) start server client p q = omega (arith, p, q)
both_derived (Err e) start server client p q = tt
