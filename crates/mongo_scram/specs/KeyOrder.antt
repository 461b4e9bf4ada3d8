-- The order of the cache's keys, in which two keys are equal where all of their parts are.
use Rattle.std.specs.Prelude.{ℕ, List}
use Rattle.std.specs.declared.cmp.Ordering.{Ordering}
use Rattle.std.specs.Ordering.{nat_cmp, on, then_cmp}
use Rattle.std.specs.Cmp.{IsTotalOrder, then_total, on_total, nat_cmp_total}
use Rattle.std.specs.Cmp.Lexicographic.{slice_cmp, nat_list_cmp_total}
use Rattle.mongo_scram.specs.Version.{version_name}
use Rattle.mongo_scram.specs.declared.cache.SaltedKey.{SaltedKey}

abbrev pub by_count : SaltedKey → SaltedKey → Ordering
by_count = on (λ k. k.count) nat_cmp

abbrev pub by_bytes : (SaltedKey → List ℕ) → SaltedKey → SaltedKey → Ordering
by_bytes part = on part (slice_cmp nat_cmp)

-- by the count, and then by the bytes of the salt, the user name, the password and the mechanism's name
abbrev pub key_cmp : SaltedKey → SaltedKey → Ordering
key_cmp = then_cmp (then_cmp (then_cmp (then_cmp by_count (by_bytes (λ k. k.salt))) (by_bytes (λ k. k.username))) (by_bytes (λ k. k.password))) (by_bytes (λ k. version_name k.version))

by_bytes-total : (part : SaltedKey → List ℕ) → IsTotalOrder (by_bytes part)
by_bytes-total part = on_total part nat_list_cmp_total

-- it is an order
pub key_cmp-total : IsTotalOrder key_cmp
key_cmp-total =
    then_total (then_total (then_total (then_total (on_total (λ (k : SaltedKey). k.count) nat_cmp_total) (by_bytes-total (λ k. k.salt))) (by_bytes-total (λ k. k.username))) (by_bytes-total (λ k. k.password))) (by_bytes-total (λ k. version_name k.version))
