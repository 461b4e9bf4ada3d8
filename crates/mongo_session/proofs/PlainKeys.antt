-- The keys of a hello's reply hold no zero.
use Rattle.std.proofs.Common.{◌≡◌, ◌≢◌, ℕ, Bool, true, false, List, refl, sym, subst, Contains, rules}
use Rattle.std.specs.List.{AllByRecursion}
use Rattle.mongo_command.specs.Keys.{is_master_key, is_writable_primary_key}
use Rattle.mongo_wire.proofs.Arrays.{without_zero}
use Rattle.mongo_session.specs.Replies.{writable_key}

pub key_without_zero : (key : List ℕ) → AllByRecursion (λ b. b ≢ 0) key → Contains key 0 → ⊥
key_without_zero key all = without_zero key key refl all

legacy_plain : (is_legacy : Bool) → Contains (writable_key is_legacy) 0 → ⊥
legacy_plain true = key_without_zero is_master_key (search rules)
legacy_plain false = key_without_zero is_writable_primary_key (search rules)

pub writable_plain : (is_legacy : Bool) (key : List ℕ) → key ≡ writable_key is_legacy → Contains key 0 → ⊥
writable_plain is_legacy key is = subst (λ k. Contains k 0 → ⊥) (sym is) (legacy_plain is_legacy)
