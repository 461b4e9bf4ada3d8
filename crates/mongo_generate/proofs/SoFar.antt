-- What is known when so many logins were made.
use Rattle.std.proofs.Common.{◌≡◌, ℕ, ◌+◌, ◌-◌, ◌*◌, ◌^◌, ◌%◌, ◌<◌, ◌≤◌, ◌↔◌, min, List, [], ◌++◌, Contains, refl, sym, ap, ◌∙◌, subst, inl, inr, add-one, arith}
use Rattle.std.proofs.lemmas.Bool.{cases_lt}
use Rattle.sha2.specs.declared.Sha256.{Sha256}
use Rattle.sha2.specs.Hashers.{Holds256}
use Rattle.sha2.specs.Sha256.{sha256}
use Rattle.mongo_scram.specs.declared.cache.SaltedCache.{SaltedCache}
use Rattle.mongo_scram.specs.declared.cache.SaltedKey.{SaltedKey}
use Rattle.mongo_scram.specs.Cache.{entries_of, rounds_of}
use Rattle.mongo_scram.specs.Costs.{HasEntry, Ledgers, ledgers, Counts, Derives}
use Rattle.mongo_establish.specs.KeyCosts.{StoresKey}
use Rattle.mongo_establish.proofs.Counting.{taken_keys}
use Rattle.mongo_generate.specs.Generated.{authentication_at, last_messages, all_messages, key_count, IsGenerated}
use Rattle.mongo_generate.proofs.Keys.{key_at, same_rest, same_again}

-- ---- which keys have an entry

-- the key of a login before this one
abbrev IsEarlier : ℕ → SaltedKey → Type 0
IsEarlier k key = (j : ℕ) × (j < k) × (key_at j ≡ key)

-- just those of the logins before
abbrev pub HoldsEarlierKeys : SaltedCache → ℕ → Type 0
HoldsEarlierKeys cache k = (key : SaltedKey) → HasEntry cache key ↔ IsEarlier k key

holds_none : (cache : SaltedCache) → entries_of cache ≡ [] → HoldsEarlierKeys cache 0
holds_none cache none key = (
  λ has. let there : Contains [] (key, has.0) = subst (λ es. Contains es (key, has.0)) none has.1 in let lt = there.1 in absurd (omega arith),
  λ earlier. let lt = earlier.1 in absurd (omega arith),
)

holds_more : (k : ℕ) (first last : Ledgers) → StoresKey (key_at k) first last → HoldsEarlierKeys first.cache k → HoldsEarlierKeys last.cache (k + 1)
holds_more k first last takes held key = (
  λ has. elim ((taken_keys (key_at k) first last takes key).0 has) [
    | inl had ↦ let e = (held key).0 had in (e.0, later e.0 e.1, e.2)
    | inr is ↦ (k, at k, is)
  ],
  λ e. elim (cases_lt e.0 k) [
    | inl before ↦ (taken_keys (key_at k) first last takes key).1 (inl ((held key).1 (e.0, before, e.2)))
    | inr after ↦ (taken_keys (key_at k) first last takes key).1 (inr (ap key_at (last_is e.0 after e.1) ∙ e.2))
  ],
)
  where
    later : (j : ℕ) → j < k → j < k + 1
    later j before = omega arith

    at : (n : ℕ) → n < n + 1
    at n = omega arith

    last_is : (j : ℕ) → k ≤ j → j < k + 1 → k ≡ j
    last_is j after before = omega arith

-- ---- which are derived

-- a login's key has an entry exactly where 210 logins are before it
has_from : (cache : SaltedCache) (k : ℕ) → HoldsEarlierKeys cache k → key_count ≤ k → HasEntry cache (key_at k)
has_from cache k held many =
    let back : (k - 210) + 210 ≡ k = omega arith in
    let before : k - 210 < k = omega arith in
    (held (key_at k)).1 (k - 210, before, same_again (k - 210) ∙ ap key_at back)

none_before : (cache : SaltedCache) (k : ℕ) → HoldsEarlierKeys cache k → k < key_count → HasEntry cache (key_at k) → ⊥
none_before cache k held few has =
    let e = (held (key_at k)).0 has in
    let rest = same_rest e.0 k e.2 in
    let before = e.1 in
    apart e.0 before rest
  where
    apart : (j : ℕ) → j < k → j % 210 ≡ k % 210 → ⊥
    apart j before rest = omega arith

-- the rounds of so many logins
abbrev pub rounds_to : ℕ → ℕ
rounds_to k = 4096 * min k key_count

-- those of the next one
rounds_more : (first last : Ledgers) (k : ℕ) → Derives (key_at k) first last → HoldsEarlierKeys first.cache k → (rounds : ℕ) × Counts rounds first last × (rounds_to k + rounds ≡ rounds_to (k + 1))
rounds_more first last k derived held =
    elim derived [
      | inl had ↦ elim (cases_lt k 210) [
        | inl few ↦ absurd (none_before first.cache k held few had.0)
        | inr many ↦ (0, had.1, no_more k many)
      ]
      | inr anew ↦ elim (cases_lt k 210) [
        | inl few ↦ (4096, anew.1, one_more k few)
        | inr many ↦ absurd (anew.0 (has_from first.cache k held many))
      ]
    ]
  where
    no_more : (n : ℕ) → 210 ≤ n → rounds_to n + 0 ≡ rounds_to (n + 1)
    no_more n many = omega arith

    one_more : (n : ℕ) → n < 210 → rounds_to n + 4096 ≡ rounds_to (n + 1)
    one_more n few = omega arith

-- ---- so far

pub record SoFar (start k accepted : ℕ) (hasher : Sha256) (now : Ledgers) : Type 0 where
  pub accepted_are : accepted ≡ k
  pub hashed : Holds256 hasher (all_messages k)
  pub held : HoldsEarlierKeys now.cache k
  pub rounds_are : rounds_of now.cache ≡ rounds_to k
  pub steps_are : now.steps ≡ start + rounds_to k + 4096 * k

nothing_said : [] ≡ all_messages 0
unfolding all_messages
nothing_said = refl

pub so_far_none : (start accepted : ℕ) (hasher : Sha256) (now : Ledgers) → accepted ≡ 0 → Holds256 hasher [] → entries_of now.cache ≡ [] → rounds_of now.cache ≡ 0 → now.steps ≡ start → SoFar start 0 accepted hasher now
so_far_none start accepted hasher now none hashed entries rounds steps = record {
  accepted_are = none;
  hashed = subst (Holds256 hasher) nothing_said hashed;
  held = holds_none now.cache entries;
  rounds_are = rounds;
  steps_are = omega arith;
}

said_more : (k : ℕ) → all_messages k ++ last_messages (authentication_at k) ≡ all_messages (k + 1)
unfolding all_messages
said_more k = ap all_messages (sym (add-one k))

pub so_far_more : (start k accepted more : ℕ) (hasher next : Sha256) (now later : Ledgers) → SoFar start k accepted hasher now → StoresKey (key_at k) (ledgers (now.steps + 4096) now.cache) later → more ≡ accepted + 1 → Holds256 next (all_messages k ++ last_messages (authentication_at k)) → k < 2 ^ 32
    → SoFar start (k + 1) more next later
so_far_more start k accepted more hasher next now later s takes counted hashed few =
    let r = rounds_more (ledgers (now.steps + 4096) now.cache) later k takes.derived s.held in
    let steps = r.1.steps in
    let rounds = r.1.rounds_are in
    let whole = r.2 in
    let before = s.rounds_are in
    let stepped = s.steps_are in
    record {
      accepted_are = counted ∙ ap (λ n. n + 1) s.accepted_are;
      hashed = subst (Holds256 next) (said_more k) hashed;
      held = holds_more k (ledgers (now.steps + 4096) now.cache) later takes s.held;
      rounds_are = omega arith;
      steps_are = omega arith;
    }

-- what comes of them all
pub all_generated : (start number count accepted rounds : ℕ) (digest : List ℕ) (hasher : Sha256) (now : Ledgers) → SoFar start number accepted hasher now → number ≡ count → rounds ≡ rounds_of now.cache → digest ≡ sha256 (all_messages number)
    → IsGenerated count start now.steps (record { logins = count; accepted = accepted; rounds = rounds; digest = digest })
all_generated start number count accepted rounds digest hasher now s end counted hashed =
    let known = s.rounds_are in
    let stepped = s.steps_are in
    record {
      logins_are = refl;
      accepted_are = s.accepted_are ∙ end;
      rounds_are = counted ∙ known ∙ ap rounds_to end;
      digest_is = hashed ∙ ap (λ n. sha256 (all_messages n)) end;
      steps_are = omega arith;
    }
