-- What logins of a batch share so far: their reports, their rounds, and the accepted keys that the cache holds.
use Rattle.std.proofs.Common.{◌≡◌, ℕ, ◌+◌, ◌-◌, ◌^◌, ◌⊎◌, ◌↔◌, ◌∙◌, refl, sym, ap, subst, inl, inr, arith, min, Bool, true, false, Option, None, Some, List, [], ◌∷◌, ◌++◌, map, flat_map, Contains, append-nil, add-zero}
use Rattle.std.proofs.lemmas.List.{map-append}
use Rattle.std.proofs.lemmas.List.Sums.{sum_by-append}
use Rattle.std.proofs.lemmas.List.Elements.{Contains-append_left, Contains-push, Contains-push_cases}
use Rattle.std.proofs.lemmas.Grind.{flat_map-append}
use Rattle.mongo_scram.specs.declared.cache.SaltedCache.{SaltedCache}
use Rattle.mongo_scram.specs.declared.cache.SaltedKey.{SaltedKey}
use Rattle.mongo_scram.specs.Cache.{entries_of, rounds_of, Adds}
use Rattle.mongo_scram.specs.Entry.{salted_of}
use Rattle.mongo_establish.specs.KeyCosts.{StoresKey}
use Rattle.mongo_scram.specs.Costs.{HasEntry, Ledgers, Counts, SameEntries, Derives}
use Rattle.mongo_settings.specs.declared.settings.Settings.{Settings}
use Rattle.mongo_settings.specs.declared.rehearsal.Rehearsal.{Rehearsal}
use Rattle.mongo_settings.specs.declared.rehearsal.RehearsalStatus.{RehearsalStatus}
use Rattle.mongo_settings.specs.declared.rehearsal.RehearsalStatus.TheVariants.{Accepted, Refused}
use Rattle.mongo_settings.specs.Rounds.{DerivedKey, logs_in, keys_after}
use Rattle.mongo_settings.specs.Batch.{BatchLogin, IsBatchLogin, keys_with, AreLogins, both, status_of_all, rounds_of_all, capped_rounds, rounds_line}
use Rattle.mongo_settings.specs.Costs.{CostsBy, JoinsReport}
use Rattle.mongo_settings.specs.Task.{ReportsMany, steps_of}

-- ---- one login more

-- the accepted keys after logins
abbrev pub all_keys : List SaltedKey → List BatchLogin → List SaltedKey
all_keys keys [] = keys
all_keys keys (login ∷ others) = all_keys (keys_with keys login) others

all_keys-more : (keys : List SaltedKey) (logins : List BatchLogin) (login : BatchLogin) → all_keys keys (logins ++ login ∷ []) ≡ keys_with (all_keys keys logins) login
all_keys-more keys [] login = refl
all_keys-more keys (first ∷ others) login = all_keys-more (keys_with keys first) others login

AreLogins-more : (keys : List SaltedKey) (logins : List BatchLogin) (login : BatchLogin) → AreLogins keys logins → IsBatchLogin (all_keys keys logins) login → AreLogins keys (logins ++ login ∷ [])
unfolding AreLogins
AreLogins-more keys [] login are is = (is, tt)
AreLogins-more keys (first ∷ others) login are is = (are.0, AreLogins-more (keys_with keys first) others login are.1 is)

both-assoc : (a b c : RehearsalStatus) → both a (both b c) ≡ both (both a b) c
both-assoc Accepted b c = refl
both-assoc Refused b c = refl

both-accepted : (a : RehearsalStatus) → both a Accepted ≡ a
both-accepted Accepted = refl
both-accepted Refused = refl

status-more : (logins : List BatchLogin) (login : BatchLogin) → status_of_all (logins ++ login ∷ []) ≡ both (status_of_all logins) login.status
status-more [] login = both-accepted login.status
status-more (first ∷ others) login = ap (both first.status) (status-more others login) ∙ both-assoc first.status (status_of_all others) login.status

-- ---- what a cache holds

-- the cache has an entry for just these keys
abbrev pub HoldsJustKeys : SaltedCache → List SaltedKey → Type 0
HoldsJustKeys cache keys = (key : SaltedKey) → HasEntry cache key ↔ Contains keys key

pub nothing_in : {X : Type 0} (x : X) → Contains [] x → ⊥
nothing_in x h = let lt = h.1 in absurd (omega arith)

pub holds_none : (cache : SaltedCache) → entries_of cache ≡ [] → HoldsJustKeys cache []
holds_none cache none key = (λ h. absurd (nothing_in (key, h.0) (subst (λ es. Contains es (key, h.0)) none h.1)), λ h. absurd (nothing_in key h))

same_holds : (first last : Ledgers) (keys : List SaltedKey) → SameEntries first last → HoldsJustKeys first.cache keys → HoldsJustKeys last.cache keys
same_holds first last keys same held key = (
  λ h. (held key).0 (h.0, subst (λ es. Contains es (key, h.0)) same h.1),
  λ h. let e = (held key).1 h in (e.0, subst (λ es. Contains es (key, e.0)) (sym same) e.1),
)

added : (first last : Ledgers) (keys : List SaltedKey) (key : SaltedKey) → StoresKey key first last → HoldsJustKeys first.cache keys → HoldsJustKeys last.cache (keys ++ key ∷ [])
added first last keys key t held other = (has t.others, back) where
  had : HasEntry first.cache other → Contains (keys ++ key ∷ []) other
  had h = Contains-append_left keys (key ∷ []) other ((held other).0 h)

  has : SameEntries first last ⊎ Adds (entries_of first.cache) (entries_of last.cache) (key, salted_of key) → HasEntry last.cache other → Contains (keys ++ key ∷ []) other
  has (inl same) h = had (h.0, subst (λ es. Contains es (other, h.0)) same h.1)
  has (inr adds) h = elim ((adds (other, h.0)).0 h.1) [
    | inl before ↦ had (h.0, before)
    | inr entry ↦ subst (λ k. Contains (keys ++ key ∷ []) k) (ap (λ (e : SaltedKey × List ℕ). e.0) entry) (Contains-push keys key)
  ]

  still : SameEntries first last ⊎ Adds (entries_of first.cache) (entries_of last.cache) (key, salted_of key) → HasEntry first.cache other → HasEntry last.cache other
  still (inl same) h = (h.0, subst (λ es. Contains es (other, h.0)) (sym same) h.1)
  still (inr adds) h = (h.0, (adds (other, h.0)).1 (inl h.1))

  back : Contains (keys ++ key ∷ []) other → HasEntry last.cache other
  back h = elim (Contains-push_cases keys key other h) [
    | inl before ↦ still t.others ((held other).1 before)
    | inr same ↦ subst (HasEntry last.cache) same t.entry
  ]

holds_after : (accepted : Bool) (key : Option SaltedKey) (first last : Ledgers) (keys : List SaltedKey) → CostsBy accepted key first last → HoldsJustKeys first.cache keys → HoldsJustKeys last.cache (keys_after accepted key keys)
holds_after true (Some key) first last keys t held = added first last keys key t held
holds_after true None first last keys t held = same_holds first last keys t.entries held
holds_after false (Some key) first last keys t held = same_holds first last keys t.entries held
holds_after false None first last keys t held = same_holds first last keys t.entries held

-- the rounds that a key takes
record Taken (keys : List SaltedKey) (key : Option SaltedKey) (first last : Ledgers) : Type 0 where
  rounds : ℕ
  derived : DerivedKey keys key rounds
  counts : Counts rounds first last

taken_key : (keys : List SaltedKey) (key : SaltedKey) (first last : Ledgers) → Derives key first last → HoldsJustKeys first.cache keys → Taken keys (Some key) first last
taken_key keys key first last (inl had) held = record { rounds = 0; derived = inl ((held key).0 had.0, refl); counts = had.1 }
taken_key keys key first last (inr none) held = record { rounds = key.count; derived = inr (λ c. none.0 ((held key).1 c), refl); counts = none.1 }

taken_with_held : (accepted : Bool) (keys : List SaltedKey) (key : Option SaltedKey) (first last : Ledgers) → CostsBy accepted key first last → HoldsJustKeys first.cache keys → Taken keys key first last
taken_with_held true keys None first last t held = record { rounds = 0; derived = refl; counts = t.counts }
taken_with_held false keys None first last t held = record { rounds = 0; derived = refl; counts = t.counts }
taken_with_held true keys (Some key) first last t held = taken_key keys key first last t.derived held
taken_with_held false keys (Some key) first last t held = taken_key keys key first last t.derived held

counted-add : (a b : ℕ) → min (min a (2 ^ 64 - 1) + b) (2 ^ 64 - 1) ≡ min (a + b) (2 ^ 64 - 1)
counted-add a b = omega arith

steps-add : (a b c : ℕ) → a + b + c ≡ a + (b + c)
steps-add a b c = omega arith

none-add : (n : ℕ) → 0 + n ≡ n
none-add n = omega arith

sums-more : (logins : List BatchLogin) (login : BatchLogin) → rounds_of_all (logins ++ login ∷ []) ≡ rounds_of_all logins + login.rounds
sums-more logins login = sum_by-append (λ (l : BatchLogin). l.rounds) logins (login ∷ []) ∙ ap (λ n. rounds_of_all logins + n) (none-add login.rounds)

-- ---- what is shared

pub record Shared (start : ℕ) (front : List Settings) (batch : Rehearsal) (now : Ledgers) : Type 0 where
  pub logins : List BatchLogin
  pub settings_are : map (λ login. login.settings) logins ≡ front
  pub are_logins : AreLogins [] logins
  pub status_is : batch.status ≡ status_of_all logins
  pub report_is : batch.report.items ≡ flat_map (λ login. login.text) logins
  pub steps_are : now.steps ≡ start + rounds_of_all logins
  pub rounds_are : rounds_of now.cache ≡ capped_rounds (rounds_of_all logins)
  pub held : HoldsJustKeys now.cache (all_keys [] logins)

none_are : AreLogins [] []
unfolding AreLogins
none_are = tt

pub shared_none : (start : ℕ) (batch : Rehearsal) (now : Ledgers) → batch.status ≡ Accepted → batch.report.items ≡ [] → now.steps ≡ start → entries_of now.cache ≡ [] → rounds_of now.cache ≡ 0 → Shared start [] batch now
shared_none start batch now status report steps entries rounds = record {
  logins = [];
  settings_are = refl;
  are_logins = none_are;
  status_is = status;
  report_is = report;
  steps_are = steps ∙ sym (add-zero start);
  rounds_are = rounds;
  held = holds_none now.cache entries;
}

pub shared_more : (start : ℕ) (front : List Settings) (settings : Settings) (old new : Rehearsal) (now later : Ledgers) → Shared start front old now → JoinsReport settings now later old new → Shared start (front ++ settings ∷ []) new later
shared_more start front settings old new now later s j =
    let t = j.cost.takes in
    let report = j.cost.rehearsal_is.report in
    let keys = all_keys [] s.logins in
    let taken = taken_with_held (logs_in report.outcome) keys t.key now later t.taken s.held in
    let login : BatchLogin = record { settings = settings; text = j.rehearsal.report.items; status = j.rehearsal.status; key = t.key; logged_in = logs_in report.outcome; rounds = taken.rounds } in
    let is : IsBatchLogin keys login = record { report = report; status_is = j.cost.rehearsal_is.status_is; logged_in_is = refl; key_is = t.key_is; derived = taken.derived } in
    let sums = sums-more s.logins login in
    record {
      logins = s.logins ++ login ∷ [];
      settings_are = map-append (λ (l : BatchLogin). l.settings) s.logins (login ∷ []) ∙ ap (λ l. l ++ settings ∷ []) s.settings_are;
      are_logins = AreLogins-more [] s.logins login s.are_logins is;
      status_is = j.status ∙ ap (λ a. both a j.rehearsal.status) s.status_is ∙ sym (status-more s.logins login);
      report_is = j.report ∙ ap (λ r. r ++ j.rehearsal.report.items) s.report_is ∙ ap (λ r. flat_map (λ (l : BatchLogin). l.text) s.logins ++ r) (sym (append-nil j.rehearsal.report.items)) ∙ sym (flat_map-append (λ (l : BatchLogin). l.text) s.logins (login ∷ []));
      steps_are = taken.counts.steps ∙ ap (λ n. n + taken.rounds) s.steps_are ∙ steps-add start (rounds_of_all s.logins) taken.rounds ∙ ap (λ n. start + n) (sym sums);
      rounds_are = taken.counts.rounds_are ∙ ap (λ n. min (n + taken.rounds) (2 ^ 64 - 1)) s.rounds_are ∙ counted-add (rounds_of_all s.logins) taken.rounds ∙ ap capped_rounds (sym sums);
      held = subst (HoldsJustKeys later.cache) (sym (all_keys-more [] s.logins login)) (holds_after (logs_in report.outcome) t.key now later keys t.taken s.held);
    }

-- the batch's report, once the line of its rounds stands at its end
pub shared_report : (start : ℕ) (settings : List Settings) (batch : Rehearsal) (now : Ledgers) (text : List ℕ) → Shared start settings batch now → text ≡ batch.report.items ++ rounds_line (rounds_of now.cache)
    → ReportsMany settings (steps_of start now.steps) batch.status text
shared_report start settings batch now text s is = record {
  batch = record {
    logins = s.logins;
    settings_are = s.settings_are;
    are_logins = s.are_logins;
    text_is = is ∙ ap (λ r. r ++ rounds_line (rounds_of now.cache)) s.report_is ∙ ap (λ n. flat_map (λ (l : BatchLogin). l.text) s.logins ++ rounds_line n) s.rounds_are;
  };
  status_is = s.status_is;
  steps_are = s.steps_are;
}
