-- What a caller concludes from what an establishment costs.
use Rattle.std.proofs.Common.{◌≡◌, ◌⊎◌, ◌↔◌, ◌<◌, ◌≤◌, ◌^◌, ℕ, ℤ, ap, subst, sym, inl, inr, Option, None, Some, Result, Ok, Err, List, Contains, IfOk, IfErr, arith}
use Rattle.mongo_wire.specs.declared.error.ErrorKind.{ErrorKind}
use Rattle.mongo_wire.specs.Outside.{State}
use Rattle.mongo_command.specs.Helper.{Given}
use Rattle.mongo_command.specs.Conversation.{Plan}
use Rattle.mongo_command.specs.Exchange.{point}
use Rattle.mongo_scram.specs.declared.cache.SaltedKey.{SaltedKey}
use Rattle.mongo_scram.specs.Cache.{entries_of, rounds_of}
use Rattle.mongo_scram.specs.Costs.{Ledgers, Checkpoint, checkpoint, HasEntry, Counts, Derives, SameEntries, CostsNothing}
use Rattle.mongo_establish.specs.declared.establisher.EstablishError.{EstablishError}
use Rattle.mongo_establish.specs.declared.establisher.PooledConnection.{PooledConnection}
use Rattle.mongo_establish.specs.Setup.{Setup, start_of}
use Rattle.mongo_establish.specs.Established.{Established}
use Rattle.mongo_establish.specs.Derivation.{LeadsToKey}
use Rattle.mongo_establish.specs.KeyCosts.{StoresKey, AcceptedKeyCosts, RefusedKeyCosts, LedToKey}
use Rattle.mongo_establish.specs.Stopped.{StoppedIn}
use Rattle.mongo_establish.proofs.DerivationPlan.{one_led_key}
use Rattle.mongo_establish.proofs.DerivationSteps.{KeyStored, KeySpent}
use Rattle.mongo_establish.proofs.KeyStored.{handshake_taken, establishment_spent}

-- ---- some rounds

-- so many rounds were derived, counted by both; no entry is lost
pub record CostsSome (first last : Ledgers) : Type 0 where
  pub rounds : ℕ
  pub counts : Counts rounds first last
  pub kept : (entry : SaltedKey × List ℕ) → Contains (entries_of first.cache) entry → Contains (entries_of last.cache) entry

same_kept : (first last : Ledgers) → SameEntries first last → (entry : SaltedKey × List ℕ) → Contains (entries_of first.cache) entry → Contains (entries_of last.cache) entry
same_kept first last same entry there = subst (λ entries. Contains entries entry) (sym same) there

nothing_some : (first last : Ledgers) → CostsNothing first last → CostsSome first last
nothing_some first last nothing = record { rounds = 0; counts = nothing.counts; kept = same_kept first last nothing.entries }

derived_some : (key : SaltedKey) (first last : Ledgers) → Derives key first last → ((entry : SaltedKey × List ℕ) → Contains (entries_of first.cache) entry → Contains (entries_of last.cache) entry) → CostsSome first last
derived_some key first last derived kept =
    elim derived [ inl found ↦ record { rounds = 0; counts = found.1; kept = kept } | inr anew ↦ record { rounds = key.count; counts = anew.1; kept = kept } ]

pub accepted_some : (key : Option SaltedKey) (first last : Ledgers) → AcceptedKeyCosts key first last → CostsSome first last
accepted_some None first last takes = nothing_some first last takes
accepted_some (Some key) first last takes =
    derived_some key first last takes.derived (λ entry there. elim takes.others [ inl same ↦ same_kept first last same entry there | inr adds ↦ (adds entry).1 (inl there) ])

pub refused_some : (key : Option SaltedKey) (first last : Ledgers) → RefusedKeyCosts key first last → CostsSome first last
refused_some None first last takes = nothing_some first last takes
refused_some (Some key) first last takes = derived_some key first last takes.derived (same_kept first last takes.entries)

taken_some : (plan : Plan (Option SaltedKey)) (old new : Checkpoint) → KeyStored plan old new → CostsSome old.ledgers new.ledgers
taken_some plan old new t = accepted_some t.key old.ledgers new.ledgers t.takes

spent_some : (plan : Plan (Option SaltedKey)) (kind : ErrorKind) (old new : Checkpoint) → KeySpent plan kind old new → CostsSome old.ledgers new.ledgers
spent_some plan kind old new s =
    elim s [
      | inl early ↦ nothing_some old.ledgers new.ledgers early.nothing
      | inr late ↦ elim late.takes [ inl takes ↦ refused_some late.key old.ledgers new.ledgers takes | inr memory ↦ nothing_some old.ledgers new.ledgers memory.1 ]
    ]

-- however an establishment came out
pub costs_some : (given : List Given) (r : Result PooledConnection EstablishError) (setup : Setup) (old new : State) (after : ℤ) (first last : Ledgers) → IfOk r (Established given setup (start_of setup old first) (checkpoint (point new after) last))
    → IfErr r (λ e. StoppedIn given e.handshake_phase setup e.cause.kind (start_of setup old first) (checkpoint (point new after) last)) → CostsSome first last
costs_some given (Ok pooled) setup old new after first last made refused = taken_some _ _ _ (handshake_taken setup made.script.greeting (checkpoint (point old setup.first_id) first) (checkpoint (point new after) last) made.costs)
costs_some given (Err e) setup old new after first last made refused =
    elim (establishment_spent _ e.handshake_phase setup e.cause.kind old new after first last refused) [
      | inl spent ↦ spent_some _ e.cause.kind (checkpoint (point old setup.first_id) first) (checkpoint (point new after) last) spent
      | inr unnamed ↦ taken_some _ _ _ (handshake_taken setup unnamed.1.0 (checkpoint (point old setup.first_id) first) (checkpoint (point new after) last) unnamed.1.1)
    ]

-- the counter never falls
pub some_rise : (first last : Ledgers) → CostsSome first last → first.steps ≤ last.steps
some_rise first last some = let counted = some.counts.steps in omega arith

-- nor does what the cache counts
pub rounds_rise : (first last : Ledgers) → CostsSome first last → rounds_of first.cache ≤ rounds_of last.cache
rounds_rise first last some =
    let counted = some.counts.rounds_are in
    let short : rounds_of first.cache < 2 ^ 64 = first.cache.within in
    omega (arith, counted, short)

-- ---- the keys that have an entry

-- those that had one, and nothing else
pub same_entry_keys : (first last : Ledgers) → SameEntries first last → (other : SaltedKey) → HasEntry last.cache other ↔ HasEntry first.cache other
same_entry_keys first last same other =
    (λ has. (has.0, subst (λ entries. Contains entries (other, has.0)) same has.1), λ had. (had.0, subst (λ entries. Contains entries (other, had.0)) (sym same) had.1))

key_of_entry : (key other : SaltedKey) (tag another : List ℕ) → ◌≡◌ {A = SaltedKey × List ℕ} (key, tag) (other, another) → key ≡ other
key_of_entry key other tag another same = ap (λ (entry : SaltedKey × List ℕ). entry.0) same

-- those that had one, and the key that was taken
pub taken_keys : (key : SaltedKey) (first last : Ledgers) → StoresKey key first last → (other : SaltedKey) → HasEntry last.cache other ↔ (HasEntry first.cache other ⊎ (key ≡ other))
taken_keys key first last takes other =
    elim takes.others [
      | inl same ↦
          let keys = same_entry_keys first last same other in
          (λ has. inl (keys.0 has), λ has. elim has [ inl had ↦ keys.1 had | inr is ↦ subst (HasEntry last.cache) is takes.entry ])
      | inr adds ↦ (
        λ has. elim ((adds (other, has.0)).0 has.1) [ inl there ↦ inl (has.0, there) | inr is ↦ inr (key_of_entry key other _ has.0 is) ],
        λ has. elim has [ inl had ↦ (had.0, (adds (other, had.0)).1 (inl had.1)) | inr is ↦ subst (HasEntry last.cache) is takes.entry ],
      )
    ]

-- ---- over told bytes

-- a key that the bytes lead to is the one that was taken
pub taken_as_led : (setup : Setup) (bytes : List ℕ) (takes : Option SaltedKey → Type 0) (key : Option SaltedKey) → LedToKey setup bytes takes → LeadsToKey setup bytes key → takes key
taken_as_led setup bytes takes key t led = subst takes (one_led_key setup bytes t.key key t.leads led) t.taken
