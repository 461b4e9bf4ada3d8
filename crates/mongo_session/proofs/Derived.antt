-- What a login that begins derives.
use Rattle.std.proofs.Common.{◌≡◌, ◌≢◌, ◌⊎◌, ℕ, ◌+◌, ◌≤◌, Option, None, Some, Result, Ok, Err, OnOk, OnErr, IfOk, List, option_copied, inl, inr, refl, sym, ap, ◌∙◌, subst, arith}
use Rattle.std.specs.Borrow.{Bor}
use Rattle.std.specs.List.{AllByRecursion}
use Rattle.mongo_bson.specs.declared.fault.BsonFault.{BsonFault}
use Rattle.mongo_scram.specs.Key.{PasswordRow}
use Rattle.mongo_scram.specs.declared.scram_version.ScramVersion.{ScramVersion}
use Rattle.mongo_scram.specs.declared.scram_version.ScramVersion.TheVariants.{Sha1, Sha256}
use Rattle.mongo_wire.specs.declared.error.ErrorKind.{ErrorKind}
use Rattle.mongo_wire.specs.declared.error.ErrorKind.TheVariants.{OutOfMemory}
use Rattle.mongo_session.specs.Costs.{KeyRounds, StartFinds, StartRounds, CostsAtMost, HasUsablePassword, CostsRounds}
use Rattle.mongo_session.specs.Started.{NamesUser, Suits, IsFound}
use Rattle.mongo_session.specs.declared.start.StartedLogin.{StartedLogin}
use Rattle.mongo_session.specs.declared.request.StartRequest.{StartRequest}
use Rattle.mongo_session.specs.declared.serve_settings.Account.{Account}
use Rattle.mongo_session.specs.declared.serve_settings.ServeSettings.{ServeSettings}
use Rattle.mongo_session.proofs.Accounts.{all_split}
use Rattle.mongo_session.proofs.Begun.{same_text, same_version}

-- ---- at an account

-- no password is refused for want of memory
no_memory_row : (version : ScramVersion) (password : List ℕ) → PasswordRow version password OutOfMemory → ⊥
no_memory_row Sha1 password row = row
no_memory_row Sha256 password (inl row) = let never = row.0 in cc
no_memory_row Sha256 password (inr row) = let never = row.1.0 in cc

module _ (account : Account) (password : List ℕ) (worded : password ≡ account.password) (old new : ℕ) where
  password_taken : ((kind : ErrorKind) → PasswordRow account.version password kind → ⊥) → HasUsablePassword account
  password_taken usable = subst (λ w. (kind : ErrorKind) → PasswordRow account.version w kind → ⊥) worded usable

  -- the key was derived
  pub key_derived : ((kind : ErrorKind) → PasswordRow account.version password kind → ⊥) → new ≡ old + account.count → CostsRounds (KeyRounds account) old new
  key_derived usable cost = (account.count, inl (password_taken usable, refl), cost)

  -- the mechanism doesn't take the password, or memory ran out
  pub none_derived : (result : Result (Option StartedLogin) BsonFault) (kind : ErrorKind) → PasswordRow account.version password kind ⊎ (kind ≡ OutOfMemory) → (kind ≢ OutOfMemory → new ≡ old)
      → IfOk result (λ found. (found ≡ None) × (kind ≢ OutOfMemory)) → OnOk result (CostsRounds (KeyRounds account) old new)
  none_derived (Ok found) kind (inl row) none is = (0, inr (λ usable. usable kind (subst (λ w. PasswordRow account.version w kind) worded row), refl), omega (arith, none is.1))
  none_derived (Ok found) kind (inr memory) none is = absurd (is.1 memory)
  none_derived (Err fault) kind refused none is = tt

  some_derived : (kind : ErrorKind) → PasswordRow account.version password kind ⊎ (kind ≡ OutOfMemory) → ((other : ErrorKind) → PasswordRow account.version password other → kind ≡ other) → (kind ≢ OutOfMemory → new ≡ old) → old ≤ new → new ≤ old + account.count
      → CostsAtMost (KeyRounds account) old new
  some_derived kind (inl row) exact none rises most = (rises, inl (none (λ memory. no_memory_row account.version password (subst (PasswordRow account.version password) memory row))))
  some_derived kind (inr memory) exact none rises most =
      (rises, inr (account.count, inl (password_taken (λ other row. no_memory_row account.version password (subst (PasswordRow account.version password) (sym (exact other row) ∙ memory) row)), refl), most))

  pub at_most_derived : (result : Result (Option StartedLogin) BsonFault) (kind : ErrorKind) → PasswordRow account.version password kind ⊎ (kind ≡ OutOfMemory) → ((other : ErrorKind) → PasswordRow account.version password other → kind ≡ other) → (kind ≢ OutOfMemory → new ≡ old)
      → old ≤ new → new ≤ old + account.count → OnErr result (CostsAtMost (KeyRounds account) old new)
  at_most_derived (Ok found) kind refused exact none rises most = tt
  at_most_derived (Err fault) kind refused exact none rises most = some_derived kind refused exact none rises most

-- ---- by the settings

module _ (settings : ServeSettings) (start : StartRequest) (version : ScramVersion) (message : Bor (List ℕ)) (version_is : start.version ≡ Some version) (message_is : start.payload ≡ Some message) where
  start_finds : (account : Account) → IsFound settings.accounts version message.now account → StartFinds settings start account
  start_finds account found = record {
    message = message.now;
    said = ap option_copied message_is;
    version_is = version_is ∙ ap Some (sym found.suits.0);
    found = subst (λ v. IsFound settings.accounts v message.now account) (sym found.suits.0) found;
  }

  -- what was derived at the account that was found
  pub start_cost : (account : Account) → IsFound settings.accounts version message.now account → (old new : ℕ) (result : Result (Option StartedLogin) BsonFault)
      → OnOk result (CostsRounds (KeyRounds account) old new) → OnOk result (CostsRounds (StartRounds settings start) old new)
  start_cost account found old new (Ok opened) (rounds, derived, steps) = (rounds, inl (account, start_finds account found, derived), steps)
  start_cost account found old new (Err fault) h = tt

  pub start_at_most : (account : Account) → IsFound settings.accounts version message.now account → (old new : ℕ) (result : Result (Option StartedLogin) BsonFault)
      → OnErr result (CostsAtMost (KeyRounds account) old new) → OnErr result (CostsAtMost (StartRounds settings start) old new)
  start_at_most account found old new (Ok opened) h = tt
  start_at_most account found old new (Err fault) (rises, inl none) = (rises, inl none)
  start_at_most account found old new (Err fault) (rises, inr (rounds, derived, most)) = (rises, inr (rounds, inl (account, start_finds account found, derived), most))

  -- where no account suits
  pub none_finds : AllByRecursion (λ other. Suits version message.now other → ⊥) settings.accounts → (account : Account) → StartFinds settings start account → ⊥
  none_finds none account finds =
      let found = finds.found in
      let suits : Suits version message.now account = (sym (same_version version account.version start.version version_is finds.version_is), subst (λ m. NamesUser m account.name) (sym (same_text start.payload message finds.message message_is finds.said)) found.suits.1) in
      all_split (λ other. Suits version message.now other → ⊥) found.before found.after account (subst (AllByRecursion (λ other. Suits version message.now other → ⊥)) found.split none) suits

pub no_rounds : (settings : ServeSettings) (start : StartRequest) (old : ℕ) → ((account : Account) → StartFinds settings start account → ⊥) → CostsRounds (StartRounds settings start) old old
no_rounds settings start old none = (0, inr (none, refl), omega arith)

-- what is so is so of a refusal
pub refused_after : {A E : Type 0} (P : Type 0) (result : Result A E) → P → OnErr result P
refused_after P (Ok x) p = tt
refused_after P (Err e) p = p
