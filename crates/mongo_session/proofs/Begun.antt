-- How a login begins: at an account, and by the settings.
use Rattle.std.proofs.Common.{◌≡◌, ◌≢◌, ◌⊎◌, ◌↔◌, ℕ, Bool, true, false, Option, None, Some, Result, Ok, Err, IfOk, List, ◌∷◌, ◌++◌, option_copied, IsTrue, inl, inr, refl, sym, ap, ◌∙◌, subst, append_assoc}
use Rattle.std.specs.Borrow.{Bor}
use Rattle.std.specs.List.{AllByRecursion}
use Rattle.mongo_scram.specs.Attributes.{after_comma, gs2_header, nonce_attribute, user_name_attribute}
use Rattle.mongo_scram.specs.Key.{PasswordRow}
use Rattle.mongo_scram.specs.Messages.{open_message}
use Rattle.mongo_scram.specs.UserName.{escaped}
use Rattle.mongo_scram.specs.declared.scram_version.ScramVersion.{ScramVersion}
use Rattle.mongo_scram.proofs.Parts.{one_cut}
use Rattle.mongo_server.specs.ClientMessages.{IsNonce, IsClientFirst}
use Rattle.mongo_server.specs.Authentication.{Authentication, open_of, IsReadAs}
use Rattle.mongo_server.specs.Server.{server_user, suffix_of, username_of, Serves, HasBegun}
use Rattle.mongo_server.specs.User.{IsUserOf}
use Rattle.mongo_server.specs.declared.fault.ServerFault.{ServerFault}
use Rattle.mongo_server.specs.declared.fault.ServerFault.TheVariants.{OutOfMemory}
use Rattle.mongo_server.specs.declared.server_core.ServerCore.{ServerCore}
use Rattle.mongo_server.specs.declared.user.ServerUser.{ServerUser}
use Rattle.mongo_server.proofs.ClientFirsts.{opens, bares}
use Rattle.mongo_server.proofs.UserNames.{escaped_same, escaped-no_comma}
use Rattle.mongo_wire.specs.declared.error.ErrorKind.{ErrorKind}
use Rattle.mongo_wire.specs.declared.error.ErrorKind.TheVariants.{OutOfMemory as WantOfMemory}
use Rattle.mongo_session.specs.Accounts.{AreOfOneUser, IsFirstAccount}
use Rattle.mongo_session.specs.Login.{authentication_of}
use Rattle.mongo_session.specs.Started.{NamesUser, Suits, IsFound, IsStartFor, BeginsAuthentication, StartsFor, StartsBy}
use Rattle.mongo_session.specs.Sasl.{AsksFor}
use Rattle.mongo_bson.specs.declared.fault.BsonFault.{BsonFault}
use Rattle.mongo_session.specs.declared.start.StartedLogin.{StartedLogin}
use Rattle.mongo_session.specs.declared.request.StartRequest.{StartRequest}
use Rattle.mongo_session.specs.declared.serve_settings.Account.{Account}
use Rattle.mongo_session.specs.declared.serve_settings.ServeSettings.{ServeSettings}
use Rattle.mongo_session.proofs.Accounts.{all_weaker, all_split, one_first_account}

-- ---- which user a first message names

-- a first message behind its user's name
abbrev front_of : List ℕ → List ℕ
front_of name = ((gs2_header ++ user_name_attribute) ++ escaped name) ++ after_comma nonce_attribute

first_message : (name nonce : List ℕ) → front_of name ++ nonce ≡ open_message name nonce
first_message name nonce =
    append_assoc ((gs2_header ++ user_name_attribute) ++ escaped name) (after_comma nonce_attribute) nonce
    ∙ append_assoc (gs2_header ++ user_name_attribute) (escaped name) (after_comma nonce_attribute ++ nonce)
    ∙ sym (opens name nonce ∙ ap (λ x. gs2_header ++ x) (bares name nonce))

behind_five : (x y : List ℕ) → (gs2_header ++ user_name_attribute) ++ x ≡ (gs2_header ++ user_name_attribute) ++ y → x ≡ y
behind_five x y same = cc

one_name : (name other nonce more : List ℕ) → open_message name nonce ≡ open_message other more → name ≡ other
one_name name other nonce more same =
    let spelled : (n k : List ℕ) → open_message n k ≡ (gs2_header ++ user_name_attribute) ++ (escaped n ++ (0x2C ∷ (nonce_attribute ++ k))) = λ n k. opens n k ∙ ap (λ x. gs2_header ++ x) (bares n k) in
    let rest = behind_five (escaped name ++ (0x2C ∷ (nonce_attribute ++ nonce))) (escaped other ++ (0x2C ∷ (nonce_attribute ++ more))) (sym (spelled name nonce) ∙ same ∙ spelled other more) in
    escaped_same name other (one_cut (escaped name) (escaped other) (nonce_attribute ++ nonce) (nonce_attribute ++ more) (escaped-no_comma name) (escaped-no_comma other) rest).0

-- the front that is compared
pub names_front : (message front name : List ℕ) (rest : List ℕ) (is : Bool) → front ≡ front_of name → (is ≡ true → message ≡ front ++ rest) × ((more : List ℕ) → message ≡ front ++ more → is ≡ true) → IsTrue is ↔ NamesUser message name
names_front message front name rest is front_is (says, said) = (
  λ yes. (rest, says yes ∙ ap (λ f. f ++ rest) front_is ∙ first_message name rest),
  λ named. said named.0 (named.1 ∙ sym (first_message name named.0) ∙ ap (λ f. f ++ named.0) (sym front_is)),
)

-- ---- at an account

-- the server of an account, from what its user was made of
pub served_by : (account : Account) (suffix nonce : List ℕ) (core : ServerCore) (user : ServerUser) (name password salt : List ℕ) → name ≡ account.name → password ≡ account.password → salt ≡ account.salt
    → IsUserOf account.version name password salt account.count user → server_user core ≡ user → suffix_of core ≡ suffix → Serves core (authentication_of account suffix nonce)
served_by account suffix nonce core user name password salt named worded salted h user_is suffix_is =
    let a = subst (λ n. IsUserOf account.version n password salt account.count user) named h in
    let b = subst (λ w. IsUserOf account.version account.name w salt account.count user) worded a in
    let c = subst (λ s. IsUserOf account.version account.name account.password s account.count user) salted b in
    record { user = subst (IsUserOf account.version account.name account.password account.salt account.count) (sym user_is) c; suffix = suffix_is }

pub begins : (account : Account) (suffix message : List ℕ) (old new : ServerCore) (text : List ℕ) (user : ServerUser) (name password salt : List ℕ) → name ≡ account.name → password ≡ account.password → salt ≡ account.salt
    → IsUserOf account.version name password salt account.count user → server_user old ≡ user → suffix_of old ≡ suffix
    → ((kind : ErrorKind) → PasswordRow account.version password kind → ⊥)
    → (nonce : List ℕ) → IsClientFirst message (username_of old) nonce
    → ((x : Authentication) → Serves old x → IsNonce x.nonce → message ≡ open_of x → IsReadAs text x × HasBegun new x)
    → (copy : List ℕ) (skips : Bool) → copy ≡ account.name
    → StartsFor account suffix message skips (Some (record { login = record { core = new; name = copy; skips_empty_exchange = skips; is_proved = false }; answer = text }))
begins account suffix message old new text user name password salt named worded salted h user_is suffix_is usable nonce first accepts copy skips copied =
    let x = authentication_of account suffix nonce in
    let serves : Serves old x = served_by account suffix nonce old user name password salt named worded salted h user_is suffix_is in
    let name_is : username_of old ≡ account.name = ap (λ u. u.username) user_is ∙ h.username_is ∙ named in
    let said : message ≡ open_of x = first.message_is ∙ ap (λ n. open_message n nonce) name_is in
    let heard : IsReadAs text x × HasBegun new x = accepts x serves first.printable said in (
      nonce,
      record { usable = subst (λ w. (kind : ErrorKind) → PasswordRow account.version w kind → ⊥) worded usable; printable = first.printable; said = said },
      record { begun = record { begun = heard.1; name_is = copied; skips_is = refl; unproved = refl }; answer_is = heard.0.text_is },
    )

-- ---- by the settings

pub same_text : (message : Option (Bor (List ℕ))) (m : Bor (List ℕ)) (text : List ℕ) → message ≡ Some m → option_copied message ≡ Some text → m.now ≡ text
same_text message m text is said = let same : Some m.now ≡ Some text = sym (ap option_copied is) ∙ said in cc

pub same_version : (v w : ScramVersion) (o : Option ScramVersion) → o ≡ Some v → o ≡ Some w → v ≡ w
same_version v w o p q = let same : Some v ≡ Some w = sym p ∙ q in cc

-- nothing is asked for without a mechanism, nor without a message
pub no_version : (settings : ServeSettings) (start : StartRequest) → start.version ≡ None → (x : Authentication) → AsksFor settings start x → ⊥
no_version settings start none x asked = let never : None ≡ Some x.version = sym none ∙ asked.version_is in cc

pub no_payload : (settings : ServeSettings) (start : StartRequest) → start.payload ≡ None → (x : Authentication) → AsksFor settings start x → ⊥
no_payload settings start none x asked = let never : None ≡ Some (open_of x) = sym (ap option_copied none) ∙ asked.said in cc

module _ (settings : ServeSettings) (start : StartRequest) (version : ScramVersion) (message : Bor (List ℕ)) (version_is : start.version ≡ Some version) (message_is : start.payload ≡ Some message) where
  -- the account of what is asked for suits
  asked_suits : (x : Authentication) (asked : AsksFor settings start x) → Suits version message.now asked.of_settings.account
  asked_suits x asked =
      let of = asked.of_settings in (
        ap (λ y. y.version) (sym of.authentication_is) ∙ sym (same_version version x.version start.version version_is asked.version_is),
        (x.nonce, same_text start.payload message (open_of x) message_is asked.said ∙ ap open_of of.authentication_is),
      )

  pub none_suits : AllByRecursion (λ other. Suits version message.now other → ⊥) settings.accounts → (x : Authentication) → AsksFor settings start x → ⊥
  none_suits none x asked =
      let counts = asked.of_settings.counts in
      all_split (λ other. Suits version message.now other → ⊥) counts.before counts.after asked.of_settings.account (subst (AllByRecursion (λ other. Suits version message.now other → ⊥)) counts.split none) (asked_suits x asked)

  -- those that suit are of one user
  of_one_user : (a b : Account) → Suits version message.now a → Suits version message.now b → AreOfOneUser a b
  of_one_user a b p q = (p.0 ∙ sym q.0, one_name a.name b.name p.1.0 q.1.0 (sym p.1.1 ∙ q.1.1))

  suits_too : (a b : Account) → Suits version message.now b → AreOfOneUser a b → Suits version message.now a
  suits_too a b q one = (one.0 ∙ q.0, (q.1.0, q.1.1 ∙ ap (λ n. open_message n q.1.0) (sym one.1)))

  -- so what was found is the first of its user
  is_first : (account : Account) → IsFound settings.accounts version message.now account → IsFirstAccount settings.accounts account
  is_first account found = record {
    before = found.before;
    after = found.after;
    split = found.split;
    first = all_weaker (λ other. Suits version message.now other → ⊥) (λ other. AreOfOneUser other account → ⊥) found.before (λ other none one. none (suits_too other account found.suits one)) found.others;
  }

  pub starts_by : (account : Account) (suffix : List ℕ) → IsFound settings.accounts version message.now account → suffix ≡ settings.suffix
      → (found : Option StartedLogin) → StartsFor account suffix message.now start.skips_empty_exchange found → StartsBy settings start found
  starts_by account suffix is suffix_is None none = λ x asked.
      let of = asked.of_settings in
      let same : of.account ≡ account = one_first_account settings.accounts of.account account of.counts (is_first account is) (of_one_user of.account account (asked_suits x asked) is.suits) in
      let said : message.now ≡ open_message of.account.name x.nonce = same_text start.payload message (open_of x) message_is asked.said ∙ ap open_of of.authentication_is in
      none x.nonce (record {
        usable = subst (λ (a : Account). (kind : ErrorKind) → PasswordRow a.version a.password kind → ⊥) same of.usable;
        printable = of.printable;
        said = said ∙ ap (λ (a : Account). open_message a.name x.nonce) same;
      })
  starts_by account suffix is suffix_is (Some opened) (nonce, opening, has_begun) =
      let x = authentication_of account settings.suffix nonce in (
        x,
        record {
          of_settings = record { account = account; counts = is_first account is; usable = opening.usable; printable = opening.printable; authentication_is = refl };
          version_is = version_is ∙ ap Some (sym is.suits.0);
          said = ap option_copied message_is ∙ ap Some opening.said;
        },
        subst (λ s. BeginsAuthentication (authentication_of account s nonce) start.skips_empty_exchange opened) suffix_is has_begun,
      )

  pub starts_all : (account : Account) (suffix : List ℕ) → IsFound settings.accounts version message.now account → suffix ≡ settings.suffix
      → (r : Result (Option StartedLogin) BsonFault) → IfOk r (StartsFor account suffix message.now start.skips_empty_exchange) → IfOk r (StartsBy settings start)
  starts_all account suffix is suffix_is (Ok found) h = starts_by account suffix is suffix_is found h
  starts_all account suffix is suffix_is (Err fault) h = tt

-- ---- where none begins

-- no authentication of an account whose password its mechanism doesn't take
unusable : (account : Account) (suffix message password : List ℕ) (kind : ErrorKind) → password ≡ account.password → PasswordRow account.version password kind → (nonce : List ℕ) → IsStartFor account suffix message nonce → ⊥
unusable account suffix message password kind worded row nonce opening = opening.usable kind (subst (λ w. PasswordRow account.version w kind) worded row)

-- where the mechanism doesn't take the password, no message begins a login
pub unopened : (result : Result (Option StartedLogin) BsonFault) (account : Account) (suffix message : List ℕ) (skips : Bool) (password : List ℕ) (kind : ErrorKind) → password ≡ account.password → PasswordRow account.version password kind ⊎ (kind ≡ WantOfMemory)
    → IfOk result (λ found. (found ≡ None) × (kind ≢ WantOfMemory)) → IfOk result (StartsFor account suffix message skips)
unopened (Ok None) account suffix message skips password kind worded refused none = λ nonce opening. elim refused [
  | inl row ↦ unusable account suffix message password kind worded row nonce opening
  | inr memory ↦ none.1 memory
]
unopened (Ok (Some opened)) account suffix message skips password kind worded refused none = absurd (none_started none.0)
  where
    none_started : Some opened ≡ None → ⊥
    none_started is = cc
unopened (Err fault) account suffix message skips password kind worded refused none = tt

-- nor of a message that its server refuses
pub unheard : (account : Account) (suffix message : List ℕ) (core : ServerCore) (user : ServerUser) (name password salt : List ℕ) (fault : ServerFault) → name ≡ account.name → password ≡ account.password → salt ≡ account.salt
    → IsUserOf account.version name password salt account.count user → server_user core ≡ user → suffix_of core ≡ suffix
    → ((x : Authentication) → Serves core x → IsNonce x.nonce → message ≡ open_of x → fault ≡ OutOfMemory) → (fault ≡ OutOfMemory → ⊥) → (nonce : List ℕ) → IsStartFor account suffix message nonce → ⊥
unheard account suffix message core user name password salt fault named worded salted h user_is suffix_is accepts not_memory nonce opening =
    not_memory (accepts (authentication_of account suffix nonce) (served_by account suffix nonce core user name password salt named worded salted h user_is suffix_is) opening.printable opening.said)
