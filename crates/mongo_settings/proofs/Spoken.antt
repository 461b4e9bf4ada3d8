-- Settings hold no credential whose mechanism isn't spoken.
use Rattle.std.proofs.Common.{◌≡◌, ℕ, ℤ, List, [], Option, None, Some, option_map, Result, Ok, Err, IfOk, refl, sym, ap, ◌∙◌, subst}
use Rattle.std.specs.Prelude.{⊤, Bool, true, false, IsTrue, if◌then◌else◌, unwrap_or}
use Rattle.serde_json.specs.Data.{Data}
use Rattle.serde_json.specs.Find.{get, as_str}
use Rattle.mongo_sasl.specs.declared.credential.Credential.{Credential}
use Rattle.mongo_sasl.specs.declared.mechanism.AuthMechanism.{AuthMechanism}
use Rattle.mongo_meta.specs.declared.client_options.ClientOptions.{ClientOptions}
use Rattle.mongo_establish.specs.declared.login_state.Nonces.{Nonces}
use Rattle.mongo_establish.specs.declared.establisher.PendingConnection.{PendingConnection}
use Rattle.mongo_establish.specs.Options.{default_max_iterations}
use Rattle.mongo_establish.specs.Speculation.{mechanism_before, SpeaksFor}
use Rattle.mongo_establish.specs.Spoken.{is_spoken, IsSpoken}
use Rattle.mongo_settings.specs.Keys.{credential_keys, replies_key, credential_key, nonces_key, first_id_key, max_iterations_key, username_setting_key, source_key, password_key, credential_mechanism_key, properties_key}
use Rattle.mongo_settings.specs.Kinds.{◌>>=◌, optional, optional_in, object_of, joined_hex_in, nonces_in, int32_in, iterations_in}
use Rattle.mongo_settings.specs.Credential.{mechanism_in, credential_in}
use Rattle.mongo_settings.specs.Meaning.{default_nonces, default_first_id, settings_in}
use Rattle.mongo_settings.specs.Options.{client_options_in}
use Rattle.mongo_settings.specs.Pending.{pending_in}
use Rattle.mongo_settings.specs.Properties.{properties_in}
use Rattle.mongo_settings.specs.Settings.{mechanism_judged, settings_of, Gives}
use Rattle.mongo_settings.specs.declared.settings.Settings.{Settings}
use Rattle.mongo_settings.specs.declared.settings.SettingsError.{SettingsError}
use Rattle.mongo_settings.specs.declared.settings.SettingsError.TheVariants.{NotBuilt}
use Rattle.mongo_settings.proofs.Judgement.{settings_of-ok}

-- ---- mechanisms

-- a rule that was kept holds
kept : (holds : Bool) → ◌≡◌ {A = Result ⊤ SettingsError} (if holds then Ok tt else Err NotBuilt) (Ok tt) → IsTrue holds
kept true is = refl
kept false is = let no : ⊥ = cc in absurd no

built_spoken : (mechanism : AuthMechanism) → mechanism_judged (Some mechanism) ≡ Ok tt → IsSpoken mechanism
built_spoken mechanism is = kept (is_spoken mechanism) is

judged_spoken : (found mechanism : Option AuthMechanism) → option_map Some found ≡ Some mechanism → mechanism_judged found ≡ Ok tt → IsSpoken (mechanism_before mechanism)
judged_spoken None mechanism is judged = let no : ⊥ = cc in absurd no
judged_spoken (Some one) None is judged = refl
judged_spoken (Some one) (Some other) is judged = let same : one ≡ other = cc in subst IsSpoken same (built_spoken one judged)

given_spoken : (given : Option Data) (mechanism : Option AuthMechanism) → optional_in mechanism_in given ≡ Some mechanism → mechanism_judged (given >>= mechanism_in) ≡ Ok tt → IsSpoken (mechanism_before mechanism)
given_spoken None None is judged = refl
given_spoken None (Some mechanism) is judged = let no : ⊥ = cc in absurd no
given_spoken (Some name) mechanism is judged = judged_spoken (mechanism_in name) mechanism is judged

-- ---- credentials

-- a credential of its parts
abbrev credential_of_parts : Option ⊤ → Option (Option (List ℕ)) → Option (Option (List ℕ)) → Option (Option (List ℕ)) → Option (Option AuthMechanism) → Option (Option (List ℕ)) → Option Credential
credential_of_parts object username source password mechanism properties = do
  o ← object
  u ← username
  s ← source
  p ← password
  m ← mechanism
  x ← properties
  Some (record { username = u; source = s; password = p; mechanism = m; mechanism_properties = x })

its_mechanism : (object : Option ⊤) (username source password : Option (Option (List ℕ))) (mechanism : Option (Option AuthMechanism)) (properties : Option (Option (List ℕ))) (credential : Credential)
    → credential_of_parts object username source password mechanism properties ≡ Some credential → mechanism ≡ Some credential.mechanism
its_mechanism (Some o) (Some u) (Some s) (Some p) (Some m) (Some x) credential is = ap (option_map (λ (c : Credential). c.mechanism)) is
its_mechanism o u s p m x credential is = cc

mechanism_of_credential : (d : Data) (credential : Credential) → credential_in d ≡ Some credential → optional credential_mechanism_key mechanism_in d ≡ Some credential.mechanism
unfolding credential_in
mechanism_of_credential d credential is =
    its_mechanism (object_of credential_keys d)
    (optional username_setting_key as_str d) (optional source_key as_str d) (optional password_key as_str d) (optional credential_mechanism_key mechanism_in d) (optional properties_key properties_in d) credential is

credential_spoken : (found credential : Option Credential) (d : Data) → found ≡ credential_in d → option_map Some found ≡ Some credential → mechanism_judged (get credential_mechanism_key d >>= mechanism_in) ≡ Ok tt → SpeaksFor credential
credential_spoken None credential d at is judged = let no : ⊥ = cc in absurd no
credential_spoken (Some one) None d at is judged = tt
credential_spoken (Some one) (Some other) d at is judged =
    let same : credential_in d ≡ Some other = sym at ∙ cc in
    given_spoken (get credential_mechanism_key d) other.mechanism (mechanism_of_credential d other same) judged

optional_spoken : (given : Option Data) (credential : Option Credential) → optional_in credential_in given ≡ Some credential → mechanism_judged (given >>= (λ c. get credential_mechanism_key c >>= mechanism_in)) ≡ Ok tt → SpeaksFor credential
optional_spoken None None is judged = tt
optional_spoken None (Some credential) is judged = let no : ⊥ = cc in absurd no
optional_spoken (Some d) credential is judged = credential_spoken (credential_in d) credential d refl is judged

-- ---- settings

-- settings of their parts
abbrev settings_of_parts : Option (Option Nonces) → Option (Option ℤ) → Option (Option ℕ) → Option (Option (List ℕ)) → Option PendingConnection → Option (Option Credential) → Option ClientOptions → Option Settings
settings_of_parts nonces first_id iterations replies pending credential options = do
  n ← nonces
  f ← first_id
  i ← iterations
  r ← replies
  p ← pending
  c ← credential
  o ← options
  Some (record {
    pending = p;
    replies = unwrap_or r [];
    credential = c;
    nonces = unwrap_or n default_nonces;
    first_id = unwrap_or f default_first_id;
    options = o;
    max_iterations = unwrap_or i default_max_iterations;
  })

their_credential : (nonces : Option (Option Nonces)) (first_id : Option (Option ℤ)) (iterations : Option (Option ℕ)) (replies : Option (Option (List ℕ))) (pending : Option PendingConnection) (credential : Option (Option Credential)) (options : Option ClientOptions) (s : Settings)
    → settings_of_parts nonces first_id iterations replies pending credential options ≡ Some s → credential ≡ Some s.credential
their_credential (Some n) (Some f) (Some i) (Some r) (Some p) (Some c) (Some o) s is = ap (option_map (λ (x : Settings). x.credential)) is
their_credential n f i r p c o s is = cc

credential_of : (d : Data) (s : Settings) → settings_in d ≡ Some s → optional credential_key credential_in d ≡ Some s.credential
unfolding settings_in
credential_of d s is =
    their_credential (optional nonces_key nonces_in d) (optional first_id_key int32_in d) (optional max_iterations_key iterations_in d)
    (optional replies_key joined_hex_in d) (pending_in d) (optional credential_key credential_in d) (client_options_in d) s is

settings_spoken : (d : Data) (s : Settings) → settings_of d ≡ Ok s → SpeaksFor s.credential
settings_spoken d s is =
    let known = settings_of-ok d s is in
    optional_spoken (get credential_key d) s.credential (credential_of d s known.1) known.0

-- what is read as settings
pub spoken : (d : Data) (r : Result Settings SettingsError) → Gives (λ s. s) r (settings_of d) → IfOk r (λ s. SpeaksFor s.credential)
spoken d (Ok s) gives = settings_spoken d s gives
spoken d (Err e) gives = tt
