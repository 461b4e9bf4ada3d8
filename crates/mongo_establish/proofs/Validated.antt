-- What a mechanism with a conversation says of a credential.
use Rattle.std.proofs.Common.{◌≡◌, ℕ, false, ap, sym, Option, None, Some, Result, Ok, Err, List, [], ◌∷◌, is_none}
use Rattle.mongo_wire.specs.declared.error.ErrorKind.TheVariants.{InvalidArgument}
use Rattle.mongo_wire.specs.declared.fault.ArgumentFault.{ArgumentFault}
use Rattle.mongo_wire.specs.declared.fault.ArgumentFault.TheVariants.{ScramUsername}
use Rattle.mongo_command.specs.Conversation.{IsOne, HasNone}
use Rattle.mongo_sasl.specs.declared.credential.Credential.{Credential}
use Rattle.mongo_sasl.specs.declared.mechanism.AuthMechanism.{AuthMechanism}
use Rattle.mongo_sasl.specs.declared.mechanism.AuthMechanism.TheVariants.{ScramSha1, ScramSha256, MongoDbAws, MongoDbOidc}
use Rattle.mongo_sasl.specs.Rules.{rule, first_broken}
use Rattle.mongo_sasl.specs.Validation.{IsValidated}
use Rattle.mongo_sasl.proofs.CredentialAnswers.{one_answer, ReadsNoProperties, has_answer}
use Rattle.mongo_scram.specs.declared.scram_version.ScramVersion.{ScramVersion}
use Rattle.mongo_scram.specs.User.{User, IsUser}
use Rattle.mongo_establish.specs.declared.conversation.Conversation.{Conversation}
use Rattle.mongo_establish.specs.declared.conversation.Conversation.TheVariants.{Scram}
use Rattle.mongo_establish.specs.Login.{InvalidRow, ValidatesCredential}
use Rattle.mongo_establish.specs.Spoken.{HasConversation}

same_fault : (a b : ArgumentFault) → ◌≡◌ {A = Result (Unit {0}) ArgumentFault} (Err a) (Err b) → a ≡ b
same_fault a b e = cc

not_both : (fault : ArgumentFault) → ◌≡◌ {A = Result (Unit {0}) ArgumentFault} (Err fault) (Ok tt) → ⊥
not_both fault e = cc

-- ---- one row, or none

pub one_invalid_row : (reply : Option (List ℕ)) (mechanism : AuthMechanism) (credential : Credential) → IsOne (InvalidRow reply mechanism credential)
one_invalid_row None mechanism credential (InvalidArgument a) (InvalidArgument b) p q = ap InvalidArgument (same_fault a b (one_answer mechanism credential false (Err a) (Err b) p q))
one_invalid_row None mechanism credential (InvalidArgument a) other p q = absurd q
one_invalid_row None mechanism credential kind other p q = absurd p
one_invalid_row (Some reply) mechanism credential kind other p q = absurd p

-- a credential that is taken has no row
pub credential_no_row : (reply : Option (List ℕ)) (mechanism : AuthMechanism) (credential : Credential) → ValidatesCredential reply mechanism credential → HasNone (InvalidRow reply mechanism credential)
credential_no_row None mechanism credential taken (InvalidArgument fault) row = not_both fault (one_answer mechanism credential false (Err fault) (Ok tt) row taken)
credential_no_row None mechanism credential taken kind row = row
credential_no_row (Some reply) mechanism credential taken kind row = row

-- no conversation is by a mechanism whose rules are on the credential's properties
reads_no_properties : (mechanism : AuthMechanism) (conversation : Conversation) → HasConversation mechanism conversation → ReadsNoProperties mechanism
reads_no_properties MongoDbAws conversation has = let no : ⊥ = cc in absurd no
reads_no_properties MongoDbOidc conversation has = let no : ⊥ = cc in absurd no
reads_no_properties mechanism conversation has = tt

ok_by : (mechanism : AuthMechanism) (credential : Credential) (result : Result (Unit {0}) ArgumentFault) → IsValidated mechanism credential false result → ((fault : ArgumentFault) → IsValidated mechanism credential false (Err fault) → ⊥) → IsValidated mechanism credential false (Ok tt)
ok_by mechanism credential (Ok done) is none = is
ok_by mechanism credential (Err fault) is none = absurd (none fault is)

-- and one that has none is taken
pub no_row_taken : (reply : Option (List ℕ)) (mechanism : AuthMechanism) (conversation : Conversation) (credential : Credential) → HasConversation mechanism conversation → HasNone (InvalidRow reply mechanism credential) → ValidatesCredential reply mechanism credential
no_row_taken None mechanism conversation credential has none =
    let answer = has_answer mechanism credential false (reads_no_properties mechanism conversation has) in
    ok_by mechanism credential answer.0 answer.1 (λ fault row. none (InvalidArgument fault) row)
no_row_taken (Some reply) mechanism conversation credential has none = tt

-- ---- SCRAM

user_has_name : (credential : Credential) (user : User) → IsUser credential user → Ok tt ≡ first_broken (rule ScramUsername (is_none credential.username) ∷ [])
user_has_name credential user is = sym (ap (λ name. first_broken (rule ScramUsername (is_none name) ∷ [])) is.username)

-- a mechanism of SCRAM takes each credential with a user name
user_validated : (mechanism : AuthMechanism) (version : ScramVersion) (credential : Credential) (user : User) → HasConversation mechanism (Scram version) → IsUser credential user → IsValidated mechanism credential false (Ok tt)
user_validated ScramSha1 version credential user has is = user_has_name credential user is
user_validated ScramSha256 version credential user has is = user_has_name credential user is
user_validated mechanism version credential user has is = let no : ⊥ = cc in absurd no

user_taken : (reply : Option (List ℕ)) (mechanism : AuthMechanism) (version : ScramVersion) (credential : Credential) (user : User) → HasConversation mechanism (Scram version) → IsUser credential user → ValidatesCredential reply mechanism credential
user_taken None mechanism version credential user has is = user_validated mechanism version credential user has is
user_taken (Some reply) mechanism version credential user has is = tt

pub user_no_row : (reply : Option (List ℕ)) (mechanism : AuthMechanism) (version : ScramVersion) (credential : Credential) (user : User) → HasConversation mechanism (Scram version) → IsUser credential user → HasNone (InvalidRow reply mechanism credential)
user_no_row reply mechanism version credential user has is = credential_no_row reply mechanism credential (user_taken reply mechanism version credential user has is)
