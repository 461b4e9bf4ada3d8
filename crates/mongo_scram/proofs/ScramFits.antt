-- SCRAM doesn't refuse by `IncompatibleServer`, which is the refusal of whoever establishes the connection.
use Rattle.std.proofs.Common.{ℕ, refl, Option, None, Some, List}
use Rattle.mongo_wire.specs.declared.error.ErrorKind.{ErrorKind}
use Rattle.mongo_wire.specs.declared.error.ErrorKind.TheVariants.{Authentication, PasswordNotAscii, IncompatibleServer}
use Rattle.mongo_wire.specs.declared.auth_fault.AuthFault.TheVariants.{Malformed, NotCompleted, PasswordControl}
use Rattle.mongo_command.specs.Conversation.{Plan, ending, reading, unless}
use Rattle.mongo_command.proofs.Leads.{never_ending, never_unless, never_reading, never_saying}
use Rattle.mongo_command.proofs.Plans.{all_else, all_row}
use Rattle.mongo_sasl.specs.declared.credential.Credential.{Credential}
use Rattle.mongo_sasl.proofs.Fits.{NeverIncompatible, fits_followed}
use Rattle.mongo_sasl.proofs.OtherRows.{IsOther, other, other_row}
use Rattle.mongo_scram.specs.declared.scram_version.ScramVersion.{ScramVersion}
use Rattle.mongo_scram.specs.declared.scram_version.ScramVersion.TheVariants.{Sha1, Sha256}
use Rattle.mongo_scram.specs.declared.server_first.ServerFirst.{ServerFirst}
use Rattle.mongo_scram.specs.declared.server_final.ServerFinal.{ServerFinal}
use Rattle.mongo_scram.specs.Key.{PasswordRow}
use Rattle.mongo_scram.specs.User.{User, IsUser, CredentialRow}
use Rattle.mongo_scram.specs.Plan.{Speculated, Handed, Challenge, start_said, close_said, ChallengeRow, challenged, opened, opening, LastRow, closed, closing, scram_plan}
use Rattle.mongo_scram.specs.Replies.{CarriesFirst, FirstReplyRow, CarriesFinal, FinalReplyRow}
use Rattle.mongo_scram.proofs.ScramPlan.{challenge_by_first}

-- ---- rows

pub credential_other : (credential : Credential) (kind : ErrorKind) → CredentialRow credential kind → IsOther kind
credential_other credential = other_row _

-- what holds of both refusals of a password holds by its row
each_password_row : (P : ErrorKind → Type 0) → P PasswordNotAscii → P (Authentication PasswordControl) → (version : ScramVersion) (password : List ℕ) (kind : ErrorKind) → PasswordRow version password kind → P kind
each_password_row P ascii control Sha1 password = λ kind row. absurd row
each_password_row P ascii control Sha256 password = all_else P _ _ (all_row P _ _ ascii) (all_row P _ _ control)

no_ascii : IsOther PasswordNotAscii
no_ascii is = cc

-- ---- SCRAM

no_first_reply : (reply : List ℕ) → FirstReplyRow reply IncompatibleServer → ⊥
no_first_reply reply row = all_else IsOther _ _ (other_row _) (other_row _) IncompatibleServer row refl

no_challenge : (handed : Handed) (c : Challenge) → ChallengeRow handed c IncompatibleServer → ⊥
no_challenge handed c row = all_else IsOther _ _ (other_row _) (each_password_row IsOther no_ascii (other PasswordControl) handed.version c.user.password) IncompatibleServer row refl

-- after the server's first message and its last
abbrev challenge_judged : Handed → User → ServerFirst → Plan Challenge
challenge_judged handed user first = unless (ChallengeRow handed (challenge_by_first user first)) (ending (challenge_by_first user first))

abbrev proved : Handed → Challenge → ServerFinal → Plan Challenge
proved handed c last = unless (LastRow handed c last) (ending c)

fits_challenged : (handed : Handed) (user : User) (reply : List ℕ) → NeverIncompatible (challenged handed user reply)
fits_challenged handed user reply =
    never_unless IncompatibleServer (FirstReplyRow reply) (reading (CarriesFirst reply) (challenge_judged handed user)) (no_first_reply reply) (never_reading IncompatibleServer (CarriesFirst reply) (challenge_judged handed user) (λ first.
    never_unless IncompatibleServer (ChallengeRow handed (challenge_by_first user first)) (ending (challenge_by_first user first)) (no_challenge handed (challenge_by_first user first)) (never_ending IncompatibleServer (challenge_by_first user first))))

fits_opened : (speculated : Option Speculated) (handed : Handed) (user : User) → NeverIncompatible (opened speculated handed user)
fits_opened None handed user = never_saying IncompatibleServer (start_said handed user) (challenged handed user) (fits_challenged handed user)
fits_opened (Some speculated) handed user = fits_challenged handed user speculated.reply

fits_opening : (handed : Handed) → NeverIncompatible (opening handed)
fits_opening handed = never_unless IncompatibleServer (CredentialRow handed.credential) (reading (IsUser handed.credential) (opened handed.speculated handed)) (λ row. credential_other handed.credential IncompatibleServer row refl) (never_reading IncompatibleServer (IsUser handed.credential) (opened handed.speculated handed) (fits_opened handed.speculated handed))

no_final_reply : (reply : List ℕ) → FinalReplyRow reply IncompatibleServer → ⊥
no_final_reply reply row = all_else IsOther _ _ (other_row _) (all_row IsOther _ _ (other Malformed)) IncompatibleServer row refl

no_last : (handed : Handed) (c : Challenge) (last : ServerFinal) → LastRow handed c last IncompatibleServer → ⊥
no_last handed c last row = all_else IsOther _ _ (other_row _) (all_row IsOther _ _ (other NotCompleted)) IncompatibleServer row refl

fits_closed : (handed : Handed) (c : Challenge) (reply : List ℕ) → NeverIncompatible (closed handed c reply)
fits_closed handed c reply =
    never_unless IncompatibleServer (FinalReplyRow reply) (reading (CarriesFinal reply) (proved handed c)) (no_final_reply reply) (never_reading IncompatibleServer (CarriesFinal reply) (proved handed c) (λ last.
    never_unless IncompatibleServer (LastRow handed c last) (ending c) (no_last handed c last) (never_ending IncompatibleServer c)))

pub fits_scram : (handed : Handed) → NeverIncompatible (scram_plan handed)
fits_scram handed = fits_followed (opening handed) (closing handed) (fits_opening handed) (λ c. never_saying IncompatibleServer (close_said handed c) (closed handed c) (fits_closed handed c))
