-- The conversations that a login may be: of each its plan, and its answers of a helper, its commands and its replies as whole
-- lists. A further one is a case of the table.
use Rattle.std.specs.Prelude.{ℕ, List, is_some}
use Rattle.mongo_command.specs.Conversation.{Plan}
use Rattle.mongo_command.specs.Helper.{Given}
use Rattle.mongo_sasl.specs.Login.{unasked}
use Rattle.mongo_sasl.specs.Plain.{plain_handed, plain_plan, IsPlainLogin}
use Rattle.mongo_sasl.specs.X509.{x509_handed, x509_plan, IsX509Login}
use Rattle.mongo_scram.specs.Plan.{Challenge, scram_plan}
use Rattle.mongo_scram.specs.Script.{IsScramLogin}
use Rattle.mongo_establish.specs.declared.conversation.Conversation.{Conversation}
use Rattle.mongo_establish.specs.declared.conversation.Conversation.TheVariants.{Scram, Plain as PlainText, X509}
use Rattle.mongo_establish.specs.Login.{LoginHanded, scram_handed}

-- a conversation as a part of a login: its plan, whose answer isn't looked at, and which answers of a helper, commands and
-- replies hold it
pub record LoginPart : Type 1 where
  pub End : Type 0
  pub plan : Plan End
  pub holds : List Given → List (List ℕ) → List (List ℕ) → Type 0

-- the table: what each is handed, and what it is by that
abbrev pub login_part : Conversation → LoginHanded → LoginPart
login_part (Scram version) handed =
    let scram = scram_handed version handed in
    record { End = Challenge; plan = scram_plan scram; holds = unasked (IsScramLogin scram) }
login_part PlainText handed =
    let plain = plain_handed handed.credential handed.options.auth_options.server_api handed.maximum in
    record { End = Unit {0}; plan = plain_plan plain; holds = unasked (IsPlainLogin plain) }
login_part X509 handed =
    let x509 = x509_handed handed.credential handed.options.auth_options.server_api (is_some handed.reply) handed.maximum in
    record { End = Unit {0}; plan = x509_plan x509; holds = unasked (IsX509Login x509) }
