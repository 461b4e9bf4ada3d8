-- What a session answers.
use Rattle.std.specs.Prelude.{◌≡◌, ℕ, Option, None, Some, List}
use Rattle.mongo_session.specs.declared.reply.HelloAnswer.{HelloAnswer}
use Rattle.mongo_session.specs.declared.reply.RefusedCommand.TheVariants.{AuthenticationFailed, Unauthorized, CommandNotFound}
use Rattle.mongo_session.specs.declared.reply.Reply.{Reply}
use Rattle.mongo_session.specs.declared.reply.Reply.TheVariants.{Hello as Described, Sasl, BuildInfo as Version, Done, Refused}
use Rattle.mongo_session.specs.declared.reply.SaslReply.{SaslReply}
use Rattle.mongo_session.specs.declared.request.Hello.{Hello as HelloRequest}
use Rattle.mongo_session.specs.declared.request.Request.{Request}
use Rattle.mongo_session.specs.declared.request.Request.TheVariants.{Hello, SaslStart, SaslContinue, Ping, BuildInfo, EndSessions, Other}
use Rattle.mongo_session.specs.declared.request.StartRequest.{StartRequest as Start}
use Rattle.mongo_session.specs.declared.session.Session.{Session}
use Rattle.mongo_session.specs.declared.serve_settings.ServeSettings.{ServeSettings}
use Rattle.mongo_session.specs.Accounts.{AreMechanismsOf}
use Rattle.mongo_session.specs.Requests.{SaysRequest}
use Rattle.mongo_session.specs.Sasl.{AnswersStart, AnswersContinue}

-- the reply where somebody is logged in
abbrev pub guarded_by : Option (List ℕ) → Reply → Reply
guarded_by None reply = Refused Unauthorized
guarded_by (Some name) reply = reply

-- what a login's command is answered: a message of the login, or its failure, which says no cause
abbrev pub login_reply : Option SaslReply → Reply
login_reply None = Refused AuthenticationFailed
login_reply (Some message) = Sasl message

-- the login that a hello carries is answered as if it came alone
abbrev pub AnswersCarried : ServeSettings → Session → Option Start → Session → Option SaslReply → Type 0
AnswersCarried settings old None new answer = (answer ≡ None) × (new ≡ old)
AnswersCarried settings old (Some start) new answer = AnswersStart settings start new answer

-- A hello is answered by the mechanisms of the user that it asks for, and by what the login comes to that it carries.
pub record AnswersHello (settings : ServeSettings) (old : Session) (hello : HelloRequest) (new : Session) (reply : HelloAnswer) : Type 0 where
  pub user : new.user ≡ old.user
  pub legacy : reply.is_legacy ≡ hello.is_legacy
  pub mechanisms : AreMechanismsOf settings.accounts hello.mechanisms_of reply.mechanisms
  pub speculation : AnswersCarried settings old hello.speculation new reply.speculation

abbrev pub IsDescription : ServeSettings → Session → HelloRequest → Session → Reply → Type 0
IsDescription settings old hello new (Described reply) = AnswersHello settings old hello new reply
IsDescription settings old hello new reply = ⊥

-- Only a hello and the commands of a login are answered before somebody is logged in.
abbrev pub IsAnswer : ServeSettings → Session → Request → Session → Reply → Type 0
IsAnswer settings old (Hello hello) new reply = IsDescription settings old hello new reply
IsAnswer settings old (SaslStart start) new reply = (message : Option SaslReply) × (reply ≡ login_reply message) × AnswersStart settings start new message × (new.user ≡ old.user)
IsAnswer settings old (SaslContinue next) new reply = (message : Option SaslReply) × (reply ≡ login_reply message) × AnswersContinue old next new message
IsAnswer settings old Ping new reply = (new ≡ old) × (reply ≡ guarded_by old.user Done)
IsAnswer settings old BuildInfo new reply = (new ≡ old) × (reply ≡ guarded_by old.user Version)
IsAnswer settings old EndSessions new reply = (new ≡ old) × (reply ≡ guarded_by old.user Done)
IsAnswer settings old (Other name) new reply = (new ≡ old) × (reply ≡ guarded_by old.user (Refused (CommandNotFound name.now)))

-- what a session answers to a document
pub record IsDocumentAnswered (settings : ServeSettings) (before : Session) (document : List ℕ) (after : Session) (reply : Reply) : Type 0 where
  pub request : Request
  pub says : SaysRequest document request
  pub is_answer : IsAnswer settings before request after reply
