-- What is no hello.
use Rattle.std.proofs.Common.{◌≡◌, ℕ, Bool, true, false, List, bytes_eq, ◌||◌, refl, sym, ap, ◌∙◌, inl, inr}
use Rattle.std.proofs.lemmas.Bool.{false≢true}
use Rattle.mongo_bson.proofs.OneAnswer.{one_key}
use Rattle.mongo_bson.specs.Framed.{element_bytes}
use Rattle.mongo_command.specs.HelloCommand.{hello_command_name, legacy_hello_command_name}
use Rattle.mongo_command.specs.Keys.{is_master_key}
use Rattle.mongo_sasl.specs.Keys.{sasl_continue_key, sasl_start_key}
use Rattle.mongo_session.specs.CommandNames.{ping_command_name, build_info_command_name, lowercase_build_info_command_name, end_sessions_command_name}
use Rattle.mongo_session.specs.declared.request.Hello.{Hello}
use Rattle.mongo_session.specs.declared.request.Request.{Request}
use Rattle.mongo_session.specs.declared.request.Request.TheVariants.{Hello as HelloRequest, SaslStart, SaslContinue, Ping, BuildInfo, EndSessions, Other}
use Rattle.mongo_session.specs.Requests.{IsCommandName, IsHello, IsCommandNamed, SaysRequest, is_known_command}

-- a test that the names of a hello pass is passed by the name of each hello
passed : (test : List ℕ → Bool) (document name : List ℕ) → test hello_command_name ≡ true → test legacy_hello_command_name ≡ true → test is_master_key ≡ true → IsCommandNamed document name → IsHello document → test name ≡ true
passed test document name a b c named (inl is) = ap test (one_key (element_bytes document) name hello_command_name named is) ∙ a
passed test document name a b c named (inr (inl is)) = ap test (one_key (element_bytes document) name legacy_hello_command_name named is) ∙ b
passed test document name a b c named (inr (inr is)) = ap test (one_key (element_bytes document) name is_master_key named is) ∙ c

abbrev is_hello_name : List ℕ → Bool
is_hello_name name = bytes_eq name hello_command_name || bytes_eq name legacy_hello_command_name || bytes_eq name is_master_key

otherwise : (document name : List ℕ) → is_hello_name name ≡ false → IsCommandNamed document name → IsHello document → ⊥
otherwise document name other named is_hello = false≢true (sym other ∙ passed is_hello_name document name refl refl refl named is_hello)

unknown : (document name : List ℕ) → is_known_command name ≡ false → IsCommandName document name → IsHello document → ⊥
unknown document name other (inl named) is_hello = false≢true (sym other ∙ passed is_known_command document name refl refl refl named is_hello)
unknown document name other (inr (unnamed, empty)) (inl is) = unnamed hello_command_name is
unknown document name other (inr (unnamed, empty)) (inr (inl is)) = unnamed legacy_hello_command_name is
unknown document name other (inr (unnamed, empty)) (inr (inr is)) = unnamed is_master_key is

pub no_hello : (document : List ℕ) (request : Request) → SaysRequest document request → ((hello : Hello) → request ≡ HelloRequest hello → ⊥) → IsHello document → ⊥
no_hello document (HelloRequest hello) says other is_hello = other hello refl
no_hello document (SaslStart start) says other is_hello = otherwise document sasl_start_key refl says.named is_hello
no_hello document (SaslContinue next) says other is_hello = otherwise document sasl_continue_key refl says.named is_hello
no_hello document Ping says other is_hello = otherwise document ping_command_name refl says is_hello
no_hello document BuildInfo (inl says) other is_hello = otherwise document build_info_command_name refl says is_hello
no_hello document BuildInfo (inr says) other is_hello = otherwise document lowercase_build_info_command_name refl says is_hello
no_hello document EndSessions says other is_hello = otherwise document end_sessions_command_name refl says is_hello
no_hello document (Other name) says other is_hello = unknown document name.now says.unknown says.named is_hello
