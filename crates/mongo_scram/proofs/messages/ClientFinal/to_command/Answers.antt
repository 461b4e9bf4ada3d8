use Rattle.std.proofs.Common.{◌≡◌, ℕ, Option, List, IfOk, IfErr, ◌∙◌, subst}
use Rattle.mongo_bson.specs.declared.owned_value.OwnedValue.{OwnedValue}
use Rattle.mongo_command.specs.declared.server_api.ServerApi.{ServerApi}
use Rattle.mongo_command.specs.Exchange.{DocumentRefused}
use Rattle.mongo_sasl.specs.declared.sasl_continue.SaslContinue.{SaslContinue}
use Rattle.mongo_sasl.specs.Commands.{continue_body, continue_command}
use Rattle.mongo_scram.specs.Client.{final_of, final_conversation, final_source_of, final_api_of}
use Rattle.mongo_scram.proofs.messages.ClientFinal.to_command.Goals as goal

abbrev step : List ℕ → OwnedValue → List ℕ → Option ServerApi → SaslContinue
step source conversation_id payload api = record { source = source; conversation_id = conversation_id; payload = payload; server_api = api }

same_step : (a b : List ℕ) (c d : OwnedValue) (e f : List ℕ) (api : Option ServerApi) → a ≡ b → c ≡ d → e ≡ f → step a c e api ≡ step b d f api
same_step a b c d e f api p q r = λ i. step (p i) (q i) (r i) api

-- the step is that of the message
step_is : (c : goal.After-into_command) → c.new.result ≡ step (final_source_of c.args.self.now) (final_conversation c.args.self.now) (final_of c.args.self.now) (final_api_of c.args.self.now)
step_is c =
    c.new.ensures
    ∙ same_step _ _ _ _ _ _ _ c.in_ok-source.ensures.copied c.in_ok-conversation_id.ensures.copied (c.in_ok-payload.ensures.copied ∙ c.as_bytes.ensures.value)

pub returns-clause-command : goal.returns-clause-command
returns-clause-command c =
    subst (λ s. IfOk c.into_command.result (λ command. command ≡ continue_command s)) (step_is c) c.into_command.ensures.command

pub returns-clause-refused : goal.returns-clause-refused
returns-clause-refused c =
    subst (λ s. IfErr c.into_command.result (λ e. DocumentRefused e.kind (continue_body s.conversation_id s.payload))) (step_is c) c.into_command.ensures.refused
