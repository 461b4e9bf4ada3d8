use Rattle.std.proofs.Common.{◌≡◌, ℕ, ℤ, List, Option, None, Result, Ok, Err, IfOk, IfErr, inl, inr, sym, subst}
use Rattle.mongo_wire.specs.declared.error.Error.{Error}
use Rattle.mongo_wire.specs.declared.error.ErrorKind.{ErrorKind}
use Rattle.mongo_wire.specs.declared.message.Message.{Message}
use Rattle.mongo_wire.specs.Outside.{State}
use Rattle.mongo_command.specs.Exchange.{Exchanges, point}
use Rattle.mongo_command.specs.Hello.{IsHelloResponse, HelloRefused}
use Rattle.mongo_command.specs.HelloExchange.{RunsHello, RunHelloRefused}
use Rattle.mongo_command.specs.declared.hello.HelloReply.{HelloReply}
use Rattle.mongo_command.proofs.EndsExchange.{ends_handed, ends_replied}
use Rattle.mongo_command.proofs.hello_exchange.run_hello.Goals as goal

replied : (r : Result HelloReply Error) (document : List ℕ) (maximum : ℤ) (message : Message) (old new : State) (before after : ℤ) → Exchanges maximum message (point old before) (point new after) document
    → IfOk r (λ reply. IsHelloResponse document reply.command_response reply.cluster_time) → IfOk r (λ reply. reply.raw_command_response ≡ document) → IfOk r (RunsHello maximum message (point old before) (point new after))
replied (Ok reply) document maximum message old new before after exchanges reads is = record {
  exchanges = subst (λ d. Exchanges maximum message (point old before) (point new after) d) (sym is) exchanges;
  reads = subst (λ d. IsHelloResponse d reply.command_response reply.cluster_time) (sym is) reads;
}
replied (Err e) document maximum message old new before after exchanges reads is = tt

not_replied : (r : Result HelloReply Error) (document : List ℕ) (maximum : ℤ) (message : Message) (old new : State) (before after : ℤ) (kept : Option ErrorKind) → Exchanges maximum message (point old before) (point new after) document
    → IfErr r (λ e. HelloRefused e.kind document) → kept ≡ None → IfErr r (λ e. RunHelloRefused e.kind maximum message (point old before) (point new after) kept)
not_replied (Ok reply) document maximum message old new before after kept exchanges refused none = tt
not_replied (Err e) document maximum message old new before after kept exchanges refused none = inr (record { document = document; exchanges = exchanges; refused = refused; kept_is = none })

pub returns-clause-reply : goal.returns-clause-reply
returns-clause-reply g c = replied _ _ _ _ _ _ _ _ c.in_ok-response.ensures.exchanged c.into_hello_reply.ensures.response c.into_hello_reply.ensures.document

pub returns-clause-ends : goal.returns-clause-ends
returns-clause-ends g c =
    ends_replied _ _ _ _ _ _ _ _ (not_replied _ _ _ _ _ _ _ _ _ c.in_ok-response.ensures.exchanged c.into_hello_reply.ensures.refused c.in_ok-response.ensures.ends.faultless) c.in_ok-response.ensures.ends

pub returns-in_err-response-clause-ends : goal.returns-in_err-response-clause-ends
returns-in_err-response-clause-ends g c = ends_handed _ _ _ _ _ _ _ _ c.from_residual.ensures.1 (λ cause. inl cause) c.in_err-response.ensures.ends
