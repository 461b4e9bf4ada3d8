-- The hello of a handshake is a step of its plan.
use Rattle.std.proofs.Common.{◌≡◌, ℕ, ℤ, ◌∙◌, refl, ap, sym, subst, inl, inr, Option, None, Some, Result, Ok, Err, IfErr, List}
use Rattle.mongo_wire.specs.declared.error.Error.{Error}
use Rattle.mongo_wire.specs.declared.error.ErrorKind.{ErrorKind}
use Rattle.mongo_wire.specs.declared.message.Message.{Message}
use Rattle.mongo_wire.specs.Outside.{State}
use Rattle.mongo_wire.specs.Bytes.{first_maximum}
use Rattle.mongo_command.specs.declared.command.Command.{Command}
use Rattle.mongo_command.specs.declared.connection.Connection.{Connection}
use Rattle.mongo_command.specs.declared.hello.HelloReply.{HelloReply}
use Rattle.mongo_command.specs.declared.server_address.ServerAddress.{ServerAddress}
use Rattle.mongo_command.specs.declared.stream_description.StreamDescription.{StreamDescription}
use Rattle.mongo_command.specs.Command.{command_document}
use Rattle.mongo_command.specs.Connection.{kept_fault, KeepsRest}
use Rattle.mongo_command.specs.Conversation.{Plan, AreMet, Reached, StoppedKeeping, plain_message}
use Rattle.mongo_command.specs.Exchange.{command_message, frame_maximum, CountsStay, DocumentRefused, point}
use Rattle.mongo_command.specs.Hello.{IsHelloResponse, HelloRefused, description_demands, DescriptionRefused, description_of}
use Rattle.mongo_command.specs.HelloExchange.{RunsHello, RunHelloRefused}
use Rattle.mongo_command.proofs.Rest.{keeps_all}
use Rattle.mongo_command.proofs.Steps.{reached_ending, reached_unless, reached_reading, reached_saying, stopped_saying}
use Rattle.mongo_command.specs.EndsExchange.{footing}
use Rattle.mongo_sasl.specs.declared.credential.Credential.{Credential}
use Rattle.mongo_sasl.specs.Stops.{RefusedAtOnce}
use Rattle.mongo_sasl.proofs.AtOnce.{at_once_keeping, refused_later}
use Rattle.mongo_sasl.proofs.NotBuilt.{not_built}
use Rattle.mongo_establish.specs.declared.options.HandshakerOptions.{HandshakerOptions}
use Rattle.mongo_establish.specs.Client.{hello_with}
use Rattle.mongo_establish.specs.Established.{HoldsGreeting, GreetedBy, UngreetedBy}
use Rattle.mongo_establish.specs.Greeting.{Greeting, Greets, greeting_in}
use Rattle.mongo_establish.specs.Plan.{hello_said_with, after_hello, hello_exchange}
use Rattle.mongo_establish.specs.Reply.{IsDescribedBy}
use Rattle.mongo_establish.proofs.HelloBody.{least_body}
use Rattle.mongo_establish.proofs.HelloPlan.{no_row_of_reply}

-- ---- the reply

-- a hello's reply that was refused
no_hello : (address : ServerAddress) (kind : ErrorKind) (document : List ℕ) → HelloRefused kind document → RefusedAtOnce (after_hello address document) kind
no_hello address kind document (inl row) = inl (inl (inl row))
no_hello address kind document (inr memory) = inr (inl memory)

-- one whose description isn't made
no_description : (address : ServerAddress) (kind : ErrorKind) (reply : HelloReply) → IsHelloResponse reply.raw_command_response reply.command_response reply.cluster_time → DescriptionRefused kind reply.command_response → RefusedAtOnce (after_hello address reply.raw_command_response) kind
no_description address kind reply reads (inl row) =
    inl (inl (inr (λ other refuses. refuses.0 reply.command_response reply.cluster_time reads, record { response = reply.command_response; time = reply.cluster_time; reads = reads; row = row })))
no_description address kind reply reads (inr memory) = inr (inl memory)

-- one that describes
describes : (address : ServerAddress) (reply : HelloReply) (new : State) (after : ℤ) → IsHelloResponse reply.raw_command_response reply.command_response reply.cluster_time → AreMet (description_demands reply.command_response) → Reached (after_hello address reply.raw_command_response) (greeting_in address reply) (point new after) (point new after)
unfolding greeting_in
describes address reply new after reads taken =
    let document = reply.raw_command_response in
    let response = reply.command_response in
    let greeting : Greeting = greeting_in address reply in
    let greets : Greets address document greeting = (refl, record { response = response; time = reply.cluster_time; reads = reads; taken = taken; description_is = refl; speculative_is = refl; connection_id_is = refl }) in
    reached_unless _ _ greeting new new after after (λ kind. no_row_of_reply document kind response reply.cluster_time reads taken) (reached_reading _ _ greeting greeting new new after after greets (reached_ending greeting new after))

-- before a description the first maximum holds
maximum_before : (description : Option StreamDescription) → description ≡ None → frame_maximum description ≡ first_maximum
maximum_before description none = ap frame_maximum none

-- ---- the exchange

module _ (options : HandshakerOptions) (credential : Option Credential) (login : Option (List ℕ)) (opened : Connection) (fresh : opened.stream_description ≡ None) where
  abbrev plan : Plan Greeting
  plan = hello_exchange options credential login opened.address

  abbrev message : Message
  message = plain_message (command_document (hello_with options credential login))

  ungreeted : (connection : Connection) (kind : ErrorKind) (old new : State) (before after : ℤ) → KeepsRest opened connection → StoppedKeeping plan kind (point old before) (point new after) (kept_fault connection) → UngreetedBy options credential login kind (footing opened old before) (footing connection new after)
  ungreeted connection kind old new before after rest stopped = record { stopped = stopped; undescribed = rest.description ∙ fresh; rest = rest }

  -- one that leaves no fault
  still : (connection : Connection) (kind : ErrorKind) (old new : State) (before after : ℤ) → kept_fault connection ≡ None → StoppedKeeping plan kind (point old before) (point new after) None → StoppedKeeping plan kind (point old before) (point new after) (kept_fault connection)
  still connection kind old new before after faultless stopped = subst (StoppedKeeping plan kind (point old before) (point new after)) (sym faultless) stopped

  -- its body would be too long, or memory ran out
  pub unbuilt : (kind : ErrorKind) → DocumentRefused kind (hello_with options credential login).body → RefusedAtOnce plan kind
  unbuilt kind r =
      let hello = hello_with options credential login in
      not_built (hello_said_with options credential login) (after_hello opened.address) hello kind refl (least_body options credential login) r

  pub unbuilt_greeting : {T : Type 0} (r : Result T Error) (old : State) (before : ℤ) → kept_fault opened ≡ None → IfErr r (λ e. DocumentRefused e.kind (hello_with options credential login).body) → IfErr r (λ e. UngreetedBy options credential login e.kind (footing opened old before) (footing opened old before))
  unbuilt_greeting (Ok x) old before faultless h = tt
  unbuilt_greeting (Err e) old before faultless h =
      ungreeted opened e.kind old old before before (keeps_all opened) (still opened e.kind old old before before faultless (at_once_keeping plan e.kind old before (unbuilt e.kind h)))

  module _ (hello : Command) (made : hello ≡ hello_with options credential login) where
    refused_so : (kind : ErrorKind) (old new : State) (before after : ℤ) (kept : Option ErrorKind) → RunHelloRefused kind (frame_maximum opened.stream_description) (command_message hello) (point old before) (point new after) kept → RunHelloRefused kind first_maximum message (point old before) (point new after) kept
    refused_so kind old new before after kept r =
        subst (λ c. RunHelloRefused kind first_maximum (command_message c) (point old before) (point new after) kept) made
        (subst (λ most. RunHelloRefused kind most (command_message hello) (point old before) (point new after) kept) (maximum_before opened.stream_description fresh) r)

    unrun : (kind : ErrorKind) (old new : State) (before after : ℤ) (kept : Option ErrorKind) → CountsStay old new → RunHelloRefused kind first_maximum message (point old before) (point new after) kept → StoppedKeeping plan kind (point old before) (point new after) kept
    unrun kind old new before after kept counts r =
        let said = hello_said_with options credential login in
        elim r [
          | inl x ↦ stopped_saying said (after_hello opened.address) kind old new before after kept x counts
          | inr n ↦ subst (StoppedKeeping plan kind (point old before) (point new after)) (sym n.kept_is) (refused_later said (after_hello opened.address) n.document kind old new before after n.exchanges counts (no_hello opened.address kind n.document n.refused))
        ]

    -- it was refused
    pub unrun_greeting : {T : Type 0} (r : Result T Error) (connection : Connection) (old new : State) (before after : ℤ) → KeepsRest opened connection → CountsStay old new
        → IfErr r (λ e. RunHelloRefused e.kind (frame_maximum opened.stream_description) (command_message hello) (point old before) (point new after) (kept_fault connection)) → IfErr r (λ e. UngreetedBy options credential login e.kind (footing opened old before) (footing connection new after))
    unrun_greeting (Ok x) connection old new before after rest counts h = tt
    unrun_greeting (Err e) connection old new before after rest counts h =
        ungreeted connection e.kind old new before after rest (unrun e.kind old new before after (kept_fault connection) counts (refused_so e.kind old new before after (kept_fault connection) h))

    module _ (old new : State) (before after : ℤ) (reply : HelloReply) (runs : RunsHello (frame_maximum opened.stream_description) (command_message hello) (point old before) (point new after) reply) (counts : CountsStay old new) (ran : Connection) (rest : KeepsRest opened ran) where
      runs_so : RunsHello first_maximum message (point old before) (point new after) reply
      runs_so =
          subst (λ c. RunsHello first_maximum (command_message c) (point old before) (point new after) reply) made
          (subst (λ most. RunsHello most (command_message hello) (point old before) (point new after) reply) (maximum_before opened.stream_description fresh) runs)

      -- its reply doesn't describe the server
      pub undescribed_greeting : {T : Type 0} (r : Result T Error) (connection : Connection) → connection ≡ ran → kept_fault ran ≡ None → IfErr r (λ e. DescriptionRefused e.kind reply.command_response) → IfErr r (λ e. UngreetedBy options credential login e.kind (footing opened old before) (footing connection new after))
      undescribed_greeting (Ok x) connection same faultless h = tt
      undescribed_greeting (Err e) connection same faultless h =
          ungreeted connection e.kind old new before after (subst (KeepsRest opened) (sym same) rest)
          (still connection e.kind old new before after (ap kept_fault same ∙ faultless)
          (refused_later (hello_said_with options credential login) (after_hello opened.address) reply.raw_command_response e.kind old new before after runs_so.exchanges counts (no_description opened.address e.kind reply runs.reads h)))

      holds : (connection : Connection) → reply.server_address ≡ opened.address → IsDescribedBy ran connection reply → HoldsGreeting opened connection (greeting_in opened.address reply)
      unfolding greeting_in
      holds connection at h = record {
        address = h.address ∙ rest.address;
        id = h.id ∙ rest.id;
        description_is = h.description_is ∙ ap (λ address. Some (description_of address reply.command_response)) at;
        server_id = h.server_id;
        token = h.token ∙ rest.token;
      }

      -- it does
      pub greeted : (connection : Connection) → reply.server_address ≡ opened.address → kept_fault ran ≡ None → IsDescribedBy ran connection reply → GreetedBy options credential login (footing opened old before) (footing connection new after) reply
      greeted connection at faultless h = record {
        address = at;
        reads = runs.reads;
        reached = reached_saying (hello_said_with options credential login) (after_hello opened.address) reply.raw_command_response (greeting_in opened.address reply) old new new before after after runs_so.exchanges counts (describes opened.address reply new after runs.reads h.taken);
        described = record { holds = holds connection at h; faultless = h.fault ∙ faultless };
      }
