use Rattle.std.proofs.Common.{Err, ap, ◌∙◌}
use Rattle.mongo_wire.specs.Error.{kind_of_fault}
use Rattle.mongo_command.specs.Exchange.{DocumentRefused}
use Rattle.mongo_scram.specs.Client.{message_of, first_source, includes_db, server_api_of}
use Rattle.mongo_scram.specs.Commands.{first_body}
use Rattle.mongo_scram.proofs.FirstBody.{same_step, start_sent, db_sent, db_refused, ok_is_no_error}
use Rattle.mongo_scram.proofs.ReplyRead.{fault_handed_on}
use Rattle.mongo_scram.proofs.messages.ClientFirst.to_command.Goals.{then-self+in_ok-append, else-self}
use Rattle.mongo_scram.proofs.messages.ClientFirst.to_command.Goals as goal

pub returns-clause-command : goal.returns-clause-command
returns-clause-command c =
    let message = c.args.self.now in
    let version = c.args.version.now in
    let start_is =
    c.new-start.ensures
    ∙ same_step version _ _ _ _ _ (server_api_of message) c.in_ok-source.ensures.copied c.mechanism.ensures (c.in_ok-payload.ensures.copied ∙ c.as_bytes.ensures.value) in
    elim c.if-self.branch [
      | then-self+in_ok-append w ↦
          db_sent version (first_source message) w.as_str.result.now (message_of message) (includes_db message) (server_api_of message) c.new-start.result c.in_ok-command.command c.if-self.command w.append.new.self w.as_str.ensures start_is c.in_ok-command.ensures.command w.if-self.true
          (λ long. ok_is_no_error _ _ (w.in_ok-append.ensures.too_long.1 long)) w.in_ok-append.ensures.added w.command-is
      | else-self w ↦
          start_sent version (first_source message) (message_of message) (includes_db message) (server_api_of message) c.new-start.result c.if-self.command start_is (w.command-is ∙ c.in_ok-command.ensures.command) w.if-self.false
    ]

pub returns-in_err-append-clause-refused : goal.returns-in_err-append-clause-refused
returns-in_err-append-clause-refused c =
    let message = c.args.self.now in
    let version = c.args.version.now in
    let start_is =
    c.new-start.ensures
    ∙ same_step version _ _ _ _ _ (server_api_of message) c.in_ok-source.ensures.copied c.mechanism.ensures (c.in_ok-payload.ensures.copied ∙ c.as_bytes.ensures.value) in
    let fault = c.in_err-append.field-0.0 in
    fault_handed_on c.from_residual-in_err-append.result (kind_of_fault fault) (λ kind. DocumentRefused kind (first_body version (includes_db message) (first_source message) (message_of message))) c.from_residual-in_err-append.ensures.1
    (db_refused version (first_source message) c.as_str.result.now (message_of message) (includes_db message) (server_api_of message) c.new-start.result c.in_ok-command.command c.as_str.ensures start_is c.in_ok-command.ensures.command c.if-self.true
    fault c.in_err-append.ensures.refused (λ is. c.in_err-append.ensures.key_has_zero.0 (ap Err is)) (λ is. (c.in_err-append.ensures.too_long.0 (ap Err is)).1))
