use Rattle.std.proofs.Common.{[], ◌∷◌, inr, refl, ap, ◌∙◌}
use Rattle.std.proofs.lemmas.Result.{err_from_is_err_and}
use Rattle.mongo_wire.specs.Error.{kind_of_fault}
use Rattle.mongo_command.specs.EndsExchange.{footing}
use Rattle.mongo_command.specs.declared.command.Command.{Command}
use Rattle.mongo_exec.specs.Insert.{documents_sequence}
use Rattle.mongo_exec.proofs.OneBatch.{batch_added, batch_unread}
use Rattle.mongo_exec.proofs.batches.insert_batch.Goals as goal

pub returns-in_err-told : goal.returns-in_err-told
returns-in_err-told g c = record {
  ends = λ d insert described bare.
      (let e = err_from_is_err_and c.from_residual-in_err-told.result c.from_residual-in_err-told.ensures.1 in
      let is = c.in_ok-command.ensures.command ∙ ap (λ (x : Command). record x { document_sequences = documents_sequence c.args.batch.now ∷ [] }) bare in
      rw (e.1, e.2) (batch_unread g.L.Outside.state d insert c.args.batch.now c.args.place c.args.tally.now c.args.tally.now
      (footing c.args.connection.now c.args.link.now c.args.ids.now) (footing c.send_message.new.self c.send_message.new.link c.send_message.new.ids) described c.in_ok-command.command is
      c.in_err-told.field-0.0 c.in_ok-response.response c.in_ok-response.ensures.exchanged c.in_ok-response.ensures.ends c.in_err-told.ensures.refused refl));
}

pub returns-in_err-add : goal.returns-in_err-add
returns-in_err-add g c = record {
  ends = λ d insert described bare.
      (let e = err_from_is_err_and c.from_residual-in_err-add.result c.from_residual-in_err-add.ensures.1 in
      let is = c.in_ok-command.ensures.command ∙ ap (λ (x : Command). record x { document_sequences = documents_sequence c.args.batch.now ∷ [] }) bare in
      rw (e.1) (batch_unread g.L.Outside.state d insert c.args.batch.now c.args.place c.args.tally.now c.add.new.self
      (footing c.args.connection.now c.args.link.now c.args.ids.now) (footing c.send_message.new.self c.send_message.new.link c.send_message.new.ids) described c.in_ok-command.command is
      e.0 c.in_ok-response.response c.in_ok-response.ensures.exchanged c.in_ok-response.ensures.ends (inr (e.2 ∙ ap kind_of_fault c.in_err-add.ensures.refused)) c.in_err-add.ensures.unchanged));
}

pub returns : goal.returns
returns g c = record {
  ends = λ d insert described bare.
      (let is = c.in_ok-command.ensures.command ∙ ap (λ (x : Command). record x { document_sequences = documents_sequence c.args.batch.now ∷ [] }) bare in
      batch_added g.L.Outside.state d insert c.args.batch.now c.args.place c.args.tally.now c.add.new.self
      (footing c.args.connection.now c.args.link.now c.args.ids.now) (footing c.send_message.new.self c.send_message.new.link c.send_message.new.ids) described c.in_ok-command.command is
      c.in_ok-told.told c.in_ok-response.response c.in_ok-response.ensures.exchanged c.in_ok-response.ensures.ends c.in_ok-told.ensures.read c.in_ok-told.ensures.within c.in_ok-add.ensures.added c.in_ok-add.ensures.behind);
}
