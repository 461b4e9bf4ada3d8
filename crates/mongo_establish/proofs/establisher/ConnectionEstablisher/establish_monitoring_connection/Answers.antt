use Rattle.mongo_establish.specs.Options.{options_of_establisher}
use Rattle.mongo_establish.proofs.Establishment.{establishment_only_memory, only_refused}
use Rattle.mongo_establish.proofs.EstablishmentPlan.{one_establishment}
use Rattle.mongo_establish.proofs.Monitoring.{monitored, unmonitored, unmonitored_whole}
use Rattle.mongo_establish.proofs.Shaking.{refusal_handed_on}
use Rattle.mongo_establish.proofs.establisher.ConnectionEstablisher.establish_monitoring_connection.Goals as goal

pub returns-in_err-reply-clause-refused : goal.returns-in_err-reply-clause-refused
returns-in_err-reply-clause-refused g c =
    unmonitored c.args.address c.args.id (options_of_establisher c.args.self.now) c.args.ids.now c.new-connection.result c.new-connection.ensures.address
    _ c.say_hello.new.connection _ _ _ (refusal_handed_on _ c.say_hello.result c.in_err-reply.field-0.0 _ c.from_residual.ensures.1 c.in_err-reply.was c.say_hello.ensures.refused)

pub returns-in_err-reply-clause-complete : goal.returns-in_err-reply-clause-complete
returns-in_err-reply-clause-complete g c =
    establishment_only_memory _ c.from_residual.result (λ e. e.kind) _ _ _ _ (unmonitored_whole c.args.address c.args.id (options_of_establisher c.args.self.now) c.args.ids.now c.new-connection.result c.new-connection.ensures.address c.from_residual.result _ _ _ (returns-in_err-reply-clause-refused g c))

pub returns-in_err-reply-clause-exact : goal.returns-in_err-reply-clause-exact
returns-in_err-reply-clause-exact g c =
    only_refused _ c.from_residual.result (λ e. e.kind) _ _ _ _ _ (one_establishment _)
    (unmonitored_whole c.args.address c.args.id (options_of_establisher c.args.self.now) c.args.ids.now c.new-connection.result c.new-connection.ensures.address c.from_residual.result _ _ _ (returns-in_err-reply-clause-refused g c))

pub returns-clause-monitored : goal.returns-clause-monitored
returns-clause-monitored g c =
    let fresh = c.new-connection.ensures in
    monitored c.args.address c.args.id (options_of_establisher c.args.self.now) c.args.ids.now c.new-connection.result fresh.address
    c.say_hello.new.connection _ _ _ c.in_ok-reply.reply c.in_ok-reply.ensures.greeted fresh.id fresh.token
