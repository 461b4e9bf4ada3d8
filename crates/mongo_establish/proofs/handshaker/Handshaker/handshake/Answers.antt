use Rattle.std.proofs.Common.{rules, option_copied}
use Rattle.mongo_scram.proofs.Derived.{costs_nothing, on_refused}
use Rattle.mongo_establish.specs.Options.{options_in}
use Rattle.mongo_establish.proofs.Answered.{shaking_stopped, handshake_stopped}
use Rattle.mongo_establish.proofs.Establishment.{establishment_only_memory, only_refused}
use Rattle.mongo_establish.proofs.EstablishmentPlan.{one_handshake}
use Rattle.mongo_establish.proofs.FirstRounds.{own_round}
use Rattle.mongo_establish.proofs.Shaking.{unmade_stopped, ungreeted_stopped, login_stopped, shook, refusal_handed_on, ok_of}
use Rattle.mongo_establish.proofs.handshaker.Handshaker.handshake.Goals as goal

pub returns-in_err-first-clause-refused : goal.returns-in_err-first-clause-refused
returns-in_err-first-clause-refused g c =
    unmade_stopped c.args.connection.now (options_in c.args.self.now) (option_copied c.args.credential) c.args.inputs.now.nonces c.args.state.now.ids c.requires.undescribed _ _ _ _ c.requires.faultless (costs_nothing _ _) (search rules)

pub returns-in_err-reply-clause-refused : goal.returns-in_err-reply-clause-refused
returns-in_err-reply-clause-refused g c =
    ungreeted_stopped c.args.connection.now (options_in c.args.self.now) (option_copied c.args.credential) c.args.inputs.now.nonces c.args.state.now.ids
    c.in_ok-first.ensures.made c.in_ok-first.first c.in_ok-first.ensures.first _ c.say_hello.new.connection _ _ _ _ _ (costs_nothing _ _) (refusal_handed_on _ c.say_hello.result c.in_err-reply.field-0.0 _ c.from_residual-in_err-reply.ensures.1 c.in_err-reply.was c.say_hello.ensures.refused)

pub log_in-requires-clause-own : goal.log_in-requires-clause-own
log_in-requires-clause-own g c = own_round (option_copied c.args.credential) c.args.inputs.now.nonces.first c.in_ok-first.first c.answered_round-round.result c.in_ok-first.ensures.first c.answered_round-round.ensures.kind

pub returns-in_err-log_in-clause-refused : goal.returns-in_err-log_in-clause-refused
returns-in_err-log_in-clause-refused g c =
    login_stopped c.args.connection.now (options_in c.args.self.now) (option_copied c.args.credential) c.args.inputs.now.nonces c.args.state.now.ids
    c.in_ok-first.ensures.made c.in_ok-first.first c.in_ok-first.ensures.first _ _ _ c.in_ok-reply.reply c.say_hello.new.connection c.in_ok-reply.ensures.greeted
    c.answered_round-round.result c.answered_round-round.ensures.there c.answered_round-round.ensures.scram
    _ _ c.log_in.new.connection _ _ _ _ c.log_in.ensures.connection (refusal_handed_on _ c.log_in.result c.in_err-log_in.field-0.0 _ c.from_residual-in_err-log_in.ensures.1 c.in_err-log_in.was c.log_in.ensures.refused)

pub returns-in_err-log_in-clause-entries : goal.returns-in_err-log_in-clause-entries
returns-in_err-log_in-clause-entries g c = on_refused c.from_residual-in_err-log_in.result _ c.in_err-log_in.ensures.entries

pub returns-clause-shook : goal.returns-clause-shook
returns-clause-shook g c =
    shook c.args.connection.now (options_in c.args.self.now) (option_copied c.args.credential) c.args.inputs.now.nonces c.args.state.now.ids
    c.in_ok-first.ensures.made c.in_ok-first.first c.in_ok-first.ensures.first _ _ _ c.in_ok-reply.reply c.say_hello.new.connection c.in_ok-reply.ensures.greeted
    c.answered_round-round.result c.answered_round-round.ensures.there c.answered_round-round.ensures.scram
    c.log_in.new.connection _ _ _ _ c.answered_round-round.new.reply c.log_in.ensures.connection c.in_ok-log_in.ensures.faultless c.answered_round-round.ensures.reply (ok_of c.log_in.result c.in_ok-log_in.field-0 c.in_ok-log_in.was c.log_in.ensures.logged_in)

-- ---- where the link doesn't fail

pub returns-in_err-first-clause-complete : goal.returns-in_err-first-clause-complete
returns-in_err-first-clause-complete g c =
    establishment_only_memory _ c.from_residual.result (λ e. e.kind) _ _ _ _ (handshake_stopped _ c.from_residual.result _ _ _ _ (shaking_stopped _ c.from_residual.result _ _ _ _ _ _ _ _ (returns-in_err-first-clause-refused g c)))

pub returns-in_err-first-clause-exact : goal.returns-in_err-first-clause-exact
returns-in_err-first-clause-exact g c =
    only_refused _ c.from_residual.result (λ e. e.kind) _ _ _ _ _ (one_handshake _) (shaking_stopped _ c.from_residual.result _ _ _ _ _ _ _ _ (returns-in_err-first-clause-refused g c))

pub returns-in_err-reply-clause-complete : goal.returns-in_err-reply-clause-complete
returns-in_err-reply-clause-complete g c =
    establishment_only_memory _ c.from_residual-in_err-reply.result (λ e. e.kind) _ _ _ _ (handshake_stopped _ c.from_residual-in_err-reply.result _ _ _ _ (shaking_stopped _ c.from_residual-in_err-reply.result _ _ _ _ _ _ _ _ (returns-in_err-reply-clause-refused g c)))

pub returns-in_err-reply-clause-exact : goal.returns-in_err-reply-clause-exact
returns-in_err-reply-clause-exact g c =
    only_refused _ c.from_residual-in_err-reply.result (λ e. e.kind) _ _ _ _ _ (one_handshake _) (shaking_stopped _ c.from_residual-in_err-reply.result _ _ _ _ _ _ _ _ (returns-in_err-reply-clause-refused g c))

pub returns-in_err-log_in-clause-complete : goal.returns-in_err-log_in-clause-complete
returns-in_err-log_in-clause-complete g c =
    establishment_only_memory _ c.from_residual-in_err-log_in.result (λ e. e.kind) _ _ _ _ (handshake_stopped _ c.from_residual-in_err-log_in.result _ _ _ _ (shaking_stopped _ c.from_residual-in_err-log_in.result _ _ _ _ _ _ _ _ (returns-in_err-log_in-clause-refused g c)))

pub returns-in_err-log_in-clause-exact : goal.returns-in_err-log_in-clause-exact
returns-in_err-log_in-clause-exact g c =
    only_refused _ c.from_residual-in_err-log_in.result (λ e. e.kind) _ _ _ _ _ (one_handshake _) (shaking_stopped _ c.from_residual-in_err-log_in.result _ _ _ _ _ _ _ _ (returns-in_err-log_in-clause-refused g c))
