use Rattle.std.proofs.Common.{subst, IfOk}
use Rattle.mongo_establish.specs.First.{IsFirstIn}
use Rattle.mongo_establish.proofs.FirstRounds.{first_made, first_round_refused}
use Rattle.mongo_establish.proofs.client_first.build_speculative_client_first.Goals as goal

pub returns-in_default : goal.returns-in_default
returns-in_default c = record {
  first = subst (λ o. IfOk c.conversation_first.result (IsFirstIn o c.args.credential.now c.args.nonce.now)) c.conversation_of.ensures c.conversation_first.ensures.first;
  made = first_made c.conversation_first.result c.args.mechanism.now c.conversation_of.result c.args.credential.now c.in_default.not-MongoDbCr c.conversation_of.ensures c.conversation_first.ensures.made;
  refused = first_round_refused c.conversation_first.result c.args.mechanism.now c.conversation_of.result c.args.credential.now c.args.nonce.now c.in_default.not-MongoDbCr c.conversation_of.ensures c.conversation_first.ensures.refused;
}
