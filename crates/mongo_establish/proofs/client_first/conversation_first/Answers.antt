use Rattle.std.proofs.Common.{◌≡◌, Some, rules}
use Rattle.mongo_establish.specs.declared.conversation.Conversation.TheVariants.{Scram}
use Rattle.mongo_establish.proofs.FirstRounds.{made_by_scram, refused_by_scram}
use Rattle.mongo_establish.proofs.client_first.conversation_first.Goals as goal

pub returns-in-Some-Scram-clause-made : goal.returns-in-Some-Scram-clause-made
returns-in-Some-Scram-clause-made c =
    let is : c.args.conversation ≡ Some (Scram c.in-Some-Scram.version) = search rules in
    made_by_scram c.scram_first.result c.args.conversation c.in-Some-Scram.version c.args.credential.now is c.scram_first.ensures.made

pub returns-in-Some-Scram-clause-refused : goal.returns-in-Some-Scram-clause-refused
returns-in-Some-Scram-clause-refused c =
    let is : c.args.conversation ≡ Some (Scram c.in-Some-Scram.version) = search rules in
    refused_by_scram c.scram_first.result c.args.conversation c.in-Some-Scram.version c.args.credential.now c.args.nonce.now is c.scram_first.ensures.refused
