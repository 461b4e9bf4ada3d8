use Rattle.std.proofs.Common.{◌≡◌, ◌≢◌, List, ℕ, Some, inl, rules}
use Rattle.mongo_scram.specs.Keys.{proof_under}
use Rattle.mongo_server.specs.declared.server_core.ServerConversation.{ServerConversation}
use Rattle.mongo_server.specs.ClientMessages.{IsClientFinal}
use Rattle.mongo_server.specs.Server.{held_conversation}
use Rattle.mongo_server.proofs.ServerRows.{proof_row}
use Rattle.mongo_server.proofs.server_core.ServerCore.check.Goals as goal

pub returns-clause-refused : goal.returns-clause-refused
returns-clause-refused c =
    let core = c.args.self.now in
    let held : ServerConversation = c.in-Some.conversation in
    let proof : List ℕ = c.in_ok-message.message.proof in
    let begun : held_conversation core ≡ Some held = search rules in
    let final : IsClientFinal c.args.client_final.now held.nonce proof = search rules in
    let other : proof ≢ proof_under core.user.keys held.auth_message = search rules in
    inl (proof_row core c.args.client_final.now held proof begun final other)
