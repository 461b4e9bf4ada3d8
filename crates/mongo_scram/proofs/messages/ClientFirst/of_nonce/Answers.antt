use Rattle.std.proofs.Common.{ap, take, List, ℕ}
use Rattle.mongo_scram.specs.Messages.{open_message}
use Rattle.mongo_scram.proofs.messages.ClientFirst.of_nonce.Goals as goal

pub invariant_of-result : goal.invariant_of-result
unfolding open_message
invariant_of-result c = record { opens = ap (λ (bytes : List ℕ). take 3 bytes) c.in_ok-message.ensures }
