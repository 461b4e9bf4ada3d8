use Rattle.std.proofs.Common.{length}
use denote.Shadow.{shadow}
use denote.Text.{Utf8}
use Rattle.mongo_scram.specs.ServerMessages.{HasNo}
use Rattle.mongo_server.specs.ClientMessages.{IsSaslName}
use Rattle.mongo_server.proofs.user_name.is_saslname.Given as goal

abbrev pub invariant-loop-code : goal.invariant-loop-code
invariant-loop-code l = record { text : shadow (Utf8 l.rest); no_comma : HasNo 0x2C l.rest; whole : IsSaslName l.rest → IsSaslName l.fn.text; part : IsSaslName l.fn.text → IsSaslName l.rest }

abbrev pub decreases-loop-code : goal.decreases-loop-code
decreases-loop-code l = length l.rest
