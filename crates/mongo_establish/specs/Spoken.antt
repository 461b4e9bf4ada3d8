-- Which mechanisms are spoken here, and by which conversation each: the one table that a further mechanism is a row of.
use Rattle.std.specs.Prelude.{◌≡◌, Bool, true, is_some, IsTrue, Option, None, Some, ⊤}
use Rattle.mongo_sasl.specs.declared.mechanism.AuthMechanism.{AuthMechanism}
use Rattle.mongo_sasl.specs.declared.mechanism.AuthMechanism.TheVariants.{MongoDbCr, ScramSha1, ScramSha256, MongoDbX509, Plain, MongoDbAws, MongoDbOidc}
use Rattle.mongo_scram.specs.declared.scram_version.ScramVersion.{ScramVersion}
use Rattle.mongo_scram.specs.declared.scram_version.ScramVersion.TheVariants.{Sha1, Sha256}
use Rattle.mongo_establish.specs.declared.conversation.Conversation.{Conversation}
use Rattle.mongo_establish.specs.declared.conversation.Conversation.TheVariants.{Scram, Plain as PlainText, X509}

-- the conversation that a login by the mechanism is, where it has one here
abbrev pub conversation_of : AuthMechanism → Option Conversation
conversation_of MongoDbCr = None
conversation_of ScramSha1 = Some (Scram Sha1)
conversation_of ScramSha256 = Some (Scram Sha256)
conversation_of MongoDbX509 = Some X509
conversation_of Plain = Some PlainText
conversation_of MongoDbAws = None
conversation_of MongoDbOidc = None

abbrev pub HasConversation : AuthMechanism → Conversation → Type 0
HasConversation mechanism conversation = conversation_of mechanism ≡ Some conversation

-- the version of SCRAM, where the conversation is that of SCRAM
abbrev pub scram_in : Option Conversation → Option ScramVersion
scram_in (Some (Scram version)) = Some version
scram_in conversation = None

-- that of SCRAM, of either version
abbrev pub IsScram : Option Conversation → Type 0
IsScram (Some (Scram version)) = ⊤
IsScram conversation = ⊥

-- A mechanism with a conversation is spoken; so is MONGODB-CR, by its refusal.
abbrev pub is_spoken : AuthMechanism → Bool
is_spoken MongoDbCr = true
is_spoken mechanism = is_some (conversation_of mechanism)

abbrev pub IsSpoken : AuthMechanism → Type 0
IsSpoken mechanism = IsTrue (is_spoken mechanism)
