-- How a plan begins, why it is refused before any exchange, and where it was stopped.
use Rattle.std.specs.Prelude.{◌≡◌, ◌<◌, ◌⊎◌, Option, List, [], length}
use Rattle.mongo_bson.specs.Framed.{maximum_length}
use Rattle.mongo_bson.specs.declared.fault.BsonFault.TheVariants.{TooLong}
use Rattle.mongo_wire.specs.declared.error.ErrorKind.{ErrorKind}
use Rattle.mongo_wire.specs.declared.error.ErrorKind.TheVariants.{InvalidArgument, OutOfMemory}
use Rattle.mongo_wire.specs.declared.fault.ArgumentFault.TheVariants.{Bson}
use Rattle.mongo_command.specs.Conversation.{Said, says, refuses, Plan, StoppedGiven}
use Rattle.mongo_command.specs.Exchange.{Point}
use Rattle.mongo_command.specs.Helper.{Given}

-- the plan's first turn is a command
abbrev pub BeginsWithCommand : {A : Type 0} → Plan A → Type 0
BeginsWithCommand plan = (said : Said) × plan [] (says said)

-- and its document would pass 2147483647 bytes
pub record BeginsTooLong {A : Type 0} (plan : Plan A) (kind : ErrorKind) : Type 0 where
  pub said : Said
  pub turn : plan [] (says said)
  pub long : maximum_length < length said.document
  pub kind_is : kind ≡ InvalidArgument (Bson TooLong)

-- Why a plan is refused before it comes to an exchange: it refuses at once, memory is wanted, or its first command is too
-- long to be built.
abbrev pub RefusedAtOnce : {A : Type 0} → Plan A → ErrorKind → Type 0
RefusedAtOnce plan kind = plan [] (refuses kind) ⊎ (kind ≡ OutOfMemory) ⊎ BeginsTooLong plan kind

-- the plan was followed up to this refusal by these answers of a helper, whatever its connection keeps
abbrev pub StoppedWith : {A : Type 0} → List Given → Plan A → ErrorKind → Point → Point → Type 0
StoppedWith given plan kind old new = (kept : Option ErrorKind) × StoppedGiven given plan kind old new kept
