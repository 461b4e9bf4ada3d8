-- A command whose body passes an int32's greatest length isn't built, nor one for which memory is wanted.
use Rattle.std.proofs.Common.{◌≡◌, ℕ, ◌-◌, ◌≤◌, ◌++◌, List, length, drop, flat_map, refl, ap, inl, inr, arith, length-append, length-drop}
use Rattle.std.proofs.lemmas.List.{length-take-le}
use Rattle.mongo_bson.specs.Document.{spell}
use Rattle.mongo_bson.specs.Framed.{element_bytes}
use Rattle.mongo_bson.specs.declared.fault.BsonFault.TheVariants.{TooLong}
use Rattle.mongo_bson.proofs.Enclosed.{length-enclosed}
use Rattle.mongo_wire.specs.declared.error.ErrorKind.{ErrorKind}
use Rattle.mongo_wire.specs.declared.error.ErrorKind.TheVariants.{InvalidArgument, OutOfMemory}
use Rattle.mongo_wire.specs.declared.fault.ArgumentFault.TheVariants.{Bson}
use Rattle.mongo_command.specs.declared.command.Command.{Command}
use Rattle.mongo_command.specs.Command.{argument_elements, command_document}
use Rattle.mongo_command.specs.Conversation.{Said, Plan, saying}
use Rattle.mongo_command.specs.Exchange.{DocumentRefused}
use Rattle.mongo_sasl.specs.Stops.{RefusedAtOnce}

-- a command's document is no shorter than its body
longer_document : (c : Command) → 5 ≤ length c.body → length c.body ≤ length (command_document c)
longer_document c least =
    let more = flat_map spell (argument_elements c.target_db c.arguments) in
    let cut = length-take-le (length c.body - 5) (drop 4 c.body) (omega (arith, length-drop 4 c.body)) in
    omega (arith, least, cut, length-enclosed (element_bytes c.body ++ more), length-append (element_bytes c.body) more)

-- a plan that says a command which isn't built is refused at once
pub not_built : {A : Type 0} (said : Said) (plan : List ℕ → Plan A) (c : Command) (kind : ErrorKind) → said.document ≡ command_document c → 5 ≤ length c.body → DocumentRefused kind c.body → RefusedAtOnce (saying said plan) kind
not_built said plan c (InvalidArgument (Bson TooLong)) is least long = inr (inr (record { said = said; turn = refl; long = omega (arith, long, longer_document c least, ap length is); kind_is = refl }))
not_built said plan c OutOfMemory is least long = inr (inl refl)
not_built said plan c kind is least long = absurd long
