use Rattle.std.proofs.Common.{ℕ, List, rules}
use Rattle.std.proofs.lemmas.Result.{err_from_is_err_and}
use Rattle.mongo_bson.specs.declared.fault.BsonFault.{BsonFault}
use Rattle.mongo_bson.specs.declared.fault.BsonFault.TheVariants.{TooLong, OutOfMemory}
use Rattle.mongo_wire.specs.Error.{kind_of_fault}
use Rattle.mongo_command.specs.Arguments.{TooLongFor}
use Rattle.mongo_command.specs.Exchange.{DocumentRefused}
use Rattle.mongo_command.proofs.command.Command.into_message.Goals as goal

refused_as_error : (fault : BsonFault) (document : List ℕ) → TooLongFor fault document → DocumentRefused (kind_of_fault fault) document
refused_as_error TooLong document long = long
refused_as_error OutOfMemory document long = tt
refused_as_error fault document long = absurd long

pub returns-clause-message : goal.returns-clause-message
returns-clause-message c = search rules

pub returns-clause-fits : goal.returns-clause-fits
returns-clause-fits c = search rules

pub returns-in_err-append_to-clause-refused : goal.returns-in_err-append_to-clause-refused
returns-in_err-append_to-clause-refused c =
    let e = err_from_is_err_and c.from_residual.result c.from_residual.ensures.1 in
    rw (e.1, e.2) (refused_as_error c.in_err-append_to.field-0.0 _ (rw c.as_str-db.ensures at c.in_err-append_to.ensures.refused))
