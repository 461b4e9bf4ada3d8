-- A command's arguments that have no room leave none for the command.
use Rattle.std.proofs.Common.{◌≡◌, ℕ, ◌≤◌, sym, subst, IfErr, Result, Ok, Err, List, ◌++◌, length, length-append, arith}
use Rattle.std.specs.Result.{IsErrAnd}
use Rattle.std.specs.List.{flat_map}
use Rattle.mongo_bson.specs.Document.{spell}
use Rattle.mongo_bson.specs.Framed.{element_bytes, enclosed}
use Rattle.mongo_bson.specs.declared.fault.BsonFault.{BsonFault}
use Rattle.mongo_bson.specs.declared.fault.BsonFault.TheVariants.{TooLong, OutOfMemory}
use Rattle.mongo_bson.proofs.Enclosed.{length-enclosed}
use Rattle.mongo_command.specs.Literal.{text_element}
use Rattle.mongo_command.specs.Keys.{db_key}
use Rattle.mongo_command.specs.Arguments.{TooLongFor}
use Rattle.mongo_command.specs.Command.{carried_elements, argument_elements}
use Rattle.mongo_command.specs.declared.generic_arguments.GenericArguments.{GenericArguments}

longer : (fault : BsonFault) (short long : List ℕ) → TooLongFor fault short → length short ≤ length long → TooLongFor fault long
longer TooLong short long is more = omega (arith, is, more)
longer OutOfMemory short long is more = tt
longer fault short long is more = absurd is

-- behind the body and `$db`
in_command : (fault : BsonFault) (body db : List ℕ) (a : GenericArguments) → TooLongFor fault (flat_map spell (carried_elements a)) → TooLongFor fault (enclosed (body ++ flat_map spell (argument_elements db a)))
in_command fault body db a is =
    let first = spell (text_element db_key db) in
    let arguments = flat_map spell (carried_elements a) in
    let rest = flat_map spell (argument_elements db a) in
    longer fault arguments (enclosed (body ++ rest)) is (omega (arith, length-enclosed (body ++ rest), length-append body rest, length-append first arguments))

too_long_passed_on : {T : Type 0} (answer : Result T BsonFault) (fault : BsonFault) (document : List ℕ) → IsErrAnd answer (λ e. e ≡ fault) → TooLongFor fault document → IfErr answer (λ e. TooLongFor e document)
too_long_passed_on (Ok x) fault document passed is = absurd passed
too_long_passed_on (Err e) fault document passed is = subst (λ f. TooLongFor f document) (sym passed) is

pub arguments_refused : {T : Type 0} (answer : Result T BsonFault) (fault : BsonFault) (body db : List ℕ) (a : GenericArguments) → IsErrAnd answer (λ e. e ≡ fault) → TooLongFor fault (flat_map spell (carried_elements a)) → IfErr answer (λ e. TooLongFor e (enclosed (element_bytes body ++ flat_map spell (argument_elements db a))))
arguments_refused answer fault body db a passed is = too_long_passed_on answer fault _ passed (in_command fault (element_bytes body) db a is)
