use Rattle.std.proofs.Common.{◌≤◌, [], ◌∷◌, true, length, refl, arith}
use Rattle.mongo_bson.specs.Framed.{maximum_length}
use Rattle.mongo_command.specs.Literal.{boolean_element, document_of}
use Rattle.mongo_command.proofs.HelloShort.{length-document_of, short_only_memory}
use Rattle.mongo_sasl.specs.Keys.{skip_empty_exchange_key}
use Rattle.mongo_sasl.proofs.login_bodies.skip_empty_exchange.Goals as goal

pub returns-clause-refused : goal.returns-clause-refused
returns-clause-refused c =
    let elements = boolean_element skip_empty_exchange_key true ∷ [] in
    let short : length (document_of elements) ≤ maximum_length = omega (arith, length-document_of elements) in
    short_only_memory c.document_of.result elements elements refl short c.document_of.ensures.refused
