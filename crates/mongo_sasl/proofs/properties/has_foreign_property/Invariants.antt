use Rattle.std.proofs.Common.{List}
use Rattle.mongo_bson.specs.Document.{Element, IsDocument}
use Rattle.mongo_sasl.proofs.Foreign.{IsLeft}
use Rattle.mongo_sasl.proofs.properties.has_foreign_property.Given as goal

abbrev pub invariant-loop-item : goal.invariant-loop-item
invariant-loop-item l = (all : List Element) → IsDocument l.fn.properties.bytes.now all → IsLeft l.item-iterator.rest.now all
