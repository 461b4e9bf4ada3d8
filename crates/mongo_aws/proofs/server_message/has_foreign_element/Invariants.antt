use Rattle.std.proofs.Common.{List}
use Rattle.mongo_bson.specs.Document.{Element, IsDocument}
use Rattle.mongo_aws.proofs.Foreign.{IsLeft}
use Rattle.mongo_aws.proofs.server_message.has_foreign_element.Given as goal

abbrev pub invariant-loop-item : goal.invariant-loop-item
invariant-loop-item l = (all : List Element) → IsDocument l.fn.document.bytes.now all → IsLeft l.item-iterator.rest.now all
