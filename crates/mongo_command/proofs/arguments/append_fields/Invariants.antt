use Rattle.std.proofs.Common.{◌≡◌, ◌++◌, drop}
use Rattle.std.specs.List.{AllByRecursion, flat_map}
use Rattle.mongo_bson.specs.Framed.{IsFramed, element_bytes, enclosed}
use Rattle.mongo_bson.specs.Document.{spell}
use Rattle.mongo_command.specs.Arguments.{field_elements, IsNamed}
use Rattle.mongo_command.proofs.arguments.append_fields.Given as goal

abbrev pub invariant-loop-field : goal.invariant-loop-field
invariant-loop-field l = record {
  framed : IsFramed l.document;
  sealed : l.document ≡ enclosed (element_bytes l.document);
  named : AllByRecursion IsNamed (drop l.field-index l.fields);
  whole : element_bytes l.document ++ flat_map spell (flat_map field_elements (drop l.field-index l.fields)) ≡ element_bytes l.fn.document ++ flat_map spell (flat_map field_elements l.fields);
}
