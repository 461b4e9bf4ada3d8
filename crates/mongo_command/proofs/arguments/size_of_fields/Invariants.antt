use Rattle.std.proofs.Common.{◌≡◌, take}
use Rattle.std.specs.List.{flat_map}
use Rattle.mongo_command.specs.Arguments.{field_elements, size_of_elements}
use Rattle.mongo_command.proofs.arguments.size_of_fields.Given as goal

abbrev pub invariant-loop-field : goal.invariant-loop-field
invariant-loop-field l = l.size ≡ size_of_elements (flat_map field_elements (take l.field-index l.fields))
