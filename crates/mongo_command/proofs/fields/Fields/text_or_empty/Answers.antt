use Rattle.mongo_command.specs.Field.{field_of, ReadsText}
use Rattle.mongo_command.proofs.FieldAnswers.{or_empty_field, empty_field}
use Rattle.mongo_command.proofs.fields.Fields.text_or_empty.Goals as goal

pub returns-in-Some : goal.returns-in-Some
returns-in-Some c = λ elements are. or_empty_field ReadsText _ c.in-Some.value c.read.result (rw c.in-Some.is at (c.value.ensures elements are)) c.read.ensures.read

pub returns-in_ok-from_slice-in-None : goal.returns-in_ok-from_slice-in-None
returns-in_ok-from_slice-in-None c = λ elements are. rw (c.in_ok-from_slice-in-None.ensures.copied) (empty_field ReadsText (field_of c.args.key.now elements) (c.in-None.ensures elements are))
