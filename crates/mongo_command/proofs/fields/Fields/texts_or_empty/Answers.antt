use Rattle.mongo_command.specs.Field.{field_of, ReadsTexts}
use Rattle.mongo_command.proofs.FieldAnswers.{or_empty_field, empty_field}
use Rattle.mongo_command.proofs.fields.Fields.texts_or_empty.Goals as goal

pub returns-in-Some : goal.returns-in-Some
returns-in-Some c = λ elements are. or_empty_field ReadsTexts _ c.in-Some.value c.read.result (rw c.in-Some.is at (c.value.ensures elements are)) c.read.ensures.read

pub returns-in-None : goal.returns-in-None
returns-in-None c = λ elements are. rw (c.new.ensures) (empty_field ReadsTexts (field_of c.args.key.now elements) (c.in-None.ensures elements are))
