use Rattle.mongo_command.specs.Field.{Optional, OptionalOrEmpty, ReadsTexts}
use Rattle.mongo_command.proofs.FieldAnswers.{part_fault, optional_list, optional_or_empty}
use Rattle.mongo_command.proofs.fields.Fields.labels.Goals as goal

pub returns-in_err-labels : goal.returns-in_err-labels
returns-in_err-labels c = λ elements are.
    part_fault (OptionalOrEmpty ReadsTexts) (Optional ReadsTexts) _ _ _ _ c.from_residual.ensures.1 (optional_list ReadsTexts _) (c.in_err-labels.ensures elements are)

pub returns-in-Some : goal.returns-in-Some
returns-in-Some c = λ elements are. optional_or_empty ReadsTexts _ _ (rw c.in-Some.is at (c.in_ok-labels.ensures elements are))

pub returns-in-None : goal.returns-in-None
returns-in-None c = λ elements are. rw (c.new.ensures) (optional_or_empty ReadsTexts _ _ (rw c.in-None.is at (c.in_ok-labels.ensures elements are)))
