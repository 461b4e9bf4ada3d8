use Rattle.std.proofs.Common.{subst}
use Rattle.mongo_command.specs.Field.{field_of, Optional, OptionalThree}
use Rattle.mongo_command.specs.Fields.{Answers}
use Rattle.mongo_command.proofs.FieldAnswers.{Both, both_answer, part_fault}
use Rattle.mongo_command.proofs.fields.Fields.optional_three.Goals as goal

pub returns : goal.returns
returns g c = λ els are.
    let two = both_answer (Optional g.A.FieldValue.reads) (Optional g.B.FieldValue.reads) (field_of c.args.first.now els) (field_of c.args.second.now els) _ _ c.both-two.result c.both-two.ensures.values c.both-two.ensures.fault (c.optional.ensures els are) (c.optional-2.ensures els are) in
    let values = subst (Answers (Both (Optional g.A.FieldValue.reads) (Optional g.B.FieldValue.reads)) ((field_of c.args.first.now els), (field_of c.args.second.now els))) c.in_ok-first.ensures.values.0 two in
    let third = subst (Answers (Optional g.C.FieldValue.reads) (field_of c.args.third.now els)) c.in_ok-first.ensures.values.1 (c.optional-3.ensures els are) in
    (values.0, values.1, third)

pub returns-in_err-first : goal.returns-in_err-first
returns-in_err-first g c = λ els are.
    let two = both_answer (Optional g.A.FieldValue.reads) (Optional g.B.FieldValue.reads) (field_of c.args.first.now els) (field_of c.args.second.now els) _ _ c.both-two.result c.both-two.ensures.values c.both-two.ensures.fault (c.optional.ensures els are) (c.optional-2.ensures els are) in
    let three = both_answer (Both (Optional g.A.FieldValue.reads) (Optional g.B.FieldValue.reads)) (Optional g.C.FieldValue.reads) ((field_of c.args.first.now els), (field_of c.args.second.now els)) (field_of c.args.third.now els) _ _ c.both.result c.both.ensures.values c.both.ensures.fault two (c.optional-3.ensures els are) in
    part_fault (OptionalThree g.A.FieldValue.reads g.B.FieldValue.reads g.C.FieldValue.reads c.args.first.now c.args.second.now c.args.third.now) (Both (Both (Optional g.A.FieldValue.reads) (Optional g.B.FieldValue.reads)) (Optional g.C.FieldValue.reads)) els (((field_of c.args.first.now els), (field_of c.args.second.now els)), (field_of c.args.third.now els)) c.in_err-first.field-0.0 c.from_residual.result c.from_residual.ensures.1
    (λ values reads. (((values.0, values.1), values.2), ((reads.0, reads.1), reads.2)))
    (subst (Answers (Both (Both (Optional g.A.FieldValue.reads) (Optional g.B.FieldValue.reads)) (Optional g.C.FieldValue.reads)) (((field_of c.args.first.now els), (field_of c.args.second.now els)), (field_of c.args.third.now els))) c.in_err-first.was three)
