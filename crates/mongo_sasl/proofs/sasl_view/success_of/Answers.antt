use Rattle.std.proofs.Common.{rules}
use Rattle.mongo_sasl.proofs.SuccessRead.{another, unreadable}
use Rattle.mongo_sasl.proofs.sasl_view.success_of.Goals as goal

pub returns-in-Some-get_int_raw : goal.returns-in-Some-get_int_raw
returns-in-Some-get_int_raw c = λ elements are.
    another elements c.authentication_failure.result.kind c.in-Some.ok c.get_int_raw.result _ (c.in-Some.ensures elements are) c.get_int_raw.ensures.meaning c.in-Some-get_int_raw.is (search rules) (c.authentication_failure.ensures elements are)

pub returns-in-None : goal.returns-in-None
returns-in-None c = λ elements are. unreadable elements c.unreadable_fields.result.kind c.in-Some.ok c.get_int_raw.result c.unreadable_fields.ensures (c.in-Some.ensures elements are) c.get_int_raw.ensures.meaning c.in-None.is
