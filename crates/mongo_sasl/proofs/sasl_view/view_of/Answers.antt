use Rattle.std.proofs.Common.{sym, subst}
use Rattle.mongo_sasl.specs.Reply.{SaslRefused}
use Rattle.mongo_sasl.proofs.SaslRead.{unsuccessful, no_sasl_table}
use Rattle.mongo_sasl.proofs.sasl_view.view_of.Goals as goal

pub returns-in-Err-table_of-clause-refused : goal.returns-in-Err-table_of-clause-refused
returns-in-Err-table_of-clause-refused c =
    let holds = c.requires in
    subst (SaslRefused c.args.response.bytes.now) (sym c.unreadable_fields.ensures)
    (no_sasl_table c.args.response.bytes.now holds.elements c.in-Err-table_of.fault holds.well_formed (c.in-Ok.ensures holds.elements holds.are) (c.in-Err-table_of.ensures holds.elements holds.well_formed.document holds.are))

pub returns-in-Err-clause-refused : goal.returns-in-Err-clause-refused
returns-in-Err-clause-refused c =
    let holds = c.requires in
    unsuccessful c.args.response.bytes.now holds.elements c.in-Err.error.kind holds.well_formed (c.in-Err.ensures holds.elements holds.are)
