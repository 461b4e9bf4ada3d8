use Rattle.mongo_command.proofs.Tables.{table_of, no_table}
use Rattle.mongo_command.proofs.table.read_table.Goals as goal

pub returns-in-Ok : goal.returns-in-Ok
returns-in-Ok g c =
    let holds = c.in-Ok.ensures.found in
    table_of g.T.Table.table c.args.document.bytes.now holds.elements c.of_fields.result holds.well_formed (c.of_fields.ensures holds.elements holds.are)

pub returns-in-Err : goal.returns-in-Err
returns-in-Err g c = no_table g.T.Table.table c.args.document.bytes.now c.in-Err.fault c.in-Err.ensures.refused
