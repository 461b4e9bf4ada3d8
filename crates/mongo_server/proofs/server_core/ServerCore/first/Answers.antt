use Rattle.std.proofs.Common.{Some, ap, refl}
use Rattle.mongo_server.proofs.ServedAuthentication.{accepts_first, hears_first}
use Rattle.mongo_server.proofs.ServerRows.{one_first_errors, first_no_row}
use Rattle.mongo_server.proofs.server_core.ServerCore.first.Goals as goal

pub returns-in-Err-clause-exact : goal.returns-in-Err-clause-exact
returns-in-Err-clause-exact c = one_first_errors c.args.self.now c.args.client_first.now c.in-Err.fault c.in-Err.ensures.refused

pub returns-in-Err-clause-accepts : goal.returns-in-Err-clause-accepts
returns-in-Err-clause-accepts c = hears_first c.args.self.now c.args.client_first.now c.in-Err.fault c.in-Err.ensures.refused

pub returns-in-Ok-open-clause-exact : goal.returns-in-Ok-open-clause-exact
returns-in-Ok-open-clause-exact c = λ fault row.
    absurd (first_no_row c.args.self.now c.args.client_first.now c.in-Ok.message.nonce.now c.in-Ok.ensures.heard.is_first fault row)

pub returns-in-Ok-open-clause-accepts : goal.returns-in-Ok-open-clause-accepts
returns-in-Ok-open-clause-accepts c =
    accepts_first c.args.self.now _ c.args.client_first.now c.in-Ok-open.field-0.server_first c.in-Ok.message.nonce.now c.in-Ok.ensures.heard.is_first
    c.in-Ok-open.ensures.server_first c.in-Ok-open.ensures.bytes refl refl (ap Some c.in-Ok-open.ensures.conversation)

pub returns-in-Err-open-clause-exact : goal.returns-in-Err-open-clause-exact
returns-in-Err-open-clause-exact c = λ fault row.
    absurd (first_no_row c.args.self.now c.args.client_first.now c.in-Ok.message.nonce.now c.in-Ok.ensures.heard.is_first fault row)
