use Rattle.std.proofs.Common.{◌≡◌, ◌⊎◌, inl, inr}
use Rattle.mongo_wire.specs.declared.error.ErrorKind.TheVariants.{OutOfMemory}
use Rattle.mongo_scram.specs.Client.{auth_message_of, final_conversation}
use Rattle.mongo_scram.specs.Messages.{verifier}
use Rattle.mongo_scram.specs.Login.{LastRefusal}
use Rattle.mongo_scram.specs.Version.{digest_of}
use Rattle.mongo_scram.proofs.NoRows.{valid_final_row}
use Rattle.mongo_scram.proofs.ReplyRead.{row_handed_on}
use Rattle.mongo_scram.proofs.login.take_last.Goals as goal

pub returns-in_err-validate_by-clause-refused : goal.returns-in_err-validate_by-clause-refused
returns-in_err-validate_by-clause-refused c =
    let conversation = final_conversation c.args.client_final.now in
    let owed = verifier (digest_of c.args.version) c.args.salted.now (auth_message_of c.args.client_final.now) in
    row_handed_on c.from_residual-in_err-validate_by.result c.in_err-validate_by.field-0.0 (λ kind. LastRefusal conversation owed c.args.reply.bytes.now kind ⊎ (kind ≡ OutOfMemory)) c.from_residual-in_err-validate_by.ensures.1
    (inl (inr (c.in_ok-last.last, c.in_ok-last.ensures.read, inl c.in_err-validate_by.ensures.refused)))

pub returns-else-done-clause-refused : goal.returns-else-done-clause-refused
returns-else-done-clause-refused c =
    let conversation = final_conversation c.args.client_final.now in
    let owed = verifier (digest_of c.args.version) c.args.salted.now (auth_message_of c.args.client_final.now) in
    inl (inr (c.in_ok-last.last, c.in_ok-last.ensures.read, inr (valid_final_row c.in_ok-last.last conversation owed c.in_ok-validate_by.ensures.valid, (c.refused.ensures, c.if-done.false))))

pub returns-else-done-clause-taken : goal.returns-else-done-clause-taken
returns-else-done-clause-taken c = tt
