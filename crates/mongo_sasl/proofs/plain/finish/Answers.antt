use Rattle.std.proofs.Common.{◌≡◌, ◌⊎◌, inl, inr}
use Rattle.mongo_wire.specs.declared.error.ErrorKind.TheVariants.{OutOfMemory}
use Rattle.mongo_sasl.specs.Plain.{FinishedRow}
use Rattle.mongo_sasl.specs.View.{sasl_response_of}
use Rattle.mongo_sasl.proofs.Handed.{no_answer_on, handed_row}
use Rattle.mongo_sasl.proofs.PlainSteps.{finished_refused}
use Rattle.mongo_sasl.proofs.plain.finish.Goals as goal

pub returns-in_err-view-clause-finished : goal.returns-in_err-view-clause-finished
returns-in_err-view-clause-finished c = no_answer_on c.from_residual.result c.in_err-view.field-0.0 _ c.from_residual.ensures.1

pub returns-in_err-view-clause-refused : goal.returns-in_err-view-clause-refused
returns-in_err-view-clause-refused c =
    let reply = c.args.reply.bytes.now in
    let e = c.in_err-view.field-0.0 in
    handed_row c.from_residual.result e (λ kind. FinishedRow reply kind ⊎ (kind ≡ OutOfMemory)) c.from_residual.ensures.1 (finished_refused reply e.kind c.in_err-view.ensures.refused)

pub returns-then-view-clause-finished : goal.returns-then-view-clause-finished
returns-then-view-clause-finished c = record { sasl = sasl_response_of c.in_ok-view.view; is_reply = c.in_ok-view.ensures.read; done = c.if-view.true }

pub returns-else-view-clause-finished : goal.returns-else-view-clause-finished
returns-else-view-clause-finished c = tt

pub returns-else-view-clause-refused : goal.returns-else-view-clause-refused
returns-else-view-clause-refused c = inl (inr (sasl_response_of c.in_ok-view.view, c.in_ok-view.ensures.read, (c.refused.ensures, c.if-view.false)))
