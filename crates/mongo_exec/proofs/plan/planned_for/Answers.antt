use Rattle.std.proofs.Common.{◌≡◌, pos, arith, refl}
use Rattle.std.proofs.lemmas.Int.{ints}
use Rattle.std.proofs.lemmas.Result.{err_from_is_err_and}
use Rattle.mongo_exec.specs.Insert.{insert_of}
use Rattle.mongo_exec.proofs.Planning.{has_command, has_room, maximum_row, unaccepted_row, bare_is, bare_within, plan_made}
use Rattle.mongo_exec.proofs.plan.planned_for.Goals as goal

pub returns-in_err-frame-clause-refused : goal.returns-in_err-frame-clause-refused
returns-in_err-frame-clause-refused c =
    let d = c.args.description.now in
    let insert = insert_of c.args.db.now c.args.collection.now c.args.ordered in
    let e = err_from_is_err_and c.from_residual-in_err-frame.result c.from_residual-in_err-frame.ensures.1 in
    let command = has_command d insert c.args.documents.now c.in_ok-command.command c.in_ok-judge_number.ensures.batches c.in_ok-command.ensures.command c.in_ok-bare.ensures.fits in
    rw (e.1, e.2) (maximum_row d insert c.args.documents.now c.in_err-frame.field-0.0 command c.in_err-frame.ensures.refused.0 (omega (arith, ints, c.in_err-frame.ensures.refused.1, c.frame_maximum.ensures)))

pub returns-in_err-judge_documents-clause-refused : goal.returns-in_err-judge_documents-clause-refused
returns-in_err-judge_documents-clause-refused c =
    let d = c.args.description.now in
    let insert = insert_of c.args.db.now c.args.collection.now c.args.ordered in
    let e = err_from_is_err_and c.from_residual-in_err-judge_documents.result c.from_residual-in_err-judge_documents.ensures.1 in
    let command = has_command d insert c.args.documents.now c.in_ok-command.command c.in_ok-judge_number.ensures.batches c.in_ok-command.ensures.command c.in_ok-bare.ensures.fits in
    let room = has_room d insert c.args.documents.now c.in_ok-frame.frame command (omega (arith, ints, c.in_ok-frame.ensures.frame, c.frame_maximum.ensures)) in
    rw (e.1, e.2) (unaccepted_row d insert c.args.documents.now c.in_err-judge_documents.field-0.0 room
    (c.in_err-judge_documents.ensures.refused insert (bare_is insert c.in_ok-command.command c.in_ok-bare.bare c.in_ok-command.ensures.command c.in_ok-bare.ensures.size)))

pub overflow_sub-result : goal.overflow_sub-result
overflow_sub-result c =
    let d = c.args.description.now in
    let insert = insert_of c.args.db.now c.args.collection.now c.args.ordered in
    let size = bare_is insert c.in_ok-command.command c.in_ok-bare.bare c.in_ok-command.ensures.command c.in_ok-bare.ensures.size in
    bare_within d insert c.args.documents.now c.in_ok-bare.bare c.in_ok-frame.frame c.in_ok-judge_number.ensures.batches.some size (omega (arith, ints, c.in_ok-frame.ensures.frame, c.frame_maximum.ensures)) (c.in_ok-judge_documents.ensures.accepted insert size)

pub returns-clause-plan : goal.returns-clause-plan
returns-clause-plan c =
    let d = c.args.description.now in
    let insert = insert_of c.args.db.now c.args.collection.now c.args.ordered in
    let size = bare_is insert c.in_ok-command.command c.in_ok-bare.bare c.in_ok-command.ensures.command c.in_ok-bare.ensures.size in
    let command = has_command d insert c.args.documents.now c.in_ok-command.command c.in_ok-judge_number.ensures.batches c.in_ok-command.ensures.command c.in_ok-bare.ensures.fits in
    let maximum : pos c.in_ok-frame.frame ≡ d.max_message_size_bytes = omega (arith, ints, c.in_ok-frame.ensures.frame, c.frame_maximum.ensures) in
    plan_made d insert c.args.documents.now c.in_ok-command.command c.args.ordered c.batch_limit.result c.in_ok-bare.bare c.in_ok-frame.frame
    (has_room d insert c.args.documents.now c.in_ok-frame.frame command maximum) (c.in_ok-judge_documents.ensures.accepted insert size) c.in_ok-command.ensures.command refl
    (omega (arith, ints, c.batch_limit.ensures, c.batch_maximum.ensures)) size maximum (overflow_sub-result c)
