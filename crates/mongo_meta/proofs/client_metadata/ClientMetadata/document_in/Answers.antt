use Rattle.std.proofs.Common.{◌≡◌, ℕ, List, IfOk, IfErr, subst}
use Rattle.std.proofs.lemmas.Result.{err_from_is_err_and}
use Rattle.mongo_command.specs.Arguments.{TooLongFor}
use Rattle.mongo_meta.proofs.Parts.{driver_too_long, os_too_long, environment_too_long, whole_of_parts}
use Rattle.mongo_meta.proofs.client_metadata.ClientMetadata.document_in.Goals as goal

pub returns-in_err-driver-clause-refused : goal.returns-in_err-driver-clause-refused
returns-in_err-driver-clause-refused c =
    let e = err_from_is_err_and c.from_residual-in_err-driver.result c.from_residual-in_err-driver.ensures.1 in
    rw (e.1, e.2) (driver_too_long c.in_err-driver.field-0.0 c.args.form c.args.self.now c.in_err-driver.ensures.refused)

pub returns-in_err-os-clause-refused : goal.returns-in_err-os-clause-refused
returns-in_err-os-clause-refused c =
    let e = err_from_is_err_and c.from_residual-in_err-os.result c.from_residual-in_err-os.ensures.1 in
    rw (e.1, e.2) (os_too_long c.in_err-os.field-0.0 c.args.form c.args.self.now c.in_err-os.ensures.refused)

pub returns-in_err-env-clause-refused : goal.returns-in_err-env-clause-refused
returns-in_err-env-clause-refused c =
    let e = err_from_is_err_and c.from_residual-in_err-env.result c.from_residual-in_err-env.ensures.1 in
    rw (e.1, e.2) (environment_too_long c.in_err-env.field-0.0 c.args.form c.args.self.now c.in_err-env.ensures.refused)

pub returns-clause-document : goal.returns-clause-document
returns-clause-document c =
    subst (λ (d : List ℕ). IfOk c.joined.result (λ document. document ≡ d)) (whole_of_parts c.args.form c.args.self.now _ _ _ _ _ c.in_ok-application.ensures.document c.in_ok-driver.ensures.document c.in_ok-os.ensures.document c.platform_in.ensures c.in_ok-env.ensures.document) c.joined.ensures.document

pub returns-clause-refused : goal.returns-clause-refused
returns-clause-refused c =
    subst (λ (d : List ℕ). IfErr c.joined.result (λ fault. TooLongFor fault d)) (whole_of_parts c.args.form c.args.self.now _ _ _ _ _ c.in_ok-application.ensures.document c.in_ok-driver.ensures.document c.in_ok-os.ensures.document c.platform_in.ensures c.in_ok-env.ensures.document) c.joined.ensures.refused
