use Rattle.std.proofs.Common.{◌≡◌, drop}
use Rattle.mongo_meta.specs.Client.{fitting}
use Rattle.mongo_meta.proofs.client_document.first_fitting.Given as goal

abbrev pub invariant-loop-form : goal.invariant-loop-form
invariant-loop-form l = fitting l.metadata l.body_len l.forms ≡ fitting l.metadata l.body_len (drop l.form-index l.forms)
