use Rattle.std.proofs.Common.{refl, subst, Err, ◌≤◌, ◌++◌, length, sym, ap, ◌∙◌}
use Rattle.mongo_bson.specs.Framed.{element_bytes, enclosed, maximum_length}
use Rattle.mongo_wire.specs.JoinedDocument.{arrays_bytes, JoinRefused}
use Rattle.mongo_wire.proofs.Arrays.{has_names, join_refused}
use Rattle.mongo_wire.proofs.message.Message.get_raw_command_document.Goals as goal

pub returns-in-Ok : goal.returns-in-Ok
returns-in-Ok c =
    let joined = c.in-Ok.ensures in
    let body = c.args.self.now.document_payload in
    let is = joined.document ∙ ap (λ s. enclosed (element_bytes body ++ arrays_bytes s)) c.as_slice-sequences.ensures in
    record { document = is; named = has_names c.args.self.now c.as_slice-sequences.result.now c.as_slice-sequences.ensures (c.if-not-are_named.ensures.without_zero.0 refl); fits = subst (λ d. length d ≤ maximum_length) is joined.fits; refused = tt }

pub returns-in-Err-clause-refused : goal.returns-in-Err-clause-refused
returns-in-Err-clause-refused c =
    let refused = c.in-Err.ensures in
    subst (λ kind. JoinRefused kind c.args.self.now) (sym c.into.ensures) (join_refused c.in-Err.fault c.args.self.now c.as_slice-sequences.result.now (has_names c.args.self.now c.as_slice-sequences.result.now c.as_slice-sequences.ensures (c.if-not-are_named.ensures.without_zero.0 refl)) c.as_slice-sequences.ensures refused.refused (λ is. refused.too_long (ap Err is)))
