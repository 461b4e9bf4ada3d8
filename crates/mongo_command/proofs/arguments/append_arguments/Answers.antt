use Rattle.std.proofs.Common.{◌≡◌, List, ℕ, refl, subst, IfErr, OnOk}
use Rattle.mongo_command.specs.Literal.{text_element}
use Rattle.mongo_command.specs.Arguments.{TooLongFor}
use Rattle.mongo_command.specs.Keys.{db_key}
use Rattle.mongo_command.proofs.CommandDocument.{then_carried, sealed_grown}
use Rattle.mongo_command.proofs.arguments.append_arguments.Goals as goal

pub returns-clause-added : goal.returns-clause-added
returns-clause-added c =
    subst (λ (d : List ℕ). OnOk c.append_fields.result (c.append_fields.new.document ≡ d)) (then_carried c.args.document.now c.append.new.self (text_element db_key c.args.target_db.now) _ _ c.in_ok-append.ensures.framed c.in_ok-append.ensures.added refl) c.append_fields.ensures.added

pub returns-clause-refused : goal.returns-clause-refused
returns-clause-refused c =
    subst (λ (d : List ℕ). IfErr c.append_fields.result (λ fault. TooLongFor fault d)) (then_carried c.args.document.now c.append.new.self (text_element db_key c.args.target_db.now) _ _ c.in_ok-append.ensures.framed c.in_ok-append.ensures.added refl) c.append_fields.ensures.refused

pub append_fields-requires : goal.append_fields-requires
append_fields-requires c =
    let new = c.append.new.self in
    let is = c.in_ok-append.ensures.added in
    record { framed = c.in_ok-append.ensures.framed; sealed = sealed_grown c.args.document.now new _ c.in_ok-append.ensures.framed is; named = c.requires.named }
