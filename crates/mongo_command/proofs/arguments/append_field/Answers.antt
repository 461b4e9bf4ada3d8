use Rattle.std.proofs.Common.{◌++◌, ◌∙◌, ap, sym, append-nil}
use Rattle.std.specs.List.{flat_map}
use Rattle.mongo_bson.specs.Framed.{element_bytes, enclosed}
use Rattle.mongo_bson.specs.Document.{spell}
use Rattle.mongo_bson.specs.Value.{element_of}
use Rattle.mongo_command.specs.Arguments.{field_elements}
use Rattle.mongo_command.proofs.arguments.append_field.Goals as goal

pub returns-in-Some-clause-added : goal.returns-in-Some-clause-added
returns-in-Some-clause-added c = rw c.in-Some.is (rw (append-nil (spell (element_of c.in-Some.key.now c.in-Some.value))) c.append.ensures.added)

pub returns-in-Some-clause-framed : goal.returns-in-Some-clause-framed
returns-in-Some-clause-framed c = c.append.ensures.framed

pub returns-in-None-clause-added : goal.returns-in-None-clause-added
returns-in-None-clause-added c =
    let document = c.args.document.now in
    c.requires.sealed ∙ ap enclosed (sym (append-nil (element_bytes document))) ∙ ap (λ field. enclosed (element_bytes document ++ flat_map spell (field_elements field))) (sym c.in-None.is)

pub returns-in-None-clause-framed : goal.returns-in-None-clause-framed
returns-in-None-clause-framed c = c.requires.framed
