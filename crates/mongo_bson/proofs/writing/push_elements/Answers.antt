use Rattle.std.proofs.Common.{◌++◌, ◌∙◌, sym, ap, refl}
use Rattle.std.proofs.lemmas.List.{append-nil, nil_from_length}
use Rattle.mongo_bson.specs.Framed.{element_bytes, enclosed}
use Rattle.mongo_bson.proofs.Enclosed.{appended, framed_appended, enclosed-element_bytes}
use Rattle.mongo_bson.proofs.writing.push_elements.Goals as goal

pub returns-in-Ok-clause-added : goal.returns-in-Ok-clause-added
returns-in-Ok-clause-added c =
    let old = c.args.document.now in
    let whole = appended old.items c.in-Some.rest.now c.write_rest.new.out.items c.seal.new.document.items c.in-Some.kind.now c.in-Some.kind.now c.len-length.result c.requires.framed c.in-Ok.ensures.added (c.len-length.ensures ∙ old.ok.0) refl c.seal.ensures in
    whole ∙ ap (λ w. enclosed (element_bytes old.items ++ w)) (sym c.in-Some.ensures.cases.0)

pub returns-in-Ok-clause-framed : goal.returns-in-Ok-clause-framed
returns-in-Ok-clause-framed c =
    framed_appended c.args.document.now.items c.args.elements.now _ c.requires.framed c.requires.room (returns-in-Ok-clause-added c)

pub returns-in_default-clause-added : goal.returns-in_default-clause-added
returns-in_default-clause-added c =
    let items = c.args.document.now.items in
    let nothing = nil_from_length c.args.elements.now c.in_default.ensures.cases in
    sym (ap enclosed (ap (λ w. element_bytes items ++ w) nothing ∙ append-nil (element_bytes items)) ∙ enclosed-element_bytes items c.requires.framed c.type_inv.document)
