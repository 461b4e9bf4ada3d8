use Rattle.std.proofs.Common.{◌++◌, ◌∷◌, [], sym, ◌∙◌, ap}
use Rattle.std.proofs.lemmas.List.{append_assoc}
use Rattle.mongo_bson.specs.Document.{spell}
use Rattle.mongo_bson.specs.Value.{kind_of, bytes_of, element_of}
use Rattle.mongo_bson.proofs.Enclosed.{appended, framed_appended}
use Rattle.mongo_bson.proofs.writing.push_element.Goals as goal

pub returns-in-Ok-clause-added : goal.returns-in-Ok-clause-added
returns-in-Ok-clause-added c =
    let old = c.args.document.now in
    let key = c.args.key.now in
    let value = bytes_of c.args.value in
    let written = c.in-Ok.ensures.added ∙ ap (λ w. old.items ++ w) (sym (append_assoc key (0 ∷ value) (0 ∷ []))) in
    appended old.items (key ++ 0 ∷ value) c.write_after.new.out.items c.seal.new.document.items (kind_of c.args.value) c.kind_byte.result c.len-length.result c.requires.framed written (c.len-length.ensures ∙ old.ok.0) c.kind_byte.ensures c.seal.ensures

pub returns-in-Ok-clause-framed : goal.returns-in-Ok-clause-framed
returns-in-Ok-clause-framed c =
    framed_appended c.args.document.now.items (spell (element_of c.args.key.now c.args.value)) _ c.requires.framed c.requires.room (returns-in-Ok-clause-added c)
