use Rattle.std.proofs.Common.{rules, sym, ◌∙◌}
use Rattle.std.proofs.lemmas.Bool.{false≢true}
use Rattle.mongo_bson.specs.Value.{element_of}
use Rattle.mongo_bson.proofs.ReadBack.{one_more_on_ok, adds_value_on_ok}
use Rattle.mongo_bson.proofs.raw_document_buf.RawDocumentBuf.append.Goals as goal

pub returns-clause-added : goal.returns-clause-added
returns-clause-added c = search rules

pub returns-clause-one_more : goal.returns-clause-one_more
returns-clause-one_more c =
    one_more_on_ok c.push_element.result c.args.self.now c.push_element.new.document.items (element_of c.args.key.now c.args.value) c.push_element.ensures.framed (returns-clause-added c)

pub returns-clause-adds_value : goal.returns-clause-adds_value
returns-clause-adds_value c =
    adds_value_on_ok c.push_element.result c.args.self.now c.push_element.new.document.items c.args.key.now c.args.value c.utf8.key (λ zero. false≢true (sym c.if-has_zero.false ∙ c.has_zero.ensures.1 zero)) (returns-clause-one_more c)
