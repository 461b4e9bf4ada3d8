use Rattle.std.proofs.Common.{◌∙◌, sym, ap, subst}
use Rattle.mongo_bson.specs.Keys.{bytes_of_texts, AreApart}
use Rattle.mongo_bson.proofs.Apart.{distinct_from_apart, apart_from_distinct}
use Rattle.mongo_bson.proofs.raw_document.RawDocument.distinct_keys.Goals as goal

pub returns-clause-distinct : goal.returns-clause-distinct
returns-clause-distinct c =
    let found = c.in_ok-keys.ensures.keys in
    let elements = found.0 in
    let keys = ap bytes_of_texts c.as_mut_slice.ensures.value ∙ found.2 in
    let test = c.is_without_repeat.ensures in (
      elements,
      record { framed = c.args.self.now.framed; filled = sym c.element_bytes.ensures ∙ found.1.spelled; each = found.1.each },
      (λ yes. distinct_from_apart elements (subst AreApart keys (test.0 yes)), λ distinct. test.1 (subst AreApart (sym keys) (apart_from_distinct elements distinct))),
    )
