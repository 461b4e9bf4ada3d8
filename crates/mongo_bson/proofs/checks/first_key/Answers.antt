use Rattle.std.proofs.Common.{subst}
use Rattle.std.proofs.lemmas.Bool.{false≢true}
use Rattle.mongo_bson.specs.Framed.{element_bytes}
use Rattle.mongo_bson.specs.Reading.{BeginsWithElement, element_read}
use Rattle.mongo_bson.proofs.OneAnswer.{no_first}
use Rattle.mongo_bson.proofs.checks.first_key.Goals as goal

pub returns-in-Some-clause-no_element : goal.returns-in-Some-clause-no_element
returns-in-Some-clause-no_element c =
    let element = element_read c.in-Some.element in
    let rest = c.in-Some._rest.now in
    let begins = subst (λ b. BeginsWithElement b element rest) c.element_bytes-elements.ensures c.in-Some.ensures in
    (λ f. absurd (false≢true f), λ none. absurd (no_first (element_bytes c.args.document.bytes.now) rest element none begins))
