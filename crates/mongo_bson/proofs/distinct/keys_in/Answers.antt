use Rattle.std.proofs.Common.{List, refl}
use Rattle.mongo_bson.specs.Document.{Element}
use Rattle.mongo_bson.specs.Keys.{Fill, bytes_of_texts}
use Rattle.mongo_bson.specs.Reading.{element_read}
use Rattle.mongo_bson.proofs.Filled.{no_fill, reads_key, read_all}
use Rattle.mongo_bson.proofs.Levels.{left_over, none_left}
use Rattle.mongo_bson.proofs.distinct.keys_in.Goals as goal

pub returns-in_default-clause-malformed : goal.returns-in_default-clause-malformed
returns-in_default-clause-malformed c =
    let rest = c.elements.rest.now in
    let none : (all : List Element) → Fill c.args.bytes.now all → ⊥ = λ all fill. (let back = c.elements.invariant.from all fill in no_fill rest back.0 c.in_default.ensures (left_over rest c.elements-test.ensures) back.1) in
    (λ _. (λ memory. cc, none), λ _. refl)

pub elements-preserved : goal.elements-preserved
elements-preserved c =
    reads_key c.args.bytes.now c.elements.rest.now c.in-Some.after.now c.elements.keys.items c.push.new.self.items c.in-Some.element.key (element_read c.in-Some.element) c.in-Some.ensures refl c.in_ok-push.ensures.items c.elements.invariant

pub returns-clause-keys : goal.returns-clause-keys
returns-clause-keys c = read_all c.args.bytes.now c.elements.rest.now (bytes_of_texts c.elements.keys.items) c.elements.invariant (none_left c.elements.rest.now c.elements-test.ensures)

pub returns-clause-malformed : goal.returns-clause-malformed
returns-clause-malformed c =
    let whole = read_all c.args.bytes.now c.elements.rest.now (bytes_of_texts c.elements.keys.items) c.elements.invariant (none_left c.elements.rest.now c.elements-test.ensures) in
    (λ same. cc, λ said. absurd (said.1 whole.0 whole.1))
