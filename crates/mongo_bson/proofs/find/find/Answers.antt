use Rattle.std.proofs.Common.{◌∙◌, sym}
use Rattle.std.proofs.lemmas.Bool.{false≢true}
use Rattle.std.proofs.lemmas.Slice.Eq.{bytes_eq-Decides}
use Rattle.mongo_bson.specs.Reading.{element_read}
use Rattle.mongo_bson.specs.Find.{IsFirstOf}
use Rattle.mongo_bson.proofs.Levels.{none_left, shorter}
use Rattle.mongo_bson.proofs.Passed.{passes_one, passes_all}
use Rattle.mongo_bson.proofs.OneAnswer.{found_or_broken, none_or_broken}
use Rattle.mongo_bson.proofs.find.find.Goals as goal

pub elements-preserved : goal.elements-preserved
elements-preserved c =
    let element = c.in-Some.element in
    let key = c.args.key.now in
    passes_one c.args.bytes.now key c.elements.rest.now c.in-Some.after.now (element_read element) c.elements.invariant c.in-Some.ensures (λ same. false≢true (c.if-eq.ensures ∙ (bytes_eq-Decides element.key.now key).1 same))

pub returns-then-eq-clause-breaks_off : goal.returns-then-eq-clause-breaks_off
returns-then-eq-clause-breaks_off c =
    let element = c.in-Some.element in
    let key = c.args.key.now in
    let first : IsFirstOf c.args.bytes.now key (element_read element) = record {
      rest = c.elements.rest.now;
      after = c.in-Some.after.now;
      passed = c.elements.invariant;
      begins = c.in-Some.ensures;
      key_is = (bytes_eq-Decides element.key.now key).0 (sym c.if-eq.ensures);
    } in
    (λ f. absurd (false≢true f), λ broken. absurd (found_or_broken c.args.bytes.now key (element_read element) first broken))

pub returns-clause-breaks_off : goal.returns-clause-breaks_off
returns-clause-breaks_off c =
    let bytes = c.args.bytes.now in
    let key = c.args.key.now in
    let rest = c.elements.rest.now in
    let none = passes_all bytes key rest c.elements.invariant (none_left rest c.elements-test.ensures) in
    (λ f. absurd (false≢true f), λ broken. absurd (none_or_broken bytes key none broken))

pub elements-smaller : goal.elements-smaller
elements-smaller c = shorter c.elements.rest.now c.in-Some.after.now (element_read c.in-Some.element) c.in-Some.ensures
