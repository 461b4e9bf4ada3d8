use Rattle.std.proofs.Common.{◌-◌, ◌<◌, refl, sym, ◌∙◌, subst, arith}
use Rattle.std.proofs.lemmas.Bool.{false≢true}
use Rattle.mongo_bson.specs.Document.{IsReadable}
use Rattle.mongo_bson.specs.Reading.{element_read}
use Rattle.mongo_bson.proofs.Levels.{Reads, InsideIsReadable, nothing_readable, readable_reads, reads_readable, reads_more, reads_back, reads_stop, only_readable, left_over, none_left, reads_nothing, shorter}
use Rattle.mongo_bson.proofs.readable.+is_readable.Goals as goal

pub returns-then-levels-eq0 : goal.returns-then-levels-eq0
returns-then-levels-eq0 t c =
    let document = c.args.document.now in
    (λ f. absurd (false≢true f), λ r. absurd (nothing_readable document (subst (λ n. IsReadable n document) c.if-levels-eq0.true r)))

pub elements-init : goal.elements-init
elements-init t c =
    let document = c.args.document.now in
    let levels = c.args.levels in
    let some : 0 < levels = omega arith in
    record {
      some = some;
      to = λ r. reads_readable levels document some c.requires (subst (Reads (levels - 1)) c.element_bytes-rest.ensures r);
      from = λ r. subst (Reads (levels - 1)) (sym c.element_bytes-rest.ensures) (readable_reads levels document some r);
    }

pub returns-in_default : goal.returns-in_default
returns-in_default t c =
    let rest = c.elements.rest.now in
    (λ f. absurd (false≢true f), λ r. absurd (reads_stop (c.args.levels - 1) rest c.in_default.ensures (left_over rest c.elements-test.ensures) (c.elements.invariant.from r)))

pub returns-then-not-is_readable : goal.returns-then-not-is_readable
returns-then-not-is_readable t c =
    let e = element_read c.in-Some.element in
    let found = c.in-Some-document_inside in (
      λ f. absurd (false≢true f),
      λ r.
          let both = reads_back (c.args.levels - 1) c.elements.rest.now c.in-Some.after.now e c.in-Some.ensures (c.elements.invariant.from r) in
          sym c.if-not-is_readable.true ∙ c.is_readable.ensures.1 (both.0 found.inner.now found.ensures.inside),
    )

pub elements-preserved : goal.elements-preserved
elements-preserved t c =
    let levels = c.args.levels - 1 in
    let e = element_read c.in-Some.element in
    let inside : InsideIsReadable levels e = λ d is. absurd (c.in-None.ensures d is) in
    record {
      some = c.elements.invariant.some;
      to = λ r. c.elements.invariant.to (reads_more levels c.elements.rest.now c.in-Some.after.now e c.in-Some.ensures inside r);
      from = λ r. (reads_back levels c.elements.rest.now c.in-Some.after.now e c.in-Some.ensures (c.elements.invariant.from r)).1;
    }

pub elements-preserved-else-not-is_readable : goal.elements-preserved-else-not-is_readable
elements-preserved-else-not-is_readable t c =
    let levels = c.args.levels - 1 in
    let e = element_read c.in-Some.element in
    let inside : InsideIsReadable levels e = only_readable levels e c.in-Some-document_inside.inner.now c.in-Some-document_inside.ensures (c.is_readable.ensures.0 c.if-not-is_readable.false) in
    record {
      some = c.elements.invariant.some;
      to = λ r. c.elements.invariant.to (reads_more levels c.elements.rest.now c.in-Some.after.now e c.in-Some.ensures inside r);
      from = λ r. (reads_back levels c.elements.rest.now c.in-Some.after.now e c.in-Some.ensures (c.elements.invariant.from r)).1;
    }

pub elements-smaller : goal.elements-smaller
elements-smaller t c = shorter c.elements.rest.now c.in-Some.after.now (element_read c.in-Some.element) c.in-Some.ensures

pub elements-smaller-else-not-is_readable : goal.elements-smaller-else-not-is_readable
elements-smaller-else-not-is_readable t c =
    shorter c.elements.rest.now c.in-Some.after.now (element_read c.in-Some.element) c.in-Some.ensures

pub returns : goal.returns
returns t c =
    let rest = c.elements.rest.now in
    (λ _. c.elements.invariant.to (reads_nothing (c.args.levels - 1) rest (none_left rest c.elements-test.ensures)), λ _. refl)
