use Rattle.std.proofs.Common.{refl, sym, ◌∙◌}
use Rattle.std.proofs.lemmas.Bool.{false≢true}
use Rattle.mongo_wire.specs.Sections.{SplitsSequenceSection}
use Rattle.mongo_wire.specs.declared.sections.SectionRef.TheVariants.{Body}
use Rattle.mongo_wire.proofs.Contents.{took_none, section_shortens, took_sequence, took_body, unfilled, second_body, no_more_section, no_body, lies_at, copied_all}
use Rattle.mongo_wire.proofs.held_frame.find_sections.Goals as goal

pub sections-init : goal.sections-init
sections-init c = took_none c.args.bytes.now c.split_at.result.1.now c.args.copies.now c.requires c.split_at.ensures.back

pub sections-preserved-in-Some-Sequence-default : goal.sections-preserved-in-Some-Sequence-default
sections-preserved-in-Some-Sequence-default c =
    let arm = c.in-Some-Sequence-default in
    let judged = c.in_ok-judge_sequence-in-Some-Sequence-default.ensures in
    let filled = c.if-not-branch.false in
    let splits : SplitsSequenceSection c.sections.rest.now arm.sequence arm.after.now = rw arm.field-0-0-is at arm.ensures in
    took_sequence c.args.bytes.now c.sections.rest.now arm.after.now c.sections.body arm.sequence c.args.copies.now c.sections.copies c.judge_sequence.new.copies c.sections.invariant
    (splits.whole (judged.judged.0 filled)) (λ s is shown. judged.copied s is shown filled)

pub sections-smaller-in-Some-Sequence-default : goal.sections-smaller-in-Some-Sequence-default
sections-smaller-in-Some-Sequence-default c =
    let arm = c.in-Some-Sequence-default in
    let splits : SplitsSequenceSection c.sections.rest.now arm.sequence arm.after.now = rw arm.field-0-0-is at arm.ensures in
    splits.shorter

pub returns-then-not-branch : goal.returns-then-not-branch
returns-then-not-branch c =
    let arm = c.in-Some-Sequence-default in
    let judged = c.in_ok-judge_sequence-in-Some-Sequence-default.ensures.judged in
    record {
      found = unfilled c.args.bytes.now c.sections.rest.now arm.after.now c.sections.body arm.sequence c.args.copies.now c.sections.copies c.sections.invariant c.sections-test.true
          (rw arm.field-0-0-is at arm.ensures) (λ are. absurd (false≢true (sym c.if-not-branch.true ∙ judged.1 are)));
      copied = tt;
      refused = tt;
    }

pub sections-preserved : goal.sections-preserved
sections-preserved c =
    took_body c.args.bytes.now c.sections.rest.now c.in-Some-Body-default.after.now c.sections.body c.in-Some-Body-default._document _ c.args.copies.now c.sections.copies c.sections.invariant
    (sym c.is_some.ensures ∙ c.if-is_some.false) (rw c.in-Some-Body-default.field-0-0-is at c.in-Some-Body-default.ensures) refl refl

pub sections-smaller : goal.sections-smaller
sections-smaller c =
    section_shortens c.sections.rest.now c.in-Some-Body-default.after.now (Body c.in-Some-Body-default._document) (rw c.in-Some-Body-default.field-0-0-is at c.in-Some-Body-default.ensures)

pub returns-then-is_some : goal.returns-then-is_some
returns-then-is_some c = record {
  found = second_body c.args.bytes.now c.sections.rest.now c.in-Some-Body-default.after.now c.sections.body c.in-Some-Body-default._document c.args.copies.now c.sections.copies c.sections.invariant
      (sym c.is_some.ensures ∙ c.if-is_some.true) c.sections-test.true (rw c.in-Some-Body-default.field-0-0-is at c.in-Some-Body-default.ensures);
  copied = tt;
  refused = tt;
}

pub returns-in-None : goal.returns-in-None
returns-in-None c = record {
  found = no_more_section c.args.bytes.now c.sections.rest.now c.sections.body c.args.copies.now c.sections.copies c.sections.invariant c.sections-test.true c.in-None.ensures;
  copied = tt;
  refused = tt;
}

pub returns-in-None-body : goal.returns-in-None-body
returns-in-None-body c = record {
  found = no_body c.args.bytes.now c.sections.rest.now c.sections.body c.args.copies.now c.sections.copies c.sections.invariant c.in-None-body.is c.sections-test.false;
  copied = tt;
  refused = tt;
}

pub returns-in-Some : goal.returns-in-Some
returns-in-Some c = record {
  found = lies_at c.args.bytes.now c.sections.rest.now c.in-Some.body _ c.args.copies.now c.sections.copies (rw c.in-Some.is at c.sections.invariant) c.sections-test.false refl refl refl;
  copied = copied_all c.args.bytes.now c.sections.rest.now c.sections.body c.args.copies.now c.sections.copies c.sections.invariant c.sections-test.false;
  refused = tt;
}
