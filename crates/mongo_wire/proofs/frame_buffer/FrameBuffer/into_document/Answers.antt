use Rattle.std.proofs.Common.{[], is_some, sym, ap, ◌∙◌, subst}
use Rattle.std.proofs.lemmas.Bool.{false≢true}
use Rattle.mongo_bson.specs.Framed.{IsFramed}
use Rattle.mongo_wire.proofs.Found.{body_lies, framed_body}
use Rattle.mongo_wire.proofs.frame_buffer.FrameBuffer.into_document.Goals as goal

pub part_of-bytes-requires : goal.part_of-bytes-requires
part_of-bytes-requires c =
    let (frame, parts, holds) = c.requires.holds in
    let (ordered, within, is) = body_lies c.args.self frame parts c.in-Some.frame holds c.in-Some.is c.args.self.within in
    (ordered, within)

pub of_framed-requires : goal.of_framed-requires
of_framed-requires c =
    let (frame, parts, holds) = c.requires.holds in
    let (ordered, within, is) = body_lies c.args.self frame parts c.in-Some.frame holds c.in-Some.is c.args.self.within in
    let sections = holds.is_held.is_frame in
    subst IsFramed (sym (c.from_vec.ensures ∙ c.part_of-bytes.ensures ∙ is)) (framed_body sections.sections parts.body [] sections.each sections.one_body)

pub unreachable-requires : goal.unreachable-requires
unreachable-requires c =
    let (frame, parts, holds) = c.requires.holds in
    absurd (false≢true (ap is_some (sym c.in-None.is ∙ holds.last_is)))

pub returns : goal.returns
returns c = record {
  document = λ frame parts holds.
      let (ordered, within, is) = body_lies c.args.self frame parts c.in-Some.frame holds c.in-Some.is c.args.self.within in
      c.of_framed.ensures ∙ c.from_vec.ensures ∙ c.part_of-bytes.ensures ∙ is;
}
