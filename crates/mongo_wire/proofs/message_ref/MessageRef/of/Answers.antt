use Rattle.std.proofs.Common.{ap, ◌∙◌, slice_range}
use Rattle.bitflags.proofs.OnLiterals.{bitflags_on_literals}
use Rattle.mongo_wire.proofs.message_ref.MessageRef.of.Goals as goal

pub returns-clause-shown : goal.returns-clause-shown
unfolding bitflags_on_literals
returns-clause-shown c = λ frame parts is cut.
    let place = c.args.held.offsets in
    record {
      is_frame = is.is_frame;
      header_is = is.header_is;
      flags_are = c.from_bits_truncate.ensures tt ∙ is.flags_are;
      checksum_is = is.checksum_is;
      body_is = c.of_framed.ensures ∙ ap (λ b. slice_range b place.body_start place.body_end) cut ∙ is.body_at.is;
      sections_are = ap (λ b. slice_range b 4 place.sections_end) cut ∙ is.sections_at.is;
    }
