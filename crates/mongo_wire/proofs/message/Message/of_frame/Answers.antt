use Rattle.std.proofs.Common.{is_some, to_z, of_z, refl, sym, ap, ◌∙◌}
use Rattle.std.proofs.lemmas.Bool.{false≢true}
use Rattle.std.proofs.lemmas.Int.{to_z-of_z}
use Rattle.std.specs.Int.{w32}
use Rattle.mongo_wire.proofs.Copied.{copies_held, held_copies}
use Rattle.mongo_wire.proofs.message.Message.of_frame.Goals as goal

pub unreachable-requires : goal.unreachable-requires
unreachable-requires c =
    let (frame, parts, holds) = c.requires.holds in
    absurd (false≢true (c.in_default.ensures.some frame parts holds))

pub unreachable-requires-in_default-copies : goal.unreachable-requires-in_default-copies
unreachable-requires-in_default-copies c =
    let (frame, parts, holds) = c.requires.holds in
    absurd (false≢true (ap is_some (sym c.in_default-copies.is ∙ copies_held c.args.buffer frame parts c.args.copies holds c.requires.copied)))

pub returns : goal.returns
returns c = λ frame parts holds.
    let shown = c.in-Some.ensures.shown frame parts holds in
    record {
      body_is = c.into_document.ensures.document frame parts holds;
      sequences_are = held_copies c.in-Some-copies.document_sequences parts.sequences (sym c.in-Some-copies.is ∙ copies_held c.args.buffer frame parts c.args.copies holds c.requires.copied);
      response_is = ap (λ h. to_z w32 (of_z w32 h.response_to)) shown.header_is ∙ to_z-of_z w32 parts.response_to shown.is_frame.response_fits;
      flags_are = shown.flags_are;
      checksum_is = shown.checksum_is;
      unnumbered = refl;
    }
