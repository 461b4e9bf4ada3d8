use Rattle.std.proofs.Common.{rules, arith, ◌≡◌, ◌-◌, ◌^◌, ◌≤◌, min, length, map, refl, ap, ◌∙◌, subst}
use Rattle.std.proofs.lemmas.Int.{ints}
use Rattle.std.specs.List.{AllByRecursion}
use Rattle.mongo_bson.specs.Framed.{IsFramed, maximum_length}
use Rattle.mongo_wire.specs.Frame.{IsSection, sequence}
use Rattle.mongo_wire.specs.Measure.{sequences_bytes}
use Rattle.mongo_wire.specs.Message.{checksum_bytes, frame_length}
use Rattle.mongo_wire.proofs.Measured.{frame_length_is, sum_below, sum_within, sections_good}
use Rattle.mongo_wire.proofs.measure.measured.Goals as goal

pub returns-then-length-maximum-clause-refused : goal.returns-then-length-maximum-clause-refused
returns-then-length-maximum-clause-refused c =
    let m = c.args.message.now in
    let size = c.in-Some.ensures.size ∙ ap (λ s. min (length (sequences_bytes s)) (2 ^ 64 - 1)) c.as_slice-sequences.ensures in
    let within = sum_within (length c.as_bytes-body.result.now) c.in-Some.size (length (checksum_bytes m.checksum)) (length (sequences_bytes m.document_sequences)) c.whole_length-length.result size c.whole_length-length.ensures in (
      search rules,
      search rules,
      omega (arith, ints, c.if-maximum-lt0.false, c.unwrap_or-maximum.ensures),
      omega (arith, ints, within, frame_length_is m, c.if-length-maximum.true, c.if-maximum-lt0.false, c.unwrap_or-maximum.ensures, ap length c.as_bytes-body.ensures.bytes),
    )

pub returns-clause-counted : goal.returns-clause-counted
returns-clause-counted c =
    let m = c.args.message.now in
    let size = c.in-Some.ensures.size ∙ ap (λ s. min (length (sequences_bytes s)) (2 ^ 64 - 1)) c.as_slice-sequences.ensures in
    let short : c.whole_length-length.result ≤ maximum_length = omega (arith, ints, c.if-length-maximum.false, c.unwrap_or-maximum.type_inv) in
    let is = sum_below (length c.as_bytes-body.result.now) c.in-Some.size (length (checksum_bytes m.checksum)) (length (sequences_bytes m.document_sequences)) c.whole_length-length.result size c.whole_length-length.ensures short in
    omega (arith, is, frame_length_is m, ap length c.as_bytes-body.ensures.bytes)

pub returns-clause-fits : goal.returns-clause-fits
returns-clause-fits c =
    let m = c.args.message.now in
    let counted : c.whole_length-length.result ≡ frame_length m = returns-clause-counted c in
    record {
      names = search rules;
      sizes = search rules;
      positive = omega (arith, ints, c.if-maximum-lt0.false, c.unwrap_or-maximum.ensures);
      within = omega (arith, ints, counted, c.if-length-maximum.false, c.if-maximum-lt0.false, c.unwrap_or-maximum.ensures);
    }

pub returns-clause-sections : goal.returns-clause-sections
returns-clause-sections c =
    let m = c.args.message.now in
    let sequences = c.as_slice-sequences.result.now in (
      subst IsFramed c.as_bytes-body.ensures.bytes c.as_bytes-body.ensures.framed,
      subst (λ s. AllByRecursion IsSection (map sequence s)) c.as_slice-sequences.ensures (sections_good sequences (c.if-not-are_named.ensures.named refl) c.in-Some.ensures.documents c.in-Some.ensures.counted),
    )
