use Rattle.std.proofs.Common.{length, ap, ◌∙◌, drop, arith}
use Rattle.std.proofs.lemmas.List.{length-drop}
use Rattle.mongo_wire.proofs.AtFront.{no_sequence_name, sequence_filled, sequence_found}
use Rattle.mongo_wire.proofs.sections.split_sequence.Goals as goal

pub returns-in_err-identifier : goal.returns-in_err-identifier
returns-in_err-identifier c =
    let bytes = c.args.bytes.now in
    rw c.from_residual.ensures (no_sequence_name bytes c.split_at-2.result.1.now c.number-size.result c.number-size.ensures (c.split_at-2.ensures.back ∙ ap (drop 4) c.split_at.ensures.front) c.in_err-identifier.ensures)

pub returns : goal.returns
returns c =
    let bytes = c.args.bytes.now in
    let size = c.number-size.result in
    let content = c.split_at-2.ensures.back ∙ ap (drop 4) c.split_at.ensures.front in
    record {
      shorter = omega (arith, ap length c.split_at.ensures.back, length-drop size bytes, c.if-size-lt4.false, c.if-size-bytes.false);
      whole = λ are. sequence_found bytes c.split_at-2.result.1.now c.split_at.result.1.now size _ (λ i. (c.type_inv.bytes i).fits)
          c.if-size-lt4.false (omega (arith, c.if-size-gt-MAXIMUM_LENGTH.false)) c.if-size-bytes.false c.number-size.ensures content c.split_at.ensures.back c.in_ok-identifier.ensures are;
      filled = sequence_filled bytes c.split_at-2.result.1.now c.in_ok-identifier.identifier.now c.in_ok-identifier.documents.now size c.number-size.ensures content c.in_ok-identifier.ensures;
    }
