use Rattle.std.proofs.Common.{arith, ap, ◌≡◌, ◌∙◌, ◌+◌, ◌<◌, ◌≤◌, length, ◌++◌, take}
use Rattle.std.proofs.lemmas.Grind.{common_steps}
use Rattle.std.proofs.KnownBytes.{Consumes-trans, Consumes-kept}
use Rattle.mongo_wire.specs.Outside.{risen}
use Rattle.mongo_wire.proofs.ReadStopped.{reads_on}
use Rattle.mongo_settings.specs.Settings.{maximum_settings_length}
use Rattle.mongo_login.proofs.Front.{reads_whole, reads_front, nothing_more, no_ok, of_error, judged-front}
use Rattle.mongo_login.proofs.input.read_input.Goals as goal

pub returns-in-Ok-eq0-clause-read : goal.returns-in-Ok-eq0-clause-read
returns-in-Ok-eq0-clause-read g c =
    let held = c.reading.held.items in
    let short : length held ≤ maximum_settings_length = omega arith in
    let room : 0 < length c.read.new.buf = grind (arith, common_steps, c.read.auto.buf) in
    let all = nothing_more _ _ _ held c.read.new.buf c.in-Ok-eq0.field-0 c.reading.invariant.front c.in-Ok-eq0.ensures.bytes.0 c.in-Ok-eq0.field-0-test in
    let end = c.in-Ok-eq0.ensures.bytes.1 c.in-Ok-eq0.field-0-test room in
    λ input told. reads_whole _ _ held input told all end short

pub returns-in_err-extend_from_slice-in-Ok-clause-at_most :
    goal.returns-in_err-extend_from_slice-in-Ok-clause-at_most
returns-in_err-extend_from_slice-in-Ok-clause-at_most g c =
    let piece = take c.in-Ok.count c.read.new.buf in
    let room : length c.read.new.buf ≡ c.min-room.result = grind (arith, common_steps, c.read.auto.buf) in
    let short : length (c.reading.held.items ++ piece) ≤ maximum_settings_length + 1 = grind (arith, common_steps) in
    (c.reading.held.items ++ piece, short, Consumes-trans _ _ _ _ piece c.reading.invariant.front c.in-Ok.ensures.bytes.0)

pub returns-clause-read : goal.returns-clause-read
returns-clause-read g c =
    let past : length c.reading.held.items ≡ maximum_settings_length + 1 = omega arith in
    λ input told. reads_front _ _ _ input told c.reading.invariant.front past

pub returns-clause-judged_alike : goal.returns-clause-judged_alike
returns-clause-judged_alike g c =
    let past : length c.reading.held.items ≡ maximum_settings_length + 1 = omega arith in
    λ job input told. judged-front job _ _ _ input told c.reading.invariant.front past

pub returns-in-Err-clause-ended : goal.returns-in-Err-clause-ended
returns-in-Err-clause-ended g c = tt

pub returns-in-Err-clause-consumed : goal.returns-in-Err-clause-consumed
returns-in-Err-clause-consumed g c = tt

pub returns-in-Err-clause-read : goal.returns-in-Err-clause-read
returns-in-Err-clause-read g c = λ input told. tt

pub returns-in-Err-clause-judged_alike : goal.returns-in-Err-clause-judged_alike
returns-in-Err-clause-judged_alike g c = λ job input told. tt

-- ---- the source has ended

pub returns-in-Ok-eq0-clause-consumed : goal.returns-in-Ok-eq0-clause-consumed
returns-in-Ok-eq0-clause-consumed g c = nothing_more _ _ _ c.reading.held.items c.read.new.buf c.in-Ok-eq0.field-0 c.reading.invariant.front c.in-Ok-eq0.ensures.bytes.0 c.in-Ok-eq0.field-0-test

pub returns-in-Ok-eq0-clause-ended : goal.returns-in-Ok-eq0-clause-ended
returns-in-Ok-eq0-clause-ended g c =
    let room : 0 < length c.read.new.buf = grind (arith, common_steps, c.read.auto.buf) in
    let short : length c.reading.held.items ≤ maximum_settings_length = omega arith in
    record {
      within = λ _. c.in-Ok-eq0.ensures.ended c.in-Ok-eq0.field-0-test room ∙ ap risen c.reading.invariant.unended;
      past = λ long. absurd (omega (arith, short, long));
    }

pub returns-in-Ok-eq0-clause-at_most : goal.returns-in-Ok-eq0-clause-at_most
returns-in-Ok-eq0-clause-at_most g c =
    let held = c.reading.held.items in
    (held, c.reading.invariant.within, nothing_more _ _ _ held c.read.new.buf c.in-Ok-eq0.field-0 c.reading.invariant.front c.in-Ok-eq0.ensures.bytes.0 c.in-Ok-eq0.field-0-test)

pub returns-in-Ok-eq0-clause-unfailed : goal.returns-in-Ok-eq0-clause-unfailed
returns-in-Ok-eq0-clause-unfailed g c = c.in-Ok-eq0.ensures.exact.0 ∙ c.reading.invariant.unfailed

pub returns-in-Ok-eq0-clause-on : goal.returns-in-Ok-eq0-clause-on
returns-in-Ok-eq0-clause-on g c = reads_on _ _ _ c.reading.invariant.on c.in-Ok-eq0.ensures.on

-- ---- it was read to one byte past the greatest length

pub returns-clause-ended : goal.returns-clause-ended
returns-clause-ended g c =
    let past : length c.reading.held.items ≡ maximum_settings_length + 1 = omega arith in
    record {
      within = λ short. absurd (omega (arith, past, short));
      past = λ _. c.reading.invariant.unended;
    }

-- ---- memory ran out for its piece

pub returns-in_err-extend_from_slice-in-Ok-clause-read : goal.returns-in_err-extend_from_slice-in-Ok-clause-read
returns-in_err-extend_from_slice-in-Ok-clause-read g c = λ input told. no_ok _ c.from_residual.result c.from_residual.ensures.0

pub returns-in_err-extend_from_slice-in-Ok-clause-judged_alike : goal.returns-in_err-extend_from_slice-in-Ok-clause-judged_alike
returns-in_err-extend_from_slice-in-Ok-clause-judged_alike g c = λ job input told. no_ok _ c.from_residual.result c.from_residual.ensures.0

pub returns-in_err-extend_from_slice-in-Ok-clause-consumed : goal.returns-in_err-extend_from_slice-in-Ok-clause-consumed
returns-in_err-extend_from_slice-in-Ok-clause-consumed g c = no_ok _ c.from_residual.result c.from_residual.ensures.0

pub returns-in_err-extend_from_slice-in-Ok-clause-ended : goal.returns-in_err-extend_from_slice-in-Ok-clause-ended
returns-in_err-extend_from_slice-in-Ok-clause-ended g c = no_ok _ c.from_residual.result c.from_residual.ensures.0

pub returns-in_err-extend_from_slice-in-Ok-clause-unended : goal.returns-in_err-extend_from_slice-in-Ok-clause-unended
returns-in_err-extend_from_slice-in-Ok-clause-unended g c =
    let some : 0 < c.in-Ok.count = omega (arith, c.in-Ok.count-test) in
    of_error _ c.from_residual.result (c.in-Ok.ensures.exact.1 some ∙ c.reading.invariant.unended)

pub returns-in_err-extend_from_slice-in-Ok-clause-memory : goal.returns-in_err-extend_from_slice-in-Ok-clause-memory
returns-in_err-extend_from_slice-in-Ok-clause-memory g c = λ _. c.in-Ok.ensures.exact.0 ∙ c.reading.invariant.unfailed

pub returns-in_err-extend_from_slice-in-Ok-clause-on : goal.returns-in_err-extend_from_slice-in-Ok-clause-on
returns-in_err-extend_from_slice-in-Ok-clause-on g c = reads_on _ _ _ c.reading.invariant.on c.in-Ok.ensures.on

-- ---- it failed

pub returns-in-Err-clause-failed : goal.returns-in-Err-clause-failed
returns-in-Err-clause-failed g c = λ _. c.in-Err.ensures.failed ∙ ap risen c.reading.invariant.unfailed

pub returns-in-Err-clause-at_most : goal.returns-in-Err-clause-at_most
returns-in-Err-clause-at_most g c = (c.reading.held.items, c.reading.invariant.within, Consumes-kept _ _ _ c.reading.held.items c.reading.invariant.front c.in-Err.ensures.bytes)

pub returns-in-Err-clause-unended : goal.returns-in-Err-clause-unended
returns-in-Err-clause-unended g c = c.in-Err.ensures.exact ∙ c.reading.invariant.unended

pub returns-in-Err-clause-on : goal.returns-in-Err-clause-on
returns-in-Err-clause-on g c = reads_on _ _ _ c.reading.invariant.on c.in-Err.ensures.on
