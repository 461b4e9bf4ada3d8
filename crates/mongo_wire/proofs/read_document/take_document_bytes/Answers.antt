use Rattle.std.proofs.Common.{arith, ◌≡◌, ◌+◌, ◌-◌, pos, ◌≤◌, ◌<ℤ◌, ◌++◌, length, take, drop, length-append, subst, sym, ap, ◌∙◌}
use Rattle.std.proofs.lemmas.List.{take_all}
use Rattle.std.proofs.KnownBytes.{Consumes-trans}
use Rattle.std.specs.Io.KnownBytes.{Consumes}
use Rattle.mongo_wire.specs.Error.{kind_of_frame_fault}
use Rattle.mongo_wire.specs.Header.{signed_at}
use Rattle.mongo_wire.proofs.DocumentCut.{length_cut, document_cut, document_taken, memory_after}
use Rattle.mongo_wire.proofs.ReadStopped.{came_before, came_then, reads_on, unstopped_on}
use Rattle.mongo_wire.proofs.read_document.take_document_bytes.Goals as goal

pub returns-in-Err-clause-refused : goal.returns-in-Err-clause-refused
returns-in-Err-clause-refused g c = length_cut (kind_of_frame_fault c.in-Err.fault) _ _ c.in-Err.ensures.on.tells c.in-Err.ensures.refused

pub returns-in-Err-take_into-clause-refused : goal.returns-in-Err-take_into-clause-refused
returns-in-Err-take_into-clause-refused g c =
    let first = c.in-Ok.ensures in
    let field = c.take_into.new.store.items in
    let n = c.in-Some.length in
    let four : length field ≡ 4 = omega (arith, first.all, first.size, ap length c.requires) in
    let taken = subst (Consumes _ _) (take_all 4 field (omega (arith, four))) first.taken in
    let is = ap (signed_at 0) (sym c.as_slice.ensures.value) ∙ c.in-Some.ensures.0 in
    let all : 4 + (n - 4) ≡ n = omega (arith, c.in-Some.ensures.1) in
    let refused = c.in-Err-take_into.ensures in
    document_cut (kind_of_frame_fault c.in-Err-take_into.fault) _ _ _ field n _ refused.on.tells taken four is all first.unstopped refused.refused

pub returns-in-Err-take_into-clause-came : goal.returns-in-Err-take_into-clause-came
returns-in-Err-take_into-clause-came g c = λ had left had_is left_is.
    let first = c.in-Ok.ensures in
    let field = c.take_into.new.store.items in
    let four : length field ≡ 4 = omega (arith, first.all, first.size, ap length c.requires) in
    let taken = subst (Consumes _ _) (take_all 4 field (omega (arith, four))) first.taken in
    let refused = c.in-Err-take_into.ensures in
    let some = came_then (kind_of_frame_fault c.in-Err-take_into.fault) (g.S.Outside.state c.args.source.now) _ _ field _ had left taken had_is left_is refused.refused in
    memory_after _ _ _ field had left _ _ _ taken had_is left_is some four (λ h l p q. omega (arith, first.came h l p q)) refused.came

pub returns-in-Err-clause-on : goal.returns-in-Err-clause-on
returns-in-Err-clause-on g c = c.in-Err.ensures.on

pub returns-in-Err-take_into-clause-on : goal.returns-in-Err-take_into-clause-on
returns-in-Err-take_into-clause-on g c = reads_on _ _ _ c.in-Ok.ensures.on c.in-Err-take_into.ensures.on

pub returns-in-Err-clause-came : goal.returns-in-Err-clause-came
returns-in-Err-clause-came g c = λ had left had_is left_is. omega (arith, c.in-Err.ensures.came had left had_is left_is)

pub returns-in_default-clause-refused : goal.returns-in_default-clause-refused
returns-in_default-clause-refused g c =
    let first = c.in-Ok.ensures in
    let field = c.take_into.new.store.items in
    let four : length field ≡ 4 = omega (arith, first.all, first.size, ap length c.requires) in
    (first.unstopped, (field, subst (Consumes _ _) (take_all 4 field (omega (arith, four))) first.taken, (four, subst (λ bytes. signed_at 0 bytes <ℤ pos 4) c.as_slice.ensures.value c.in_default.ensures)))

pub returns-in_default-clause-came : goal.returns-in_default-clause-came
returns-in_default-clause-came g c = λ had left had_is left_is. omega (arith, c.in-Ok.ensures.came had left had_is left_is)

pub returns-in_default-clause-on : goal.returns-in_default-clause-on
returns-in_default-clause-on g c = c.in-Ok.ensures.on

pub returns-in-Ok-take_into-clause-on : goal.returns-in-Ok-take_into-clause-on
returns-in-Ok-take_into-clause-on g c = reads_on _ _ _ c.in-Ok.ensures.on c.in-Ok-take_into.ensures.on

pub returns-in-Ok-take_into-clause-read : goal.returns-in-Ok-take_into-clause-read
returns-in-Ok-take_into-clause-read g c =
    let state = g.S.Outside.state in
    let first = c.in-Ok.ensures in
    let field = c.take_into.new.store.items in
    let whole = c.take_into-2.new.store.items in
    let n = c.in-Some.length in
    let four : length field ≡ 4 = omega (arith, first.all, first.size, ap length c.requires) in
    let taken = subst (Consumes _ _) (take_all 4 field (omega (arith, four))) first.taken in
    let is = ap (signed_at 0) (sym c.as_slice.ensures.value) ∙ c.in-Some.ensures.0 in
    let rest = c.in-Ok-take_into.ensures in
    let size : length whole ≡ n = omega (arith, rest.all, rest.size, four, c.in-Some.ensures.1) in
    document_taken (state c.args.source.now) (state c.take_into.new.source) (state c.take_into-2.new.source) field whole n taken four is c.in-Some.ensures.1 rest.front size rest.taken (unstopped_on _ _ _ first.unstopped rest.unstopped)

pub returns-in-Ok-take_into-clause-came : goal.returns-in-Ok-take_into-clause-came
returns-in-Ok-take_into-clause-came g c = λ had left had_is left_is.
    let state = g.S.Outside.state in
    let first = c.in-Ok.ensures in
    let rest = c.in-Ok-take_into.ensures in
    let field = c.take_into.new.store.items in
    let four : length field ≡ 4 = omega (arith, first.all, first.size, ap length c.requires) in
    let taken = subst (Consumes _ _) (take_all 4 field (omega (arith, four))) first.taken in
    let more = take (c.in-Some.length - 4) (drop 4 c.take_into-2.new.store.items) in
    let both = Consumes-trans (state c.args.source.now).left (state c.take_into.new.source).left (state c.take_into-2.new.source).left field more taken rest.taken in
    let some : length field ≤ length had - length left = omega (arith, came_before _ _ (field ++ more) had left both had_is left_is, length-append field more) in
    memory_after _ _ _ field had left _ _ _ taken had_is left_is some four (λ h l p q. omega (arith, first.came h l p q)) rest.came
