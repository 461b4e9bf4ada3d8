use Rattle.std.proofs.Common.{rules, sym, ap, ◌∙◌, refl, subst}
use Rattle.mongo_wire.specs.Header.{signed_at}
use Rattle.mongo_wire.specs.Small.{HeaderRefused, TakesUnknown}
use Rattle.mongo_wire.specs.declared.error.ErrorKind.TheVariants.{InvalidResponse}
use Rattle.mongo_wire.proofs.header.Header.read_from.Goals as goal

pub returns-in-Err-clause-refused : goal.returns-in-Err-clause-refused
returns-in-Err-clause-refused g c =
    let old = g.S.Outside.state c.args.source.now in
    let new = g.S.Outside.state c.fill.new.source in
    let (is, unknown) = c.in-Err.ensures.unknown in
    let taken : TakesUnknown (signed_at 12 c.fill.new.buf) old new = record { bytes = c.fill.new.buf; taken = c.in_ok-fill.ensures.filled; unstopped = c.in_ok-fill.ensures.unstopped; whole = search rules; number_is = refl; unknown = unknown } in
    subst (λ kind. HeaderRefused kind old new) (sym (c.into.ensures ∙ ap InvalidResponse is)) taken
