use Rattle.std.proofs.Common.{subst}
use Rattle.std.proofs.lemmas.Result.{IfOk-weaker, IfErr-weaker}
use Rattle.std.specs.Io.KnownBytes.{Appends}
use Rattle.mongo_wire.specs.Outside.{WriteStops}
use Rattle.mongo_wire.proofs.header.Header.write_to.Goals as goal

pub returns-clause-written : goal.returns-clause-written
returns-clause-written g c = IfOk-weaker c.write_out.result _ _ (λ _ s. subst (Appends _ _) c.encode.ensures.bytes s) c.write_out.ensures.written

pub returns-clause-refused : goal.returns-clause-refused
returns-clause-refused g c = IfErr-weaker c.write_out.result _ _ (λ e s. subst (WriteStops e.kind _ _) c.encode.ensures.bytes s) c.write_out.ensures.refused
