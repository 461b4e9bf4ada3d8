use Rattle.std.proofs.Common.{Some, [], refl, sym, subst}
use Rattle.std.proofs.KnownBytes.{Consumes-nil}
use Rattle.mongo_service.specs.Cut.{IsCut}
use Rattle.mongo_service.specs.Juncture.{basis_of, juncture}
use Rattle.mongo_service.proofs.Causes.{header_part, cause_of_stop}
use Rattle.mongo_service.proofs.NoRequest.{within_header}
use Rattle.mongo_service.proofs.Lasts.{flushed_read, lasts_all}
use Rattle.mongo_service.proofs.Spent.{none_spent}
use Rattle.mongo_service.proofs.ServedRequests.{none_taken}
use Rattle.mongo_service.proofs.serve.serve_request.Goals as goal

pub returns-in-Err : goal.returns-in-Err
returns-in-Err g c = record {
  request = λ requests h.
      let s = g.L.Outside.state c.args.link.now in
      let t = g.L.Outside.state c.fill_or_end.new.source in
      let steps = c.args.steps.now in
      let on = c.in-Err.ensures.on in
      let some = cause_of_stop c.in-Err.fault s s t [] 16 (lasts_all s) (Consumes-nil s.left) c.in-Err.ensures.more within_header on c.in-Err.ensures.refused in
      let old = juncture s steps (basis_of c.args.serving.now) in
      let new = juncture t steps (basis_of c.args.serving.now) in
      subst (IsCut c.args.settings.now requests old new) (sym c.into.ensures)
      (none_taken c.args.settings.now requests old new _ some.taken refl (header_part some.taken some.within) some.consumed on.unwritten.written h.user some.counted some.cause (flushed_read s t on) (none_spent c.args.settings.now (Some _) some.taken steps));
}
