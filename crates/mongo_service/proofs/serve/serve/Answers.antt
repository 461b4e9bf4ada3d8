use Rattle.std.proofs.Common.{◌≡◌, true, false, Ok, ap, ◌∙◌, subst, ◌-◌, ◌^◌, arith}
use Rattle.mongo_service.specs.Juncture.{basis_of, juncture}
use Rattle.mongo_service.specs.Served.{RequestEnds}
use Rattle.mongo_service.specs.ServedRequests.{documents}
use Rattle.mongo_service.proofs.Stream.{begun, one_request_more, has_ended, was_cut, went_on}
use Rattle.mongo_service.proofs.serve.serve.Goals as goal

pub returns-in-Ok-false : goal.returns-in-Ok-false
returns-in-Ok-false g c =
    let h = c.serving.invariant in
    let result : c.serve_request.result ≡ Ok false = c.in-Ok-false.is ∙ ap Ok c.in-Ok-false.field-0-test in
    let now = juncture (g.L.Outside.state c.serving.link) c.serving.steps (basis_of c.serving.serving) in
    let new = juncture (g.L.Outside.state c.serve_request.new.link) c.serve_request.new.steps (basis_of c.serve_request.new.serving) in
    record {
      served = has_ended c.args.settings.now (g.L.Outside.state c.args.link.now) c.args.steps.now now new c.serving._request h
          (subst (RequestEnds c.args.settings.now (documents h.served_requests) now new) result (c.serve_request.ensures.request (documents h.served_requests) h.remembers));
    }

pub returns-in-Err : goal.returns-in-Err
returns-in-Err g c =
    let h = c.serving.invariant in
    let now = juncture (g.L.Outside.state c.serving.link) c.serving.steps (basis_of c.serving.serving) in
    let new = juncture (g.L.Outside.state c.serve_request.new.link) c.serve_request.new.steps (basis_of c.serve_request.new.serving) in
    record {
      served = was_cut c.args.settings.now (g.L.Outside.state c.args.link.now) c.args.steps.now now new c.in-Err.fault c.serving._request h
          (subst (RequestEnds c.args.settings.now (documents h.served_requests) now new) c.in-Err.is (c.serve_request.ensures.request (documents h.served_requests) h.remembers));
    }

pub serving-preserved : goal.serving-preserved
serving-preserved g c =
    let h = c.serving.invariant in
    let result : c.serve_request.result ≡ Ok true = c.in-Ok-true.is ∙ ap Ok c.in-Ok-true.field-0-test in
    let now = juncture (g.L.Outside.state c.serving.link) c.serving.steps (basis_of c.serving.serving) in
    let new = juncture (g.L.Outside.state c.serve_request.new.link) c.serve_request.new.steps (basis_of c.serve_request.new.serving) in
    one_request_more c.args.settings.now (g.L.Outside.state c.args.link.now) c.args.steps.now now new c.serving._request h
    (subst (RequestEnds c.args.settings.now (documents h.served_requests) now new) result (c.serve_request.ensures.request (documents h.served_requests) h.remembers))

pub returns : goal.returns
returns g c = record {
  served =
      let all : c.serving._request ≡ 2 ^ 64 - 1 = omega arith in
      went_on c.args.settings.now (g.L.Outside.state c.args.link.now) c.args.steps.now (juncture (g.L.Outside.state c.serving.link) c.serving.steps (basis_of c.serving.serving)) c.serving._request all c.serving.invariant;
}

pub serving-init : goal.serving-init
serving-init g c = begun c.args.settings.now (g.L.Outside.state c.args.link.now) c.args.steps.now c.new.result c.new-3.result c.new.ensures.nobody c.new.ensures.none c.new-3.ensures
