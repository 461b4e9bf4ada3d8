use Rattle.mongo_service.specs.Juncture.{basis_of, juncture}
use Rattle.mongo_service.specs.Served.{HasServed}
use Rattle.mongo_service.proofs.serve.serve.Given as goal

-- the requests so far were answered
abbrev pub invariant-serving : goal.invariant-serving
invariant-serving g l =
    HasServed l.settings (g.L.Outside.state l.fn.link) l.fn.steps (juncture (g.L.Outside.state l.link) l.steps (basis_of l.serving)) l._request
