use Rattle.std.proofs.Common.{rules, ◌≡◌, subst, sym, ◌∙◌}
use Rattle.mongo_server.specs.Server.{IsOwed, IsValidClientFinal}
use Rattle.mongo_server.specs.declared.fault.ServerFault.TheVariants.{OutOfMemory}
use Rattle.mongo_generate.proofs.log_in.acceptance.Goals as goal

-- the server is left as it was
pub returns-in-Ok-clause-taken : goal.returns-in-Ok-clause-taken
returns-in-Ok-clause-taken c =
    let same = sym c.in-Ok.ensures.unchanged in
    let server_final = c.in-Ok.server_final in
    (subst (λ server. IsValidClientFinal server c.args.client_final) same (subst (IsValidClientFinal c.args.server.now) c.as_bytes.ensures c.in-Ok.ensures.taken), subst (λ server. IsOwed server server_final) same c.in-Ok.ensures.answered)

pub returns-clause-accepted : goal.returns-clause-accepted
returns-clause-accepted c = λ x begun is.
    let memory = c.in-Err.ensures.accepts x begun (c.as_bytes.ensures ∙ is) in
    let other : (c.in-Err.field-0 ≡ OutOfMemory) → ⊥ = search rules in
    absurd (other memory)
