use Rattle.std.proofs.Common.{subst}
use Rattle.mongo_generate.specs.Generated.{authentication_at}
use Rattle.mongo_generate.specs.Login.{IsAuthenticationClient}
use Rattle.mongo_server.specs.Server.{Serves}
use Rattle.mongo_bench.proofs.peers.Peers.new.Goals as goal

pub returns-clause-ready : goal.returns-clause-ready
returns-clause-ready g c = record {
  logs_in = subst (λ n. IsAuthenticationClient (authentication_at n) c.in_ok-login.login) c.number_of_hash-number.ensures c.in_ok-login.ensures.login;
  serves = subst (λ n. Serves c.in_ok-server.server (authentication_at n)) c.number_of_hash-number.ensures c.in_ok-server.ensures.serves;
}
