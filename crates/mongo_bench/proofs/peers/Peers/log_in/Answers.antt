use Rattle.mongo_generate.specs.Generated.{authentication_at}
use Rattle.mongo_bench.specs.Login.{number_of_hash}
use Rattle.mongo_bench.proofs.peers.Peers.log_in.Goals as goal

pub returns-in_err-_acceptance-clause-ready : goal.returns-in_err-_acceptance-clause-ready
returns-in_err-_acceptance-clause-ready g c = record { logs_in = c.requires.ready.logs_in; serves = c.log_in.ensures.serves (authentication_at (number_of_hash c.args.self.now.hash)) c.requires.ready.serves }

pub unreachable-requires : goal.unreachable-requires
unreachable-requires g c =
    let both = c.in_ok-_acceptance.ensures.accepted (authentication_at (number_of_hash c.args.self.now.hash)) c.requires.ready.logs_in c.requires.ready.serves in
    let none = c.in-None.is in
    cc

pub returns-clause-ready : goal.returns-clause-ready
returns-clause-ready g c = record { logs_in = c.requires.ready.logs_in; serves = c.log_in.ensures.serves (authentication_at (number_of_hash c.args.self.now.hash)) c.requires.ready.serves }

pub returns-clause-takes : goal.returns-clause-takes
returns-clause-takes g c = c.in_ok-_acceptance.ensures.takes (authentication_at (number_of_hash c.args.self.now.hash)) c.requires.ready.logs_in c.requires.ready.serves
