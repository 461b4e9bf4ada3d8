use Rattle.mongo_scram.proofs.Cached.{get_found, get_salted, get_usable, get_absent}
use Rattle.mongo_scram.proofs.cache.SaltedCache.entry.Goals as goal

pub returns-clause-found : goal.returns-clause-found
returns-clause-found c = get_found c.get.result c.args.key.now c.args.self.now.entries.entries c.get.ensures.value

pub returns-clause-salted : goal.returns-clause-salted
returns-clause-salted c =
    get_salted c.get.result c.args.key.now c.args.self.now.entries.entries c.args.self.now.salted c.get.ensures.value

pub returns-clause-usable : goal.returns-clause-usable
returns-clause-usable c =
    get_usable c.get.result c.args.key.now c.args.self.now.entries.entries c.args.self.now.salted c.get.ensures.value

pub returns-clause-absent : goal.returns-clause-absent
returns-clause-absent c = get_absent c.get.result c.args.key.now c.args.self.now.entries.entries c.get.ensures.value
