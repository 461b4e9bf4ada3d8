use Rattle.mongo_scram.proofs.Cached.{inserted, insert_salted}
use Rattle.mongo_scram.proofs.cache.SaltedCache.insert.Goals as goal

pub invariant_of-self : goal.invariant_of-self
invariant_of-self c = record {
  salted = insert_salted c.insert.result c.args.self.now.entries.entries c.insert.new.self.entries c.args.key c.args.salted c.insert.ensures.entries c.insert.ensures.err c.args.self.now.salted (record { usable = c.requires.usable; salted_is = c.requires.salted });
  within = c.args.self.now.within;
}

pub returns-clause-added : goal.returns-clause-added
returns-clause-added c =
    inserted c.args.self.now.entries.entries c.insert.new.self.entries c.args.key c.args.salted c.in_ok-insert.ensures.entries c.requires.absent
