use Rattle.mongo_establish.proofs.Numbers.{sets_number}
use Rattle.mongo_establish.proofs.generation.Generations.insert.Goals as goal

pub returns-clause-set : goal.returns-clause-set
returns-clause-set c =
    sets_number c.args.service_id c.args.generation c.args.self.now c.self.inside.entries.entries c.insert.new.self.entries c.self.view_is c.in_ok-insert.ensures.entries c.in_ok-insert.ensures.updates.1 c.in_ok-insert.ensures.updates.2
