use Rattle.std.proofs.Common.{◌≡◌, ◌∙◌, sym, ap, rules}
use Rattle.std.specs.Ordering.{is_eq}
use Rattle.mongo_scram.specs.Entry.{salted_of}
use Rattle.mongo_scram.specs.KeyOrder.{key_cmp}
use Rattle.mongo_scram.proofs.Cached.{equal_keys, same_keys}
use Rattle.mongo_scram.proofs.cache.SaltedKeyPartialEq.eq.Goals as goal

pub returns-clause-same : goal.returns-clause-same
returns-clause-same c =
    let result : c.is_eq.result ≡ is_eq (key_cmp c.args.self.now c.args.other.now) = search rules in
    (λ yes. equal_keys c.args.self.now c.args.other.now (sym result ∙ yes), λ same. result ∙ same_keys c.args.self.now c.args.other.now same)

pub returns-clause-salted : goal.returns-clause-salted
returns-clause-salted c = λ yes. ap salted_of ((returns-clause-same c).0 yes)
