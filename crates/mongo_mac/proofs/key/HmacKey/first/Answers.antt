use Rattle.std.proofs.Common.{◌++◌, rules, append_assoc, subst}
use Rattle.mongo_mac.specs.Hi.{first_index}
use Rattle.mongo_mac.proofs.key.HmacKey.first.Goals as goal

-- the salt and the index were added one after the other
pub returns : goal.returns
returns g c =
    let salt = c.args.salt.now in
    let inner = c.args.self.now.inner in
    let holds = g.H.HashFn.holds in
    let begun : holds c.copy-inner.result inner = search rules in
    let added = c.add-2.ensures (inner ++ salt) (c.add.ensures inner begun) in
    let absorbed = subst (holds c.add-2.new.self) (append_assoc inner salt first_index) added in
    record {
      value = c.finish.ensures.value (salt ++ first_index) absorbed;
      len = c.finish.ensures.len (salt ++ first_index) absorbed;
      cost = search rules;
    }
