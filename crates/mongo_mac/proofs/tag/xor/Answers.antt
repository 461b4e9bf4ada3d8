use Rattle.std.proofs.Common.{◌≡◌, take, length, ap, sym, ◌∙◌}
use Rattle.mongo_mac.proofs.ZeroFilled.{xor_stores}
use Rattle.mongo_mac.proofs.tag.xor.Goals as goal

pub invariant_of-result : goal.invariant_of-result
invariant_of-result c =
    let a = c.a.inside in
    let b = c.b.inside in
    let same : length (take a.len a.store) ≡ length (take b.len b.store) =
    ap length c.a.view_is ∙ c.requires ∙ sym (ap length c.b.view_is) in
    rw c.xor_into.ensures (xor_stores a.store b.store a.len b.len c.a.invariant c.b.invariant same).0

pub returns-clause-value : goal.returns-clause-value
returns-clause-value c =
    let a = c.a.inside in
    let b = c.b.inside in
    let same : length (take a.len a.store) ≡ length (take b.len b.store) =
    ap length c.a.view_is ∙ c.requires ∙ sym (ap length c.b.view_is) in
    let stores = xor_stores a.store b.store a.len b.len c.a.invariant c.b.invariant same in
    rw (← c.a.view_is, ← c.b.view_is, c.xor_into.ensures) stores.1
