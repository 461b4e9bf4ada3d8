use Rattle.std.proofs.Common.{rules}
use Rattle.mongo_mac.specs.Hi.{u_of, hi_under}
use Rattle.mongo_mac.specs.Hmac.{mac_of}
use Rattle.mongo_mac.proofs.Rounds.{u_more, hi_more}
use Rattle.mongo_mac.proofs.key.HmacKey.hi.Goals as goal

pub loop-round-init : goal.loop-round-init
unfolding u_of hi_under
loop-round-init g c = search rules

pub loop-round-preserved : goal.loop-round-preserved
loop-round-preserved g c =
    let mac = mac_of g.H.HashFn.digest c.args.self.now in
    let u = u_more mac c.args.salt.now c.loop-round._round in
    let all = hi_more mac c.args.salt.now c.loop-round._round c.loop-round.auto._round in
    search (rules, u, all)
