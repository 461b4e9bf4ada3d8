use Rattle.std.proofs.Common.{◌≡◌, ◌+◌, length}
use Rattle.mongo_mac.specs.Hi.{hi_under, u_of}
use Rattle.mongo_mac.specs.Hmac.{mac_of}
use Rattle.mongo_mac.proofs.key.HmacKey.hi.Given as goal

abbrev pub invariant-loop-round : goal.invariant-loop-round
invariant-loop-round g l = record {
  last : l.last ≡ u_of (mac_of g.H.HashFn.digest l.self) l.salt l._round;
  all : l.all ≡ hi_under (mac_of g.H.HashFn.digest l.self) l.salt l._round;
  last_len : length l.last ≡ g.H.HashFn.OUT;
  all_len : length l.all ≡ g.H.HashFn.OUT;
  counted : l.steps ≡ l.fn.steps + l._round;
}
