use Rattle.std.proofs.Common.{◌≡◌, map}
use Rattle.serde_json.specs.View.{members_view}
use Rattle.mongo_settings.specs.Kinds.{each_key, is_among}
use Rattle.mongo_login.proofs.object.has_only.Given as goal

-- the keys that are left decide
abbrev pub invariant-loop-key : goal.invariant-loop-key
invariant-loop-key l = each_key (is_among (map (λ name. name.now) l.names)) (members_view l.key-iterator) ≡ each_key (is_among (map (λ name. name.now) l.names)) (members_view l.members.entries)
