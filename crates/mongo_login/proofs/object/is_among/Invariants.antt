use Rattle.std.proofs.Common.{◌≡◌, map, drop}
use Rattle.mongo_settings.specs.Kinds.{is_among}
use Rattle.mongo_login.proofs.object.is_among.Given as goal

-- the names that are left decide
abbrev pub invariant-loop-one : goal.invariant-loop-one
invariant-loop-one l = is_among (map (λ one. one.now) (drop l.one-index l.names)) l.name ≡ is_among (map (λ one. one.now) l.names) l.name
