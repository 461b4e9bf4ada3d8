use Rattle.std.proofs.Common.{◌≡◌, map, drop}
use Rattle.mongo_settings.specs.Keys.{key_row, support_in}
use Rattle.mongo_settings.proofs.settings.keys.support_in.Given as goal

abbrev pub invariant-loop-row : goal.invariant-loop-row
invariant-loop-row l = support_in (map (λ row. key_row row.0.now row.1) (drop l.row-index l.keys)) l.name ≡ support_in (map (λ row. key_row row.0.now row.1) l.keys) l.name
