use Rattle.std.proofs.Common.{◌≡◌, ◌&&◌}
use Rattle.serde_json.specs.View.{members_view}
use Rattle.mongo_settings.specs.Keys.{is_known, is_built}
use Rattle.mongo_settings.specs.Kinds.{each_key}
use Rattle.mongo_settings.proofs.settings.keys.judge_members.Given as goal

-- the keys that are left decide
abbrev pub invariant-loop-key : goal.invariant-loop-key
invariant-loop-key l = record {
  known : each_key is_known (members_view l.key-iterator) ≡ each_key is_known (members_view l.members.entries);
  built : (l.all_built && each_key is_built (members_view l.key-iterator)) ≡ each_key is_built (members_view l.members.entries);
}
