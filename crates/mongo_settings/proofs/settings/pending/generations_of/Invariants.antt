use Rattle.std.proofs.Common.{◌≡◌, []}
use Rattle.serde_json.specs.View.{members_view}
use Rattle.mongo_settings.specs.Pending.{with_members}
use Rattle.mongo_settings.proofs.settings.pending.generations_of.Given as goal

-- the numbers so far with those of the members that are left are all
abbrev pub invariant-loop-key : goal.invariant-loop-key
invariant-loop-key l = with_members l.generations (members_view l.key-iterator) ≡ with_members [] (members_view l.members.entries)
