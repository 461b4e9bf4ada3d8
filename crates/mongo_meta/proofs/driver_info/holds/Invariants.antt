use Rattle.std.proofs.Common.{◌≢◌, ℕ, ◌<◌, get_or}
use Rattle.mongo_meta.proofs.driver_info.holds.Given as goal

abbrev pub invariant-loop-known : goal.invariant-loop-known
invariant-loop-known l = (k : ℕ) → k < l.known-index → get_or l.infos k l.info ≢ l.info
