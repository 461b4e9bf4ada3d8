use Rattle.std.proofs.Common.{◌≡◌, ◌++◌, ◌-◌, Some, map, drop, length}
use Rattle.mongo_settings.specs.Line.{spaced, text_word}
use Rattle.mongo_settings.specs.Report.{mechanism_words}
use Rattle.mongo_settings.proofs.report.description.push_names.Given as goal

-- the words of the names that are left make it whole
abbrev pub invariant-names : goal.invariant-names
invariant-names l = l.out.items ++ spaced (map text_word (drop l.index l.names)) ≡ l.fn.out.items ++ spaced (mechanism_words (Some l.names))

abbrev pub decreases-names : goal.decreases-names
decreases-names l = length l.names - l.index
