use Rattle.std.proofs.Common.{◌≡◌, ◌++◌, string_bytes}
use Rattle.std.specs.Str.Iter.{chars_rest}
use Rattle.mongo_scram.specs.UserName.{escaped}
use Rattle.mongo_scram.proofs.user_name.saslname.Given as goal

abbrev pub invariant-loop-character : goal.invariant-loop-character
invariant-loop-character l = string_bytes l.text ++ escaped (chars_rest l.character-iterator) ≡ escaped l.fn.name
