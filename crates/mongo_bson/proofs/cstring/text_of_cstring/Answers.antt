use Rattle.std.proofs.lemmas.Str.{IsUtf8-from_ascii}
use Rattle.mongo_bson.proofs.cstring.text_of_cstring.Goals as goal

pub from_utf8_unchecked-requires : goal.from_utf8_unchecked-requires
from_utf8_unchecked-requires c = IsUtf8-from_ascii c.args.front.now (c.requires c.if-is_ascii.true)
