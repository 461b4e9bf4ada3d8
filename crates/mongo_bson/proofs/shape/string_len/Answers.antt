use Rattle.mongo_bson.specs.Document.{IsString}
use Rattle.mongo_bson.proofs.Sizes.{string_size, none_counted, counts_itself}
use Rattle.mongo_bson.proofs.shape.string_len.Goals as goal

pub is_string-requires : goal.is_string-requires
is_string-requires c = counts_itself c.args.bytes.now 4 c.in_ok-size.size c.in_ok-size.ensures

pub returns-else-is_string : goal.returns-else-is_string
returns-else-is_string c =
    let bytes = c.args.bytes.now in
    none_counted IsString bytes 4 c.in_ok-size.size c.is_string.result (string_size bytes) c.in_ok-size.ensures c.if-is_string.false c.is_string.ensures.1
