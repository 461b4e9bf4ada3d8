use Rattle.mongo_bson.specs.Document.{Holds, code_with_scope}
use Rattle.mongo_bson.proofs.Sizes.{code_with_scope_size, none_counted, counts_itself}
use Rattle.mongo_bson.proofs.shape.code_with_scope_len.Goals as goal

pub is_code_with_scope-requires : goal.is_code_with_scope-requires
is_code_with_scope-requires c = counts_itself c.args.bytes.now 0 c.in_ok-size.size c.in_ok-size.ensures

pub returns-else-is_code_with_scope : goal.returns-else-is_code_with_scope
returns-else-is_code_with_scope c =
    let bytes = c.args.bytes.now in
    none_counted (Holds code_with_scope) bytes 0 c.in_ok-size.size c.is_code_with_scope.result (code_with_scope_size bytes) c.in_ok-size.ensures c.if-is_code_with_scope.false c.is_code_with_scope.ensures.1
