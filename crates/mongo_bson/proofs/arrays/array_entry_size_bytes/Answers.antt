use Rattle.std.proofs.Common.{◌≡◌, ◌+◌, length, IfOk, rules}
use Rattle.std.specs.Fmt.{decimal}
use Rattle.mongo_bson.proofs.Numbered.{entry_grows}
use Rattle.mongo_bson.proofs.arrays.array_entry_size_bytes.Goals as goal

pub returns-clause-growth : goal.returns-clause-growth
returns-clause-growth c =
    let size : IfOk c.get.result (λ growth. growth ≡ 2 + length (decimal c.args.index) + c.args.doc_len) = search rules in
    entry_grows c.args.index c.args.doc_len c.get.result size
