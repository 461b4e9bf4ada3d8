use Rattle.std.proofs.Common.{Err, length, ap, ◌∙◌, arith}
use Rattle.mongo_bench.proofs.OnlyMemory.{push_wants_memory, pushed_size}
use Rattle.mongo_bench.proofs.building.push.Goals as goal

pub want_of_memory-requires : goal.want_of_memory-requires
want_of_memory-requires c =
    let array = c.args.array.now in
    c.into.ensures ∙ push_wants_memory c.in-Err.fault (length array.document) array.count c.args.value (omega (arith, array.within, array.framed.most)) c.requires.room c.in-Err.ensures.refused (λ same. c.in-Err.ensures.too_long.0 (ap Err same))

pub returns-in-Ok : goal.returns-in-Ok
returns-in-Ok c =
    let array = c.args.array.now in
    pushed_size array.document c.push.new.self.document array.count c.args.value array.framed (omega (arith, array.within, array.framed.most)) c.in-Ok.ensures.added
