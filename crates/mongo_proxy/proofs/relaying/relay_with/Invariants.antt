use Rattle.mongo_wire.specs.Buffer.{StaysWithin}
use Rattle.mongo_wire.specs.Header.{maximum_of}
use Rattle.mongo_proxy.specs.RelayedFrames.{stand}
use Rattle.mongo_proxy.specs.Sides.{sides}
use Rattle.mongo_proxy.specs.Turn.{Relaying}
use Rattle.mongo_proxy.proofs.relaying.relay_with.Given as goal

-- the frames so far were passed on and counted, in memory that stays within the maximum
abbrev pub invariant-relaying : goal.invariant-relaying
invariant-relaying g l =
    Relaying (maximum_of l.max) l.fn.ids (sides (g.C.Outside.state l.fn.client) (g.S.Outside.state l.fn.server)) (sides (g.C.Outside.state l.client) (g.S.Outside.state l.server)) (stand l.awaited l.ids) l._turn l.done
    × StaysWithin (maximum_of l.max) l.fn.buffers.commands l.buffers.commands × StaysWithin (maximum_of l.max) l.fn.buffers.replies l.buffers.replies
