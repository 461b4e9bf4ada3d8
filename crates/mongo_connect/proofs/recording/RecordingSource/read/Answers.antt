use Rattle.std.proofs.Common.{rules, ◌-◌, ◌^◌, ◌≤◌, ◌+◌, ◌∙◌, ap}
use Rattle.std.specs.Prelude.{min}
use Rattle.mongo_connect.proofs.Recorded.{counted_read}
use Rattle.mongo_connect.proofs.recording.RecordingSource.read.Goals as goal

pub invariant_of-self-clause-counted : goal.invariant_of-self-clause-counted
invariant_of-self-clause-counted g c =
    let fits : c.args.self.now.taken ≤ 2 ^ 64 - 1 = search rules in
    counted_read g.O.Origin.origin.left (g.L.Outside.state c.args.self.now.link).left (g.L.Outside.state c.read-read.new.self).left c.read-read.new.buf c.read-read.result c.args.self.now.taken c.saturating_add-self.result
    c.args.self.now.counted c.read-read.ensures.on.tells c.read-read.ensures.bytes c.read-read.ensures.most
    (c.saturating_add-self.ensures ∙ ap (λ n. min (c.args.self.now.taken + n) (2 ^ 64 - 1)) c.given_count.ensures) fits
