use Rattle.std.proofs.Common.{rules, ◌≡◌, ◌+◌, ◌++◌, ◌∙◌, ap, sym, take, length}
use Rattle.mongo_connect.proofs.Recorded.{kept_more, kept_still}
use Rattle.mongo_connect.proofs.recording.RecordingSink.write.Goals as goal

pub invariant_of-self-in-Ok-clause-counted : goal.invariant_of-self-in-Ok-clause-counted
invariant_of-self-in-Ok-clause-counted g c = λ bytes rest o s. c.args.self.now.counted bytes rest o (sym c.write.ensures.on.unread.left ∙ s)

pub invariant_of-self-in-Err-clause-counted : goal.invariant_of-self-in-Err-clause-counted
invariant_of-self-in-Err-clause-counted g c = λ bytes rest o s. c.args.self.now.counted bytes rest o (sym c.write.ensures.on.unread.left ∙ s)

pub invariant_of-self-in-Ok-clause-kept : goal.invariant_of-self-in-Ok-clause-kept
invariant_of-self-in-Ok-clause-kept g c =
    let recorded = c.args.self.now.written.items in
    let piece = c.args.piece.now in
    let room : c.extend_from_slice.new.self.items ≡ recorded ++ piece = search rules in
    let front : c.len-before.result ≡ length recorded = search rules in
    kept_more g.O.Origin.origin.written (g.L.Outside.state c.args.self.now.link).written _ recorded piece c.truncate.new.self.items c.in-Ok.count
    c.args.self.now.kept c.write.ensures.on.tells c.in-Ok.ensures.bytes
    (c.truncate.ensures.items ∙ ap (take (c.len-before.result + c.in-Ok.count)) room ∙ ap (λ n. take (n + c.in-Ok.count) (recorded ++ piece)) front)

pub invariant_of-self-in-Err-clause-kept : goal.invariant_of-self-in-Err-clause-kept
invariant_of-self-in-Err-clause-kept g c =
    let recorded = c.args.self.now.written.items in
    let piece = c.args.piece.now in
    let room : c.extend_from_slice.new.self.items ≡ recorded ++ piece = search rules in
    let front : c.len-before.result ≡ length recorded = search rules in
    kept_still g.O.Origin.origin.written (g.L.Outside.state c.args.self.now.link).written _ recorded piece c.truncate-in-Err.new.self.items
    c.args.self.now.kept c.write.ensures.on.tells c.in-Err.ensures.bytes
    (c.truncate-in-Err.ensures.items ∙ ap (take c.len-before.result) room ∙ ap (λ n. take n (recorded ++ piece)) front)
