use Rattle.std.proofs.Common.{◌≡◌, Some, length, refl, sym, subst, rules, arith}
use Rattle.mongo_wire.specs.Header.{signed_at}
use Rattle.mongo_wire.specs.declared.op_code.OpCode.TheVariants.{Message, Query}
use Rattle.mongo_service.specs.Juncture.{basis_of, juncture}
use Rattle.mongo_service.specs.Served.{FollowsHead}
use Rattle.mongo_service.proofs.Causes.{header_part}
use Rattle.mongo_service.proofs.Lasts.{flushed_read}
use Rattle.mongo_service.proofs.NoRequest.{other_code, unknown, unlike_code}
use Rattle.mongo_service.proofs.Spent.{none_spent}
use Rattle.mongo_service.proofs.ServedRequests.{none_taken}
use Rattle.mongo_service.specs.declared.fault.ServeFault.TheVariants.{NoFrame}
use Rattle.mongo_service.proofs.serve.take_request.Goals as goal

pub returns-in-Message : goal.returns-in-Message
returns-in-Message g c = record {
  request = λ requests before h f.
      c.take_message.ensures.request requests before h (subst (FollowsHead before (g.L.Outside.state c.args.link.now)) (sym c.in-Ok.ensures.spelled) f);
}

pub returns-in-Query : goal.returns-in-Query
returns-in-Query g c = record {
  request = λ requests before h f.
      c.take_query.ensures.request requests before h (subst (FollowsHead before (g.L.Outside.state c.args.link.now)) (sym c.in-Ok.ensures.spelled) f);
}

pub returns-in_default : goal.returns-in_default
returns-in_default g c = record {
  request = λ requests before h f.
      let head = c.args.head.now in
      let steps = c.args.steps.now in
      let sixteen : length head ≡ 16 = search rules in
      let known = c.in-Ok.ensures.header.0 in
      let other = other_code head (omega (arith, sixteen)) (unlike_code (signed_at 12 head) Message c.in-Ok.header.op_code known refl c.in_default.not-Message) (unlike_code (signed_at 12 head) Query c.in-Ok.header.op_code known refl c.in_default.not-Query) in
      none_taken c.args.settings.now requests (juncture before steps (basis_of c.args.serving.now)) (juncture (g.L.Outside.state c.args.link.now) steps (basis_of c.args.serving.now)) NoFrame head refl (header_part head (omega (arith, sixteen))) f.taken f.on.unwritten.written h.user
      (f.unstopped, f.on.unwritten.writes) (refl, omega (arith, sixteen), other) (flushed_read before _ f.on) (none_spent c.args.settings.now (Some NoFrame) head steps);
}

pub returns-in-Err : goal.returns-in-Err
returns-in-Err g c = record {
  request = λ requests before h f.
      let head = c.args.head.now in
      let steps = c.args.steps.now in
      let sixteen : length head ≡ 16 = search rules in
      let none = c.in-Err.ensures.unknown.1 in
      let other = other_code head (omega (arith, sixteen)) (unknown (signed_at 12 head) Message none refl) (unknown (signed_at 12 head) Query none refl) in
      none_taken c.args.settings.now requests (juncture before steps (basis_of c.args.serving.now)) (juncture (g.L.Outside.state c.args.link.now) steps (basis_of c.args.serving.now)) NoFrame head refl (header_part head (omega (arith, sixteen))) f.taken f.on.unwritten.written h.user
      (f.unstopped, f.on.unwritten.writes) (refl, omega (arith, sixteen), other) (flushed_read before _ f.on) (none_spent c.args.settings.now (Some NoFrame) head steps);
}
