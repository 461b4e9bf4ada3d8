use Rattle.std.proofs.Common.{inl, inr, refl, arith}
use Rattle.mongo_session.proofs.Carried.{hello_carried}
use Rattle.mongo_service.proofs.NoHello.{no_hello}
use Rattle.mongo_service.proofs.Spent.{request_at_most}
use Rattle.mongo_session.specs.declared.request.Request.TheVariants.{Hello}
use Rattle.mongo_service.proofs.serve.answer_query.Goals as goal

pub returns-in-Ok-clause-remembers : goal.returns-in-Ok-clause-remembers
returns-in-Ok-clause-remembers g c = λ requests h. c.answer_hello.ensures.remembers requests c.args.document.bytes.now h c.in-Hello.ensures

pub returns-in-Ok-clause-is_hello : goal.returns-in-Ok-clause-is_hello
returns-in-Ok-clause-is_hello g c = hello_carried c.args.document.bytes.now c.in-Hello.hello.is_legacy c.in-Hello.ensures.name

pub returns-in_default : goal.returns-in_default
returns-in_default g c = record {
  remembers = λ requests h. tt;
  answered = tt;
  is_hello = tt;
  kept = refl;
  refused = inr (refl, no_hello c.args.document.bytes.now c.request_of.result c.request_of.ensures c.in_default.not-Hello);
  cost = tt;
  at_most = (omega arith, inl refl);
  no_cost = λ _. refl;
}

pub returns-in-Err-clause-at_most : goal.returns-in-Err-clause-at_most
returns-in-Err-clause-at_most g c = request_at_most c.args.settings.now c.args.document.bytes.now (Hello c.in-Hello.hello) c.in-Hello.ensures c.args.steps.now c.answer_hello.new.steps c.in-Err.ensures.at_most
