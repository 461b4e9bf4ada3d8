use Rattle.std.proofs.Common.{◌≡◌, ◌<◌, ◌^◌, refl, arith}
use Rattle.mongo_scram.specs.Costs.{ledgers}
use Rattle.mongo_generate.specs.Generated.{authentication_at, all_messages}
use Rattle.mongo_generate.proofs.SoFar.{so_far_none, so_far_more, all_generated}
use Rattle.mongo_generate.proofs.logins.generate.Goals as goal

pub loop-number-init : goal.loop-number-init
loop-number-init g c =
    let steps = c.args.steps.now in
    record { so_far = so_far_none steps 0 c.new-hasher.result (ledgers steps c.new-state.result.salted) refl c.new-hasher.ensures c.new-state.ensures.entries c.new-state.ensures.rounds refl; rises = omega arith }

pub loop-number-preserved : goal.loop-number-preserved
loop-number-preserved g c =
    let l = c.loop-number in
    let x = authentication_at l.number in
    let met = c.in_ok-met.ensures.accepted in
    let few : l.number < 2 ^ 32 = omega (arith, c.requires, c.loop-number-test.true) in
    let rises = l.invariant.rises in
    let more = c.in_ok-met.ensures.steps in
    record {
      so_far = so_far_more c.args.steps.now l.number l.accepted c.tally.new.accepted l.hasher c.tally.new.hasher (ledgers l.steps l.state.salted) (ledgers c.log_in_numbered.new.steps c.log_in_numbered.new.state.salted)
          l.invariant.so_far c.in_ok-met.ensures.takes (c.tally.ensures.counted x met) (c.tally.ensures.digested x (all_messages l.number) met l.invariant.so_far.hashed) few;
      rises = omega arith;
    }

pub returns-clause-generated : goal.returns-clause-generated
returns-clause-generated g c =
    let l = c.loop-number in
    let end : l.number ≡ c.args.count = omega (arith, c.loop-number-test.false) in
    all_generated c.args.steps.now l.number c.args.count l.accepted c.rounds.result c.finalize.result l.hasher (ledgers l.steps l.state.salted) l.invariant.so_far end c.rounds.ensures (c.finalize.ensures (all_messages l.number) l.invariant.so_far.hashed)
