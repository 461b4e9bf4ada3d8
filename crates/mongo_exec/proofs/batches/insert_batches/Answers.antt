use Rattle.std.proofs.Common.{◌≡◌, ◌+◌, [], ◌∷◌, ◌++◌, length, refl, sym, subst, ◌∙◌, arith}
use Rattle.mongo_command.specs.EndsExchange.{footing}
use Rattle.mongo_exec.specs.Course.{Come}
use Rattle.mongo_exec.proofs.Coming.{first_split, some_taken, some_left, none_left, come_begun, come_more, come_all, come_stopped, come_refused}
use Rattle.mongo_exec.proofs.batches.insert_batches.Goals as goal

pub batches-init : goal.batches-init
batches-init g c = λ d insert described plan. ([], come_begun g.L.Outside.state d insert c.args.documents.now (footing c.args.connection.now c.args.link.now c.args.ids.now) c.args.plan.now c.new-tally.result plan c.requires.unkept c.new-tally.ensures.outcome c.new-tally.ensures.behind)

pub returns-then-stops : goal.returns-then-stops
returns-then-stops g c = record {
  ends = λ d insert described plan.
      (let come = c.batches.invariant d insert described plan in
      let first = first_split d insert c.args.documents.now c.args.plan.now c.batches.rest.now c.batch_length.result c.split_at.result.0.now c.split_at.result.1.now plan c.batch_length.ensures.within c.batch_length.ensures.few c.batch_length.ensures.short c.batch_length.ensures.greatest c.split_at.ensures.front c.split_at.ensures.back in
      let ends = c.in-Ok.ensures.ends d insert (come.1.keeps.description ∙ described) plan.command in
      let stop = c.stops.ensures.0 c.if-stops.true in
      rw (c.into_outcome.ensures) (come_stopped g.L.Outside.state d insert c.args.documents.now (footing c.args.connection.now c.args.link.now c.args.ids.now) c.args.plan.now come.0 c.batches.rest.now c.split_at.result.0.now c.split_at.result.1.now c.batches.place c.batches.tally c.insert_batch.new.tally
      (footing c.batches.connection c.batches.link c.batches.ids) (footing c.insert_batch.new.connection c.insert_batch.new.link c.insert_batch.new.ids) c.in-Ok.told plan come.1 first ends (sym plan.ordered ∙ stop.0, λ none. stop.1 (ends.added.1.tells.errors ∙ none))));
}

pub returns-in-Err : goal.returns-in-Err
returns-in-Err g c = record {
  ends = λ d insert described plan.
      (let come = c.batches.invariant d insert described plan in
      let first = first_split d insert c.args.documents.now c.args.plan.now c.batches.rest.now c.batch_length.result c.split_at.result.0.now c.split_at.result.1.now plan c.batch_length.ensures.within c.batch_length.ensures.few c.batch_length.ensures.short c.batch_length.ensures.greatest c.split_at.ensures.front c.split_at.ensures.back in
      let ends = c.in-Err.ensures.ends d insert (come.1.keeps.description ∙ described) plan.command in
      rw (c.into_outcome-in-Err.ensures) (come_refused g.L.Outside.state d insert c.args.documents.now (footing c.args.connection.now c.args.link.now c.args.ids.now) c.args.plan.now come.0 c.batches.rest.now c.split_at.result.0.now c.split_at.result.1.now c.batches.place c.batches.tally c.insert_batch.new.tally
      (footing c.batches.connection c.batches.link c.batches.ids) (footing c.insert_batch.new.connection c.insert_batch.new.link c.insert_batch.new.ids) c.in-Err.error plan come.1 first (some_left c.batches.rest.now c.batches-test.ensures) ends));
}

pub batches-smaller : goal.batches-smaller
batches-smaller g c =
    let (d, insert, described, plan) = c.requires.planned in
    let come = c.batches.invariant d insert described plan in
    let some = some_taken d insert c.args.documents.now c.args.plan.now c.batches.rest.now c.batch_length.result plan (some_left c.batches.rest.now c.batches-test.ensures) come.1.accepted c.batch_length.ensures.greatest in
    omega (arith, some, c.batch_length.ensures.within, c.split_at.ensures.back_len)

pub batches-preserved : goal.batches-preserved
batches-preserved g c = λ d insert described plan.
    (let come = c.batches.invariant d insert described plan in
    let first = first_split d insert c.args.documents.now c.args.plan.now c.batches.rest.now c.batch_length.result c.split_at.result.0.now c.split_at.result.1.now plan c.batch_length.ensures.within c.batch_length.ensures.few c.batch_length.ensures.short c.batch_length.ensures.greatest c.split_at.ensures.front c.split_at.ensures.back in
    let some = some_taken d insert c.args.documents.now c.args.plan.now c.batches.rest.now c.batch_length.result plan (some_left c.batches.rest.now c.batches-test.ensures) come.1.accepted c.batch_length.ensures.greatest in
    let ends = c.in-Ok.ensures.ends d insert (come.1.keeps.description ∙ described) plan.command in (
      come.0 ++ ends.added.0 ∷ [],
      come_more g.L.Outside.state d insert c.args.documents.now (footing c.args.connection.now c.args.link.now c.args.ids.now) come.0 c.batches.rest.now c.split_at.result.0.now c.split_at.result.1.now c.batches.place (c.batches.place + length c.split_at.result.0.now) c.batches.tally c.insert_batch.new.tally
          (footing c.batches.connection c.batches.link c.batches.ids) (footing c.insert_batch.new.connection c.insert_batch.new.link c.insert_batch.new.ids) c.in-Ok.told come.1 first (omega (arith, some, c.split_at.ensures.front_len)) refl ends
          (λ stop. (let yes = c.stops.ensures.1 (plan.ordered ∙ stop.0, λ none. stop.1 (sym ends.added.1.tells.errors ∙ none)) in let no = c.if-stops.false in cc)),
    ))

pub returns : goal.returns
returns g c = record {
  ends = λ d insert described plan.
      (let come = c.batches.invariant d insert described plan in
      let none : c.batches.rest.now ≡ [] = none_left c.batches.rest.now c.batches-test.ensures in
      rw (c.into_outcome-2.ensures) (come_all g.L.Outside.state d insert c.args.documents.now (footing c.args.connection.now c.args.link.now c.args.ids.now) c.args.plan.now come.0 c.batches.place c.batches.tally (footing c.batches.connection c.batches.link c.batches.ids) plan
      (subst (λ rest. Come g.L.Outside.state d insert c.args.documents.now come.0 rest c.batches.place c.batches.tally (footing c.args.connection.now c.args.link.now c.args.ids.now) (footing c.batches.connection c.batches.link c.batches.ids)) none come.1)));
}
