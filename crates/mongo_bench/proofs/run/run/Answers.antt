use Rattle.std.proofs.Common.{◌≡◌, ◌∙◌}
use Rattle.mongo_bench.specs.declared.task.BenchTask.TheVariants.{Derive, Walk, Frames, Insert, Login}
use Rattle.mongo_bench.proofs.OneTask.{one_task}
use Rattle.mongo_bench.proofs.run.run.Goals as goal

pub returns-in-Derive-clause-done : goal.returns-in-Derive-clause-done
returns-in-Derive-clause-done g c = λ task asked done.
    let same : task ≡ Derive c.in-Derive.hash c.in-Derive.count = one_task _ task c.in-Some.task asked c.in-Some.ensures ∙ c.in-Derive.is in
    rw same (c.run_derivation.ensures.done done)

pub returns-in-Derive-clause-cost : goal.returns-in-Derive-clause-cost
returns-in-Derive-clause-cost g c = λ task asked.
    let same : task ≡ Derive c.in-Derive.hash c.in-Derive.count = one_task _ task c.in-Some.task asked c.in-Some.ensures ∙ c.in-Derive.is in
    rw same c.run_derivation.ensures.cost

pub returns-in-Walk-clause-work : goal.returns-in-Walk-clause-work
returns-in-Walk-clause-work g c = λ task asked done.
    let same : task ≡ Walk c.in-Walk.pass c.in-Walk.shape c.in-Walk.count = one_task _ task c.in-Some.task asked c.in-Some.ensures ∙ c.in-Walk.is in
    rw same (c.run_walk.ensures.work done)

pub returns-in-Frames-clause-work : goal.returns-in-Frames-clause-work
returns-in-Frames-clause-work g c = λ task asked done.
    let same : task ≡ Frames c.in-Frames.direction c.in-Frames.size c.in-Frames.count = one_task _ task c.in-Some.task asked c.in-Some.ensures ∙ c.in-Frames.is in
    rw same (c.run_frames.ensures.work done)

pub returns-in-Insert-clause-work : goal.returns-in-Insert-clause-work
returns-in-Insert-clause-work g c = λ task asked done.
    let same : task ≡ Insert c.in-Insert.count = one_task _ task c.in-Some.task asked c.in-Some.ensures ∙ c.in-Insert.is in
    rw same (c.run_inserts.ensures.work done)

pub returns-in-Login-clause-done : goal.returns-in-Login-clause-done
returns-in-Login-clause-done g c = λ task asked done.
    let same : task ≡ Login c.in-Login.hash c.in-Login.count = one_task _ task c.in-Some.task asked c.in-Some.ensures ∙ c.in-Login.is in
    rw same (c.run_logins.ensures.done done)

pub returns-in-Login-clause-work : goal.returns-in-Login-clause-work
returns-in-Login-clause-work g c = λ task asked done.
    let same : task ≡ Login c.in-Login.hash c.in-Login.count = one_task _ task c.in-Some.task asked c.in-Some.ensures ∙ c.in-Login.is in
    rw same (c.run_logins.ensures.work done)

pub returns-in-Login-clause-cost : goal.returns-in-Login-clause-cost
returns-in-Login-clause-cost g c = λ task asked.
    let same : task ≡ Login c.in-Login.hash c.in-Login.count = one_task _ task c.in-Some.task asked c.in-Some.ensures ∙ c.in-Login.is in
    rw same c.run_logins.ensures.cost
