use Rattle.std.proofs.Common.{rules}
use Rattle.mongo_command.specs.Hello.{IsHelloTable, IsSetTable}
use Rattle.mongo_command.proofs.FieldAnswers.{refused, three_refused, part_fault}
use Rattle.mongo_command.proofs.hello_table.response_of.Goals as goal

pub returns-in_err-set : goal.returns-in_err-set
returns-in_err-set c = λ els are. part_fault IsHelloTable IsSetTable els els c.in_err-set.field-0.0 c.from_residual-in_err-set.result c.from_residual-in_err-set.ensures.1 (λ t is. (t, is.set)) (c.in_err-set.ensures els are)

pub returns-in_err-is_writable_primary : goal.returns-in_err-is_writable_primary
returns-in_err-is_writable_primary c = λ els are. three_refused IsHelloTable els _ _ _ _ _ _ _ _ c.from_residual.ensures.1 (λ t is. ((t.is_writable_primary, t.is_master, t.hello_ok), (is.is_writable_primary, is.is_master, is.hello_ok))) (c.in_err-is_writable_primary.ensures els are)

pub returns-in_err-hidden : goal.returns-in_err-hidden
returns-in_err-hidden c = λ els are. three_refused IsHelloTable els _ _ _ _ _ _ _ _ c.from_residual-in_err-hidden.ensures.1 (λ t is. ((t.hidden, t.secondary, t.arbiter_only), (is.hidden, is.secondary, is.arbiter_only))) (c.in_err-hidden.ensures els are)

pub returns-in_err-is_replica_set : goal.returns-in_err-is_replica_set
returns-in_err-is_replica_set c = λ els are. refused IsHelloTable els _ _ _ _ c.from_residual-in_err-is_replica_set.ensures.1 (λ t is. (t.is_replica_set, is.is_replica_set)) (c.in_err-is_replica_set.ensures els are)

pub returns-in_err-last_write : goal.returns-in_err-last_write
returns-in_err-last_write c = λ els are. three_refused IsHelloTable els _ _ _ _ _ _ _ _ c.from_residual-in_err-last_write.ensures.1 (λ t is. ((t.last_write, t.msg, t.me), (is.last_write, is.msg, is.me))) (c.in_err-last_write.ensures els are)

pub returns : goal.returns
returns c = λ els are.
    let set = c.in_ok-set.ensures els are in
    let flags = c.in_ok-is_writable_primary.ensures els are in
    let roles = c.in_ok-hidden.ensures els are in
    let last = c.in_ok-last_write.ensures els are in
    record {
      set = search (rules, set);
      is_writable_primary = flags.0;
      is_master = flags.1;
      hello_ok = flags.2;
      msg = last.1;
      me = last.2;
      hidden = roles.0;
      secondary = roles.1;
      arbiter_only = roles.2;
      is_replica_set = c.in_ok-is_replica_set.ensures els are;
      last_write = last.0;
    }
