use Rattle.std.proofs.Common.{◌≡◌, Some, None, refl, sym, ap, subst, ◌∙◌}
use Rattle.mongo_command.specs.HelloCommand.{hello_command}
use Rattle.mongo_establish.specs.Client.{balanced, hello_command_of}
use Rattle.mongo_establish.proofs.HelloBody.{common_is}
use Rattle.mongo_establish.proofs.hello.common_hello.Goals.{then-options+in_ok-append, else-options}
use Rattle.mongo_establish.proofs.hello.common_hello.Goals as goal

pub returns : goal.returns
returns c =
    let options = c.args.options.now in
    let hello = c.in_ok-hello.hello in
    let is : hello ≡ hello_command_of options = c.in_ok-hello.ensures.command ∙ ap (λ api. hello_command api (Some options.load_balanced) None None) c.as_ref.ensures.value in
    elim c.if-options.branch [
      | then-options+in_ok-append w ↦
          let body = subst (λ b. w.append.new.self ≡ balanced b hello.body) (sym w.if-options.true) w.in_ok-append.ensures.added in
          record { hello = common_is options hello c.if-options.hello w.append.new.self is w.hello-is body; refused = tt }
      | else-options w ↦
          let body = subst (λ b. hello.body ≡ balanced b hello.body) (sym w.if-options.false) refl in
          record { hello = common_is options hello c.if-options.hello hello.body is w.hello-is body; refused = tt }
    ]
