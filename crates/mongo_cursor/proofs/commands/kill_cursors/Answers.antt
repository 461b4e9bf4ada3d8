use Rattle.std.proofs.Common.{◌≡◌, ◌∙◌, ap, subst, IfOk, IfErr}
use Rattle.std.specs.Int.{w64}
use Rattle.std.proofs.lemmas.Int.{to_z-of_z}
use Rattle.mongo_command.specs.Command.{command_document}
use Rattle.mongo_command.specs.Exchange.{DocumentRefused}
use Rattle.mongo_cursor.specs.Commands.{kill_command, cursors_array}
use Rattle.mongo_cursor.proofs.commands.kill_cursors.Goals as goal

pub returns : goal.returns
returns c =
    let is = c.in_ok-cursors.ensures.array ∙ ap cursors_array (to_z-of_z w64 c.args.id c.ranges.id) in
    record {
      command = subst (λ cursors. IfOk c.kill_command.result (λ command. command ≡ kill_command c.args.namespace.now cursors)) is c.kill_command.ensures.command;
      refused = subst (λ cursors. IfErr c.kill_command.result (λ e. DocumentRefused e.kind (command_document (kill_command c.args.namespace.now cursors)))) is c.kill_command.ensures.refused;
    }
