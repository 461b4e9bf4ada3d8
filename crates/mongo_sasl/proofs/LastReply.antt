-- A plan that one exchange follows to its end, and the reply of that exchange.
use Rattle.std.proofs.Common.{ℕ, ℤ, refl, List, [], ◌∷◌}
use Rattle.mongo_wire.specs.Outside.{State}
use Rattle.mongo_command.specs.Conversation.{Said, exchanged, says, ends, Plan, saying, plain_message, Reached}
use Rattle.mongo_command.specs.Exchange.{CountsStay, Exchanges, point}
use Rattle.mongo_command.proofs.Talked.{talked_by, talked_once}
use Rattle.mongo_sasl.specs.Login.{EndsByReply}

-- the exchange of the plan's first command, by whose reply the plan ends
pub ends_by_reply : {A : Type 0} (plan : Plan A) (answer : A) (said : Said) (reply : List ℕ) (old new : State) (before after : ℤ) → plan [] (says said) → plan (exchanged said reply ∷ []) (ends answer)
    → Exchanges said.maximum (plain_message said.document) (point old before) (point new after) reply → CountsStay old new → EndsByReply plan answer reply (point old before) (point new after)
ends_by_reply {A} plan answer said reply old new before after turn end e counts =
    let once = talked_once said (λ (heard : List ℕ). plan) reply old new before after e counts in
    record {
      said = said;
      talked = talked_by (saying said (λ (heard : List ℕ). plan)) plan (exchanged said reply ∷ []) old new before after (turn, once.follows.1, tt) once;
      answer_is = end;
    }

-- the plan was reached
pub ends_reached : {A : Type 0} (plan : Plan A) (answer : A) (document : List ℕ) (old new : State) (before after : ℤ) → EndsByReply plan answer document (point old before) (point new after) → Reached plan answer (point old before) (point new after)
ends_reached plan answer document old new before after is = record {
  events = exchanged is.said document ∷ [];
  talked = is.talked;
  given_is = refl;
  answer_is = is.answer_is;
}
