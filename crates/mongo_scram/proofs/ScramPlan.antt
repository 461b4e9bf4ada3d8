-- The plan of a SCRAM login has one turn, whatever has happened.
use Rattle.std.proofs.Common.{ℕ, sym, ◌∙◌, Option, None, Some, List}
use Rattle.mongo_command.specs.Conversation.{IsOne, HasOneTurn}
use Rattle.mongo_command.proofs.Plans.{one_else, one_ending, one_unless, one_reading, one_saying, one_followed}
use Rattle.mongo_scram.specs.declared.server_first.ServerFirst.{ServerFirst}
use Rattle.mongo_scram.specs.declared.server_final.ServerFinal.{ServerFinal}
use Rattle.mongo_scram.specs.User.{User}
use Rattle.mongo_scram.specs.Plan.{Speculated, Handed, Challenge, nonce_by, verifier_by, start_said, close_said, ChallengeRow, challenged, opened, opening, NotCompletedRow, LastRow, closed, closing, scram_plan}
use Rattle.mongo_scram.proofs.OneMessage.{one_carried_first, one_carried_final, one_first_row, one_final_row}
use Rattle.mongo_scram.proofs.OneRow.{one_user, one_credential_row, one_valid_first_row, one_password_row, one_valid_final_row}

-- ---- the opening

-- what is asked of a user by a first message of the server
abbrev pub challenge_by_first : User → ServerFirst → Challenge
challenge_by_first user first = record { user = user; first = first }

one_challenge_row : (handed : Handed) (c : Challenge) → IsOne (ChallengeRow handed c)
one_challenge_row handed c = one_else _ _ (one_valid_first_row c.first (nonce_by handed) handed.max_iterations) (one_password_row handed.version c.user.password)

one_challenged : (handed : Handed) (user : User) (reply : List ℕ) → HasOneTurn (challenged handed user reply)
one_challenged handed user reply =
    one_unless _ _ (one_first_row reply) (one_reading _ _ (one_carried_first reply) (λ first.
    one_unless _ _ (one_challenge_row handed (challenge_by_first user first)) (one_ending (challenge_by_first user first))))

one_opened : (speculated : Option Speculated) (handed : Handed) (user : User) → HasOneTurn (opened speculated handed user)
one_opened None handed user = one_saying (start_said handed user) (challenged handed user) (one_challenged handed user)
one_opened (Some speculated) handed user = one_challenged handed user speculated.reply

pub one_opening : (handed : Handed) → HasOneTurn (opening handed)
one_opening handed = one_unless _ _ (one_credential_row handed.credential) (one_reading _ _ (one_user handed.credential) (one_opened handed.speculated handed))

-- ---- the closing

one_not_completed : (last : ServerFinal) → IsOne (NotCompletedRow last)
one_not_completed last = λ a b p q. p.0 ∙ sym q.0

one_refusal : (handed : Handed) (c : Challenge) (last : ServerFinal) → IsOne (LastRow handed c last)
one_refusal handed c last = one_else _ _ (one_valid_final_row last c.first.conversation_id (verifier_by handed c)) (one_not_completed last)

one_closed : (handed : Handed) (c : Challenge) (reply : List ℕ) → HasOneTurn (closed handed c reply)
one_closed handed c reply =
    one_unless _ _ (one_final_row reply) (one_reading _ _ (one_carried_final reply) (λ last. one_unless _ _ (one_refusal handed c last) (one_ending c)))

pub one_closing : (handed : Handed) (c : Challenge) → HasOneTurn (closing handed c)
one_closing handed c = one_saying (close_said handed c) (closed handed c) (one_closed handed c)

-- ---- the login

pub one_scram : (handed : Handed) → HasOneTurn (scram_plan handed)
one_scram handed = one_followed (opening handed) (closing handed) (one_opening handed) (one_closing handed)
